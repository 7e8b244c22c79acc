-- The prefix lines of a text, and its other lines.
use Rattle.std.specs.Prelude.{◌≡◌, ◌++◌, ℕ, List, Bool, false, not, Option, Some, None, is_some}
use Rattle.std.specs.List.{filter, AllByRecursion}
use Rattle.std.specs.Option.{option_map_or}
use Rattle.dn_case.specs.Shapes.{Line, Prefix, is_word, line_of}

-- the router's name in a prefix line
abbrev pub prefix_name : Option Line → Option (List ℕ)
prefix_name (Some (Prefix name net cost)) = Some name
prefix_name _ = None

abbrev pub is_other : List ℕ → Bool
is_other text = not (is_some (prefix_name (line_of text)))

abbrev pub is_prefix_of : List ℕ → List ℕ → Bool
is_prefix_of name text = option_map_or (is_word name) (prefix_name (line_of text)) false

-- the lines that aren't prefix lines, in their order
abbrev pub other_lines : List (List ℕ) → List (List ℕ)
other_lines ls = filter is_other ls

-- the prefix lines of a router, in their order
abbrev pub prefix_lines_of : List ℕ → List (List ℕ) → List (List ℕ)
prefix_lines_of name ls = filter (is_prefix_of name) ls

-- no other lines
abbrev pub ArePrefixLines : List (List ℕ) → Type 0
ArePrefixLines ls = AllByRecursion (λ text. is_other text ≡ false) ls

-- The two lists are one list but for the prefix lines, which stand together at one place of it.
pub record StandTogether (ls ms : List (List ℕ)) : Type 0 where
  pub front : List (List ℕ)
  pub first : List (List ℕ)
  pub second : List (List ℕ)
  pub back : List (List ℕ)
  pub ls_are : ls ≡ front ++ (first ++ back)
  pub ms_are : ms ≡ front ++ (second ++ back)
  pub prefixes : ArePrefixLines first × ArePrefixLines second
