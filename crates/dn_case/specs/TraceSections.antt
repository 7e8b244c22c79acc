-- The trace section at the front of a text.
use Rattle.std.specs.Prelude.{ℕ, ◌+◌, List, [], ◌∷◌, length, take, Bool, false, ◌||◌, nat_eq, if◌then◌else◌, codes}
use Rattle.std.specs.List.{concat, position_or_len, starts_with}
use Rattle.std.specs.Cmp.Lexicographic.{pointwise}
use Rattle.dn_text.specs.Lines.{lines}

-- the line closes a section
unfoldable pub closes : List ℕ → Bool
closes line = starts_with nat_eq line (codes "end trace ") || starts_with nat_eq line (codes "cut ")

-- the first line is `trace`, with its newline
abbrev pub begins_section : List (List ℕ) → Bool
begins_section [] = false
begins_section (line ∷ more) = pointwise nat_eq line (codes "trace\n")

-- up to and with the first line that closes a section; all lines where none does
abbrev pub up_to_close : List (List ℕ) → List (List ℕ)
up_to_close ls = take (position_or_len closes ls + 1) ls

-- the lines of the trace section at the front of these lines
abbrev pub section : List (List ℕ) → List (List ℕ)
section ls = if begins_section ls then up_to_close ls else []

-- the length of the trace section at the front of a text, 0 where there is none
abbrev pub section_len : List ℕ → ℕ
section_len text = length (concat (section (lines text)))
