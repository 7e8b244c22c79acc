-- The lines of a case, as a relation between lists of lines and cases.
use Rattle.std.specs.Prelude.{◌≡◌, ℕ, ◌==◌, List, [], ◌++◌, length, map, get_or}
use Rattle.std.specs.List.{filter, concat}
use Rattle.dn_model.specs.declared.router.RouterDef.{RouterDef}
use Rattle.dn_model.specs.declared.router.Prefix.{Prefix}
use Rattle.dn_model.specs.Routers.{name_at}
use Rattle.dn_model.specs.Cases.{Recording, IsRecording}
use Rattle.dn_case.specs.Shapes.{Line}
use Rattle.dn_case.specs.Spelling.{spelled, prefix_line, lines_with}

-- Several lists in one, each item with the number of its list: those of each number are that list, in its order. No
-- item has another number.
abbrev pub IsInterleaving : {X : Type 0} → List (List X) → List (ℕ × X) → Type 0
IsInterleaving {X = X} lists items = (i : ℕ) → map (λ (x : ℕ × X). x.1) (filter (λ (x : ℕ × X). x.0 == i) items) ≡ get_or lists i []

abbrev pub prefixes_of : List RouterDef → List (List Prefix)
prefixes_of routers = map (λ r. r.prefixes) routers

-- the lines of prefixes, each with the number of its router
abbrev pub numbered_lines : List RouterDef → List (ℕ × Prefix) → List Line
numbered_lines routers prefixes = map (λ (x : ℕ × Prefix). prefix_line (name_at routers x.0) x.1) prefixes

-- The prefixes of a case, each with the number of its router, in an order that keeps each router's own.
abbrev pub KeepsOrder : Recording → List (ℕ × Prefix) → Type 0
KeepsOrder c prefixes = IsInterleaving (prefixes_of c.header.routers) prefixes

-- the lines of a case with its prefixes in this order
abbrev pub case_lines : Recording → List (ℕ × Prefix) → List Line
case_lines c prefixes = lines_with c (numbered_lines c.header.routers prefixes)

-- The lines spell the case. Prefix lines of different routers come in any order among themselves.
pub record Spells (ls : List (List ℕ)) (c : Recording) : Type 0 where
  -- the case meets the rules
  pub meets : IsRecording c
  pub prefixes : List (ℕ × Prefix)
  pub order : KeepsOrder c prefixes
  pub are : ls ≡ map spelled (case_lines c prefixes)

-- The text begins with lines that spell the case, of so many bytes; anything may follow.
pub record BeginsWith (text : List ℕ) (c : Recording) (size : ℕ) : Type 0 where
  pub lines : List (List ℕ)
  pub rest : List ℕ
  pub spell : Spells lines c
  pub is : text ≡ concat lines ++ rest
  pub long : size ≡ length (concat lines)
