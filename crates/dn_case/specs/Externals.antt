-- The line of one external of a header, whatever comes before it.
use Rattle.std.specs.Prelude.{◌≡◌, ℕ, List, Option, Some, None}
use Rattle.dn_model.specs.declared.feed.External.{External}
use Rattle.dn_model.specs.Cases.{Heading, IsExternal}
use Rattle.dn_case.specs.Spelling.{spelled, external_line}

-- The line is that of this external, and the external meets the rules of the header. No group is below the least.
pub record IsExternalLine (h : Heading) (x : External) (line : List ℕ) : Type 0 where
  pub meets : IsExternal h 0 x
  pub is : line ≡ spelled (external_line h.routers x)

-- What is found is such, and nothing is found only where there is no such.
abbrev pub Finds : {X : Type 0} → (X → Type 0) → Option X → Type 0
Finds {X = X} P None = (x : X) → ¬ P x
Finds P (Some x) = P x
