-- The reports of this crate's probes. Each remembers first, in decimal, for how many rows it said yes.
use Rattle.std.specs.Prelude.{ℕ, zero, suc, ◌+◌, Bool, true, false, List, [], ◌∷◌, ◌++◌, codes}
use Rattle.std.specs.Fmt.{decimal}
use Rattle.std.specs.Str.Parse.{digits_value}
use Rattle.dn_probe.specs.Meaning.{Memory}

-- the number in the text at this place, 0 where none is there
abbrev pub number_at : Memory → ℕ → ℕ
number_at [] place = 0
number_at (text ∷ texts) zero = digits_value 10 text
number_at (text ∷ texts) (suc place) = number_at texts place

abbrev pub one_if : Bool → ℕ
one_if true = 1
one_if false = 0

-- for how many rows it has said yes
abbrev pub yes_count : Memory → ℕ
yes_count memory = number_at memory 0

-- the same after a further answer, as text
abbrev pub counted : Memory → Bool → List ℕ
counted memory answer = decimal (yes_count memory + one_if answer)

-- `report NAME shown N yes M`
unfoldable pub report_text : List ℕ → ℕ → ℕ → List ℕ
report_text name shown times = codes "report " ++ name ++ codes " shown " ++ decimal shown ++ codes " yes " ++ decimal times ++ 10 ∷ []

abbrev pub report_line : List ℕ → Memory → ℕ → List ℕ
report_line name memory shown = report_text name shown (yes_count memory)
