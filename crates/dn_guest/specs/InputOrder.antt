-- The order of inputs: the kind, then the port or number, then the body's bytes.
use Rattle.std.specs.Prelude.{ℕ, List, [], ◌∷◌}
use Rattle.std.specs.declared.cmp.Ordering.{Ordering}
use Rattle.std.specs.Ordering.{nat_cmp}
use Rattle.std.specs.Cmp.{IsTotalOrder, on_total}
use Rattle.std.specs.Cmp.Lexicographic.{slice_cmp, nat_list_cmp_total}
use Rattle.dn_guest.specs.declared.input.Input.{Input}
use Rattle.dn_guest.specs.declared.input.Input.TheVariants.{Tick, Cmd, Down, Up, Msg}

-- the place of the kind
abbrev pub kind_of : Input → ℕ
kind_of (Tick group) = 0
kind_of (Cmd body) = 1
kind_of (Down port) = 2
kind_of (Up port) = 3
kind_of (Msg port body) = 4

-- an input as the numbers by which it is compared, the first one that differs deciding
abbrev pub input_numbers : Input → List ℕ
input_numbers (Tick group) = 0 ∷ group ∷ []
input_numbers (Cmd body) = 1 ∷ body
input_numbers (Down port) = 2 ∷ port ∷ []
input_numbers (Up port) = 3 ∷ port ∷ []
input_numbers (Msg port body) = 4 ∷ port ∷ body

unfoldable pub input_cmp : Input → Input → Ordering
input_cmp x y = slice_cmp nat_cmp (input_numbers x) (input_numbers y)

-- the order is total
pub input_total : IsTotalOrder input_cmp
unfolding input_cmp
input_total = on_total input_numbers nat_list_cmp_total
