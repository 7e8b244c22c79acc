use Rattle.std.proofs.Common.{◌≡◌, ◌++◌, length}
use Rattle.std.specs.Option.{option_map}
use Rattle.dn_text.specs.Hexadecimals.{pairs}
use Rattle.dn_text.proofs.hexadecimals.pairs.Given as goal

abbrev pub invariant-pairs : goal.invariant-pairs
invariant-pairs l = option_map (λ rest. l.bytes ++ rest) (pairs l.left) ≡ pairs l.field

abbrev pub decreases-pairs : goal.decreases-pairs
decreases-pairs l = length l.left
