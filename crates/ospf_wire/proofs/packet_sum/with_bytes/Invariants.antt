use Rattle.std.proofs.Common.{◌≡◌, ◌+◌, ◌*◌, take, ℕ}
use Rattle.std.specs.Prelude.{sum}
use Rattle.ospf_wire.specs.Sums.{carried, words}
use Rattle.ospf_wire.proofs.packet_sum.with_bytes.Given as goal

abbrev pub invariant-loop-place : goal.invariant-loop-place
invariant-loop-place l = (total : ℕ) → l.so_far ≡ carried total → l.all ≡ carried (total + sum (words (take (2 * l.place) l.bytes)))
