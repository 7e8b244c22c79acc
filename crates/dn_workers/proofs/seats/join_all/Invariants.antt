use Rattle.std.proofs.Common.{length}
use Rattle.dn_workers.proofs.Gathering.{Gathering}
use Rattle.dn_workers.proofs.seats.join_all.Given as goal

abbrev pub invariant-loop-seat : goal.invariant-loop-seat
invariant-loop-seat g l = Gathering l.initial.seats.items l.seats.items l.initial.first l.first

abbrev pub decreases-loop-seat : goal.decreases-loop-seat
decreases-loop-seat g l = length l.seats.items
