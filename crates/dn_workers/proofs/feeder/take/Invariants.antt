use Rattle.std.proofs.Common.{◌≡◌}
use Rattle.dn_workers.proofs.feeder.take.Given as goal

abbrev pub invariant-loop : goal.invariant-loop
invariant-loop g l = l.seat ≡ l.fn.seat
