use Rattle.std.proofs.Common.{◌≡◌}
use Rattle.dn_fabric.proofs.Arrivals.{ticked_to}
use Rattle.dn_fabric.proofs.coming.tick_all.Given as goal

abbrev pub invariant-loop-number : goal.invariant-loop-number
invariant-loop-number g l = l.routers ≡ ticked_to l.group 0 l.number l.fn.routers
