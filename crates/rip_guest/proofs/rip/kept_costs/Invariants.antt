use Rattle.std.proofs.Common.{◌≡◌, map, take}
use Rattle.std.specs.Prelude.{min}
use Rattle.rip_wire.specs.Constants.{infinity}
use Rattle.rip_guest.proofs.rip.kept_costs.Given as goal

abbrev pub invariant-loop-cost : goal.invariant-loop-cost
invariant-loop-cost l = l.kept.items ≡ map (min infinity) (take l.cost-index l.costs)
