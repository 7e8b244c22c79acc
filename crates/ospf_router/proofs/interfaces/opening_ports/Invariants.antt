use Rattle.std.proofs.Common.{◌≡◌, map, take}
use Rattle.ospf_router.specs.Interfaces.{opening_port}
use Rattle.ospf_router.proofs.interfaces.opening_ports.Given as goal

abbrev pub invariant-loop-cost : goal.invariant-loop-cost
invariant-loop-cost l = l.ports.items ≡ map opening_port (take l.cost-index l.costs)
