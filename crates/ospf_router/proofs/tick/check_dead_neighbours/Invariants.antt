use Rattle.std.proofs.Common.{◌≡◌, length}
use Rattle.std.specs.Prelude.{fold}
use Rattle.std.specs.List.{range_with_len}
use Rattle.ospf_router.specs.Ticks.{check_dead_neighbour}
use Rattle.ospf_router.proofs.tick.check_dead_neighbours.Given as goal

abbrev pub invariant-loop-port : goal.invariant-loop-port
invariant-loop-port l = record {
  far : l.interfaces ≡ fold (check_dead_neighbour l.now) l.fn.interfaces (range_with_len 0 l.port);
  count : length l.interfaces.ports ≡ length l.fn.interfaces.ports;
}
