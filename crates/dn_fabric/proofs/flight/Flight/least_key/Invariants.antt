use Rattle.std.proofs.Common.{◌≡◌}
use Rattle.std.specs.VecDeque.Iter.{deque_iter_rest}
use Rattle.dn_world.specs.World.{flying, least_key}
use Rattle.dn_fabric.proofs.flight.Flight.least_key.Given as goal

abbrev pub invariant-loop-packet : goal.invariant-loop-packet
invariant-loop-packet l = least_key l.least (flying (deque_iter_rest l.packet-iterator)) ≡ least_key l.fn.key (flying l.fn.self)
