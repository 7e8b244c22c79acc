use Rattle.std.proofs.Common.{◌≡◌, ◌++◌}
use Rattle.std.specs.Vec.Iter.{into_iter_items}
use Rattle.dn_world.specs.Steps.{signed}
use Rattle.dn_fabric.proofs.flight.Flight.send.Given as goal

abbrev pub invariant-loop-event : goal.invariant-loop-event
invariant-loop-event l =
    l.self-inside.packets.items ++ signed l.plus (into_iter_items l.event-iterator) ≡ l.initial.self-inside.packets.items ++ signed l.plus l.fn.events.items
