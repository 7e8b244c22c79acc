use Rattle.std.proofs.Common.{◌≡◌, ◌++◌}
use Rattle.std.specs.Vec.Iter.{into_iter_items}
use Rattle.dn_world.specs.World.{with_todo}
use Rattle.dn_world.specs.Runs.{IsTidy}
use Rattle.dn_queue.proofs.queue.InQueue.take_back.Given as goal

abbrev pub invariant-loop-event : goal.invariant-loop-event
invariant-loop-event l = record {
  come : l.self ≡ with_todo l.yielded l.fn.self;
  all : l.fn.events.items ≡ l.yielded ++ into_iter_items l.event-iterator;
  tidy : IsTidy l.fn.self;
}
