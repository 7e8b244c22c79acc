use Rattle.std.proofs.Common.{◌≡◌, ◌++◌, take, map}
use Rattle.dn_queue.proofs.todo.push_keys.Given as goal

abbrev pub invariant-loop-event : goal.invariant-loop-event
invariant-loop-event l = l.keys.items ≡ l.fn.keys.items ++ map (λ e. e.key) (take l.event-index l.events)
