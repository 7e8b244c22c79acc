use Rattle.std.proofs.Common.{◌≡◌, ◌++◌, map}
use Rattle.dn_queue.proofs.todo.set_keys.Given as goal

abbrev pub invariant-loop-event : goal.invariant-loop-event
invariant-loop-event l = l.keys.items ++ map (λ e. e.key) l.event-iterator ≡ map (λ e. e.key) l.events.keys
