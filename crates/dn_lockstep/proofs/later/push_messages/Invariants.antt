use Rattle.std.proofs.Common.{◌≡◌, ◌++◌, take}
use Rattle.dn_model.specs.SoFar.{by_router}
use Rattle.dn_lockstep.specs.Queues.{queued_events}
use Rattle.dn_lockstep.specs.Running.{messages}
use Rattle.dn_lockstep.proofs.later.push_messages.Given as goal

abbrev pub invariant-loop-one : goal.invariant-loop-one
invariant-loop-one l = l.found.items ≡ l.initial.found.items ++ messages (by_router (queued_events (take l.one-index l.queued)) l.router)
