use Rattle.std.proofs.Common.{◌≡◌, ◌++◌, drop}
use Rattle.dn_router.specs.Replays.{emitted_over}
use Rattle.dn_router.proofs.replay.emitted_over.Given as goal

abbrev pub invariant-loop-event : goal.invariant-loop-event
invariant-loop-event g l =
    l.emitted.items ++ emitted_over g.G.Guest.meaning l.timing l.ends l.node (drop l.event-index l.events) ≡ emitted_over g.G.Guest.meaning l.fn.timing l.fn.ends l.fn.opening l.fn.events
