use Rattle.std.proofs.Common.{◌≡◌, take}
use Rattle.dn_router.proofs.history.copies.Given as goal

abbrev pub invariant-loop-event : goal.invariant-loop-event
invariant-loop-event l = l.made.items ≡ take l.event-index l.events
