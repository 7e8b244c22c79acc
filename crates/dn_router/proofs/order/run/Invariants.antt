use Rattle.std.proofs.Common.{◌≡◌, [], drop}
use Rattle.dn_router.specs.Replays.{last_sent, node_over}
use Rattle.dn_router.proofs.order.run.Given as goal

abbrev pub invariant-loop-event : goal.invariant-loop-event
invariant-loop-event g l = record {
  node : node_over g.G.Guest.meaning l.node (drop l.event-index l.events) ≡ node_over g.G.Guest.meaning l.fn.node l.fn.events;
  sent : last_sent g.G.Guest.meaning l.node l.sent.items (drop l.event-index l.events) ≡ last_sent g.G.Guest.meaning l.fn.node [] l.fn.events;
}
