use Rattle.std.proofs.Common.{refl, sym, ap, ◌∙◌}
use Rattle.dn_guest.specs.declared.node.Sent.{Sent}
use Rattle.std.proofs.Common.{List}
use Rattle.dn_router.specs.Replays.{last_sent}
use Rattle.dn_router.proofs.Replays.{node_turn, sent_turn, node_end, sent_end}
use Rattle.dn_router.proofs.order.run.Goals as goal

pub loop-event-init : goal.loop-event-init
loop-event-init g c = record {
  node = refl;
  sent = ap (λ (s : List Sent). last_sent g.G.Guest.meaning c.args.node.now s c.args.events.now) c.new-sent.ensures.items;
}

pub loop-event-preserved : goal.loop-event-preserved
loop-event-preserved g c =
    let m = g.G.Guest.meaning in
    let e = c.event-item.result in
    let es = c.args.events.now in
    record {
      node = node_turn m c.loop-event.node c.take.new.self _ es c.loop-event.event-index e c.loop-event-test.true c.event-item.is c.in_ok-sent.ensures.state c.loop-event.invariant.node;
      sent = sent_turn m c.loop-event.node c.take.new.self c.loop-event.sent.items c.in_ok-sent.sent.items _ es c.loop-event.event-index e c.loop-event-test.true c.event-item.is c.in_ok-sent.ensures.state c.in_ok-sent.ensures.sent c.loop-event.invariant.sent;
    }

pub returns-clause-node : goal.returns-clause-node
returns-clause-node g c =
    sym (node_end g.G.Guest.meaning c.loop-event.node c.args.events.now c.loop-event.event-index c.loop-event-test.false) ∙ c.loop-event.invariant.node

pub returns-clause-sent : goal.returns-clause-sent
returns-clause-sent g c =
    sym (sent_end g.G.Guest.meaning c.loop-event.node c.loop-event.sent.items c.args.events.now c.loop-event.event-index c.loop-event-test.false) ∙ c.loop-event.invariant.sent
