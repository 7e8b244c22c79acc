use Rattle.std.proofs.Common.{List, ◌++◌, sym, ap, ◌∙◌}
use Rattle.dn_model.specs.declared.event.Event.{Event}
use Rattle.dn_model.specs.Network.{emitted_by}
use Rattle.dn_router.specs.Replays.{emitted_over}
use Rattle.dn_router.proofs.Replays.{emitted_turn, emitted_end}
use Rattle.dn_router.proofs.replay.emitted_over.Goals as goal

pub loop-event-init : goal.loop-event-init
loop-event-init g c =
    ap (λ (l : List Event). l ++ emitted_over g.G.Guest.meaning c.args.timing.now c.args.ends.now c.args.opening c.args.events.now) c.new-emitted.ensures.items

pub loop-event-preserved : goal.loop-event-preserved
loop-event-preserved g c =
    emitted_turn g.G.Guest.meaning c.args.timing.now c.args.ends.now c.loop-event.node c.take.new.self c.loop-event.emitted.items c.in_ok-more.more.items c.append.new.self.items _ c.args.events.now c.loop-event.event-index c.event-item.result
    c.loop-event-test.true c.event-item.is c.in_ok-sent.ensures.state
    (c.in_ok-more.ensures ∙ ap (λ s. emitted_by c.args.timing.now c.args.ends.now c.event-item.result s) c.in_ok-sent.ensures.sent)
    c.in_ok-append.ensures.items c.loop-event.invariant

pub returns : goal.returns
returns g c =
    sym (emitted_end g.G.Guest.meaning c.args.timing.now c.args.ends.now c.loop-event.node c.loop-event.emitted.items c.args.events.now c.loop-event.event-index c.loop-event-test.false) ∙ c.loop-event.invariant
