use Rattle.std.proofs.Common.{◌≡◌, List, ◌∷◌, ◌++◌, length, sym, ap, ◌∙◌, subst}
use Rattle.std.specs.List.Sorted.{IsPermutation}
use Rattle.std.specs.Vec.Iter.{into_iter_items}
use Rattle.dn_model.specs.declared.event.Event.{Event}
use Rattle.dn_model.specs.Network.{emitted_by}
use Rattle.dn_lockstep.specs.Agendas.{waiting_in}
use Rattle.dn_lockstep.proofs.Queueing.{none_more, one_more, put_in, none_left}
use Rattle.dn_lockstep.proofs.step.send.Goals as goal

pub loop-output-preserved-in-Continue-1 : goal.loop-output-preserved-in-Continue-1
loop-output-preserved-in-Continue-1 c =
    let t = c.args.timing.now in
    let rest = into_iter_items c.next.new.self in
    let all = waiting_in c.args.agenda.now ++ emitted_by t c.args.ends.now c.args.cause.now c.args.sent.items in
    let e : emitted_by t c.args.ends.now c.args.cause.now (into_iter_items c.loop-output.output-iterator) ≡ c.in-Some-message.event ∷ emitted_by t c.args.ends.now c.args.cause.now rest =
    ap (emitted_by t c.args.ends.now c.args.cause.now) c.in-Some.ensures.steps.0 ∙ one_more t c.args.ends.now c.args.cause.now c.in-Some.output rest c.in-Some-message.event (sym c.message.ensures ∙ c.in-Some-message.is) in
    put_in all (waiting_in c.loop-output.agenda) (waiting_in c.push.new.self) (emitted_by t c.args.ends.now c.args.cause.now rest) c.in-Some-message.event
    (subst (λ (es : List Event). IsPermutation all (waiting_in c.loop-output.agenda ++ es)) e c.loop-output.invariant)
    c.in_ok-push.ensures

pub loop-output-preserved : goal.loop-output-preserved
loop-output-preserved c =
    let t = c.args.timing.now in
    let rest = into_iter_items c.next.new.self in
    let all = waiting_in c.args.agenda.now ++ emitted_by t c.args.ends.now c.args.cause.now c.args.sent.items in
    let e : emitted_by t c.args.ends.now c.args.cause.now (into_iter_items c.loop-output.output-iterator) ≡ emitted_by t c.args.ends.now c.args.cause.now rest =
    ap (emitted_by t c.args.ends.now c.args.cause.now) c.in-Some.ensures.steps.0 ∙ none_more t c.args.ends.now c.args.cause.now c.in-Some.output rest (sym c.message.ensures ∙ c.in_default.is) in
    subst (λ (es : List Event). IsPermutation all (waiting_in c.loop-output.agenda ++ es)) e c.loop-output.invariant

pub returns : goal.returns
returns c =
    let none : length (into_iter_items c.loop-output.output-iterator) ≡ 0 = sym c.loop-output.output-iterator.rest.ok.0 ∙ c.in-None.ensures.steps.0 in
    none_left c.args.timing.now c.args.ends.now c.args.cause.now (waiting_in c.args.agenda.now ++ emitted_by c.args.timing.now c.args.ends.now c.args.cause.now c.args.sent.items) (waiting_in c.loop-output.agenda) (into_iter_items c.loop-output.output-iterator) none c.loop-output.invariant
