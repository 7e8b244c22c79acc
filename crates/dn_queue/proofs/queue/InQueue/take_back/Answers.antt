use Rattle.std.proofs.Common.{List, [], ◌∷◌, ◌++◌, sym, ap, ◌∙◌, subst, append_assoc}
use Rattle.std.specs.Vec.Iter.{into_iter_items}
use Rattle.dn_model.specs.declared.event.Event.{Event}
use Rattle.dn_world.specs.World.{with_todo}
use Rattle.dn_world.specs.Runs.{IsTidy}
use Rattle.dn_queue.proofs.Answers.{on_err_all}
use Rattle.dn_queue.proofs.Queues.{none_come, one_more}
use Rattle.dn_queue.proofs.queue.InQueue.take_back.Goals as goal

pub loop-event-init : goal.loop-event-init
loop-event-init c =
    let tidy : IsTidy c.args.self.now = subst IsTidy c.self.view_is c.self.invariant in
    record { come = none_come c.args.self.now tidy; all = sym c.into_iter-event-iterator.ensures.into_iter_gives.0; tidy = tidy }

pub loop-event-preserved : goal.loop-event-preserved
loop-event-preserved c =
    let yielded = c.loop-event.yielded in
    let event = c.in-Some.event in
    let rest = into_iter_items c.next.new.self in
    record {
      come = c.in_ok-put.ensures.ok ∙ ap (with_todo (event ∷ [])) c.loop-event.invariant.come ∙ one_more event yielded c.args.self.now c.loop-event.invariant.tidy;
      all = c.loop-event.invariant.all ∙ ap (λ (l : List Event). yielded ++ l) c.in-Some.ensures.steps.0 ∙ sym (append_assoc yielded (event ∷ []) rest);
      tidy = c.loop-event.invariant.tidy;
    }

pub returns-in_err-put-clause-err : goal.returns-in_err-put-clause-err
returns-in_err-put-clause-err c =
    on_err_all c.from_residual.result (record {
      came = c.loop-event.yielded;
      lost = into_iter_items c.loop-event.event-iterator;
      all = c.loop-event.invariant.all;
      come = c.in_err-put.ensures.err ∙ c.loop-event.invariant.come;
    })
