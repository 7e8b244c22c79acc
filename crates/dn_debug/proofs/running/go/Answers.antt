use Rattle.std.proofs.Common.{◌≡◌, ◌+◌, Option, Some, None, false, true, List, refl, sym, ap, ◌∙◌, subst, arith}
use Rattle.std.specs.Prelude.{slice_get}
use Rattle.dn_model.specs.Settled.{rows}
use Rattle.dn_lockstep.specs.Running.{Running}
use Rattle.dn_command.specs.declared.breaks.Break.{Break}
use Rattle.dn_debug.specs.declared.reason.Reason.{Reason}
use Rattle.dn_debug.specs.declared.reason.Reason.TheVariants as reason
use Rattle.dn_debug.specs.Watching.{watched}
use Rattle.dn_debug.specs.Courses.{is_from}
use Rattle.dn_debug.specs.Steps.{HasGone, IsTaken}
use Rattle.dn_debug.proofs.Goings.{IsGoing, IsFurther, going_first, going_on, gone_out, gone_at_row, none_in_group, none_behind_all, none_behind_limit, none_after_most, own_group, own_last, own_cut, own_step, cut_means}
use Rattle.dn_debug.proofs.running.go.Goals as goal

pub rows-init : goal.rows-init
rows-init g c = record {
  header = refl;
  breaks = refl;
  going = λ net feed same is. going_first net feed c.args.walk.now.breaks.items c.args.extent c.args.walk.now.engine.place (watched g.P.Probe.watcher c.args.walk.now.watching) c.args.routers.now c.args.out.now c.args.walk.now.engine c.args.walk.now.latest refl is;
}

pub returns-then-is_at_group-clause-gone : goal.returns-then-is_at_group-clause-gone
returns-then-is_at_group-clause-gone g c =
    λ net feed same is.
    let so = c.rows.invariant.going net feed same is in
    let bs = c.args.walk.now.breaks.items in
    let x = c.args.extent in
    let start = c.args.walk.now.engine.place in
    let old = watched g.P.Probe.watcher c.args.walk.now.watching in
    let from : is_from x.group (slice_get (rows net feed) c.rows.walk.engine.place) ≡ true = sym (c.is_at_group.ensures net feed so.at.stands) ∙ c.if-is_at_group.true in
    gone_out net feed bs x start old c.args.routers.now c.args.out.now c.rows._row c.rows.walk.engine (watched g.P.Probe.watcher c.rows.walk.watching) c.rows.walk.latest c.rows.out reason.Group so
    (none_in_group net feed bs x start old.attached c.rows._row c.rows.walk.engine.place from)
    (own_group net feed bs x start old c.args.routers.now c.args.out.now c.rows._row c.rows.walk.engine.place from)

pub returns-in-End-clause-gone : goal.returns-in-End-clause-gone
returns-in-End-clause-gone g c =
    λ net feed same is.
    let so = c.rows.invariant.going net feed same is in
    let bs = c.args.walk.now.breaks.items in
    let x = c.args.extent in
    let start = c.args.walk.now.engine.place in
    let old = watched g.P.Probe.watcher c.args.walk.now.watching in
    let before : is_from x.group (slice_get (rows net feed) c.rows.walk.engine.place) ≡ false = sym (c.is_at_group.ensures net feed so.at.stands) ∙ c.if-is_at_group.false in
    let moved = rw c.in-End.is at c.in_ok-next.ensures.moved net feed same so.at.stands in
    let at = ap (λ (e : Running g.row.G.Denot). e.place) (sym moved.0) ∙ moved.1.place in
    subst (λ (e : Running g.row.G.Denot). HasGone net feed bs x start old e (watched g.P.Probe.watcher c.rows.walk.watching) c.rows.walk.latest reason.End c.args.routers.now c.args.out.now c.rows.out) (sym moved.0)
    (gone_out net feed bs x start old c.args.routers.now c.args.out.now c.rows._row c.rows.walk.engine (watched g.P.Probe.watcher c.rows.walk.watching) c.rows.walk.latest c.rows.out reason.End so
    (none_behind_all net feed bs x start old.attached c.rows._row c.rows.walk.engine.place at)
    (own_last net feed bs x start old c.args.routers.now c.args.out.now c.rows._row c.rows.walk.engine.place before c.rows-test.true at))

pub returns-in-Cut-clause-gone : goal.returns-in-Cut-clause-gone
returns-in-Cut-clause-gone g c =
    λ net feed same is.
    let so = c.rows.invariant.going net feed same is in
    let bs = c.args.walk.now.breaks.items in
    let x = c.args.extent in
    let start = c.args.walk.now.engine.place in
    let old = watched g.P.Probe.watcher c.args.walk.now.watching in
    let before : is_from x.group (slice_get (rows net feed) c.rows.walk.engine.place) ≡ false = sym (c.is_at_group.ensures net feed so.at.stands) ∙ c.if-is_at_group.false in
    let moved = rw c.in-Cut.is at c.in_ok-next.ensures.moved net feed same so.at.stands in
    let means = cut_means c.rows.walk.engine.place (rows net feed) (rw c.in-Cut.is at c.in_ok-next.ensures.answer net feed same so.at.stands) in
    subst (λ (e : Running g.row.G.Denot). HasGone net feed bs x start old e (watched g.P.Probe.watcher c.rows.walk.watching) c.rows.walk.latest reason.Cut c.args.routers.now c.args.out.now c.rows.out) (sym moved)
    (gone_out net feed bs x start old c.args.routers.now c.args.out.now c.rows._row c.rows.walk.engine (watched g.P.Probe.watcher c.rows.walk.watching) c.rows.walk.latest c.rows.out reason.Cut so
    (none_behind_limit net feed bs x start old.attached c.rows._row c.rows.walk.engine.place means.1)
    (own_cut net feed bs x start old c.args.routers.now c.args.out.now c.rows._row c.rows.walk.engine.place before c.rows-test.true means.0))

pub returns-in-Some-clause-gone : goal.returns-in-Some-clause-gone
returns-in-Some-clause-gone g c =
    λ net feed same is.
    let so = c.rows.invariant.going net feed same is in
    let bs = c.args.walk.now.breaks.items in
    let x = c.args.extent in
    let start = c.args.walk.now.engine.place in
    let old = watched g.P.Probe.watcher c.args.walk.now.watching in
    let new = watched g.P.Probe.watcher c.take_row.new.walk.watching in
    let before : is_from x.group (slice_get (rows net feed) c.rows.walk.engine.place) ≡ false = sym (c.is_at_group.ensures net feed so.at.stands) ∙ c.if-is_at_group.false in
    let moved = rw c.in-Row.is at c.in_ok-next.ensures.moved net feed same so.at.stands in
    let onward = c.in_ok-next.ensures.onward c.in-Row.is in
    let far : IsFurther net feed bs x start old c.args.routers.now c.args.out.now c.rows._row c.rows.walk.engine (watched g.P.Probe.watcher c.rows.walk.watching) c.rows.walk.latest c.rows.out c.next.new.self new c.take_row.new.walk.latest c.take_row.new.out (Some c.in-Some.reason) = record {
      some = c.rows-test.true;
      not_yet = before;
      below = onward.0;
      moved = moved;
      taken = λ row inside last.
          subst (λ (o : Option Reason). IsTaken net feed bs c.next.new.self.place row (watched g.P.Probe.watcher c.rows.walk.watching) c.rows.walk.latest o new c.take_row.new.walk.latest) c.in-Some.is
          (subst (λ (b : List Break). IsTaken net feed b c.next.new.self.place row (watched g.P.Probe.watcher c.rows.walk.watching) c.rows.walk.latest c.in_ok-reason.field-0 new c.take_row.new.walk.latest) c.rows.invariant.breaks
          (c.in_ok-reason.ensures.taken net feed row same moved.0 inside last));
      wrote = λ row last. c.in_ok-reason.ensures.text row last;
    } in
    subst (λ (e : Running g.row.G.Denot). HasGone net feed bs x start old e new c.take_row.new.walk.latest c.in-Some.reason c.args.routers.now c.args.out.now c.take_row.new.out) (sym c.take_row.ensures.engine)
    (gone_at_row net feed bs x start old c.args.routers.now c.args.out.now c.rows._row c.rows.walk.engine (watched g.P.Probe.watcher c.rows.walk.watching) c.rows.walk.latest c.rows.out c.next.new.self new c.take_row.new.walk.latest c.take_row.new.out c.in-Some.reason so far)

pub rows-preserved : goal.rows-preserved
rows-preserved g c = record {
  header = ap (λ (e : Running g.row.G.Denot). e.header) c.take_row.ensures.engine ∙ (c.next.ensures.header ∙ c.rows.invariant.header);
  breaks = c.take_row.ensures.breaks ∙ c.rows.invariant.breaks;
  going = λ net feed same is.
      let so = c.rows.invariant.going net feed same is in
      let bs = c.args.walk.now.breaks.items in
      let x = c.args.extent in
      let start = c.args.walk.now.engine.place in
      let old = watched g.P.Probe.watcher c.args.walk.now.watching in
      let new = watched g.P.Probe.watcher c.take_row.new.walk.watching in
      let before : is_from x.group (slice_get (rows net feed) c.rows.walk.engine.place) ≡ false = sym (c.is_at_group.ensures net feed so.at.stands) ∙ c.if-is_at_group.false in
      let moved = rw c.in-Row.is at c.in_ok-next.ensures.moved net feed same so.at.stands in
      let onward = c.in_ok-next.ensures.onward c.in-Row.is in
      let far : IsFurther net feed bs x start old c.args.routers.now c.args.out.now c.rows._row c.rows.walk.engine (watched g.P.Probe.watcher c.rows.walk.watching) c.rows.walk.latest c.rows.out c.next.new.self new c.take_row.new.walk.latest c.take_row.new.out None = record {
        some = c.rows-test.true;
        not_yet = before;
        below = onward.0;
        moved = moved;
        taken = λ row inside last.
            subst (λ (o : Option Reason). IsTaken net feed bs c.next.new.self.place row (watched g.P.Probe.watcher c.rows.walk.watching) c.rows.walk.latest o new c.take_row.new.walk.latest) c.in_default.is
            (subst (λ (b : List Break). IsTaken net feed b c.next.new.self.place row (watched g.P.Probe.watcher c.rows.walk.watching) c.rows.walk.latest c.in_ok-reason.field-0 new c.take_row.new.walk.latest) c.rows.invariant.breaks
            (c.in_ok-reason.ensures.taken net feed row same moved.0 inside last));
        wrote = λ row last. c.in_ok-reason.ensures.text row last;
      } in
      subst (λ (e : Running g.row.G.Denot). IsGoing net feed bs x start old c.args.routers.now c.args.out.now (c.rows._row + 1) e new c.take_row.new.walk.latest c.take_row.new.out) (sym c.take_row.ensures.engine)
      (going_on net feed bs x start old c.args.routers.now c.args.out.now c.rows._row c.rows.walk.engine (watched g.P.Probe.watcher c.rows.walk.watching) c.rows.walk.latest c.rows.out c.next.new.self new c.take_row.new.walk.latest c.take_row.new.out so far);
}

pub returns-clause-gone : goal.returns-clause-gone
returns-clause-gone g c =
    λ net feed same is.
    let so = c.rows.invariant.going net feed same is in
    let bs = c.args.walk.now.breaks.items in
    let x = c.args.extent in
    let start = c.args.walk.now.engine.place in
    let old = watched g.P.Probe.watcher c.args.walk.now.watching in
    let all : c.rows._row ≡ x.most = omega arith in
    gone_out net feed bs x start old c.args.routers.now c.args.out.now c.rows._row c.rows.walk.engine (watched g.P.Probe.watcher c.rows.walk.watching) c.rows.walk.latest c.rows.out c.end_of_steps.result so
    (none_after_most net feed bs x start old.attached c.rows._row c.rows.walk.engine.place all)
    (own_step net feed bs x start old c.args.routers.now c.args.out.now c.rows._row c.rows.walk.engine.place c.end_of_steps.result all (c.end_of_steps.ensures net feed so.at.stands))
