use Rattle.std.proofs.Common.{◌≡◌, ◌++◌, ◌+◌, ◌||◌, length, take, refl, sym, ap, ◌∙◌, subst, arith}
use Rattle.std.specs.Prelude.{nat_lt}
use Rattle.std.proofs.lemmas.Bool.{false≢true}
use Rattle.dn_model.specs.Order.{sorted}
use Rattle.dn_model.specs.Settled.{row_limit}
use Rattle.dn_fabric.proofs.Calls.{on_err_all}
use Rattle.dn_world.specs.declared.step.Step.TheVariants.{Commit}
use Rattle.dn_world.specs.Runs.{IsPast, fresh_rows}
use Rattle.dn_world.specs.Steps.{after}
use Rattle.dn_world.specs.World.{horizon}
use Rattle.dn_fabric.specs.Commits.{fresh_of}
use Rattle.dn_fabric.proofs.Settling.{bounds_are, committed_is, few_shown, full_shown, guests_handled, waits_past}
use Rattle.dn_fabric.proofs.Turns.{world_of}
use Rattle.dn_fabric.proofs.Whole.{err_fact, marked_err, marked_ok, ok_fact, ok_value, whole_handled}
use Rattle.dn_fabric.proofs.world.World.commit.Goals as goal

pub commit_below-fresh-requires-clause-waiting : goal.commit_below-fresh-requires-clause-waiting
commit_below-fresh-requires-clause-waiting g c κs within = λ r router h.
    let a = c.self.inside in
    waits_past (λ net w. c.horizon.ensures.lower net w) (λ bound w r all. c.waiting.ensures.at bound w r all) g.G.Guest.meaning a.header (world_of a.routers a.flight a.floor a.closed a.accepted.items a.boundary) a.routers c.horizon-horizon.result refl
    (c.horizon-horizon.ensures ∙ sym (ap (λ v. horizon v.header v.world) c.self.view_is))
    r router h

pub commit_below-fresh-requires-clause-rising : goal.commit_below-fresh-requires-clause-rising
commit_below-fresh-requires-clause-rising g c κs within = λ r router h.
    let a = c.self.inside in
    let hor = c.horizon-horizon.result in
    let bound = c.self.invariant.bounds (ap (λ v. v.stopped) c.self.view_is ∙ c.requires.running) r router h in
    let up : IsPast c.args.self.now.world.boundary hor = subst (IsPast c.args.self.now.world.boundary) (sym c.horizon-horizon.ensures) c.requires.rising in
    subst (λ b. IsPast b hor) (sym (bound ∙ ap (λ v. v.world.boundary) c.self.view_is)) up

pub invariant_of-self : goal.invariant_of-self
invariant_of-self g c =
    let a = c.self.inside in
    let rs = a.routers in
    let now = c.commit_below-fresh.new.self in
    let handled = c.commit_below-fresh.ensures.handled in
    let err = sym c.marking.ensures.same ∙ c.in_err-fresh.was in
    let stopped = marked_err c.commit_below-fresh.result _ a.stopped c.marking.new.stopped err c.marking.ensures.mark in
    (whole_handled a.header rs now a.boundary a.boundary a.rows.items a.rows.items a.cut a.cut a.stopped c.marking.new.stopped c.self.invariant handled (λ e. absurd (false≢true (sym e ∙ stopped))) c.self.invariant.few c.self.invariant.full)

pub returns-in_err-fresh-clause-err : goal.returns-in_err-fresh-clause-err
returns-in_err-fresh-clause-err g c =
    let a = c.self.inside in
    let rs = a.routers in
    let now = c.commit_below-fresh.new.self in
    let handled = c.commit_below-fresh.ensures.handled in
    let err = sym c.marking.ensures.same ∙ c.in_err-fresh.was in
    on_err_all c.from_residual.result
    (record {
      stopped = marked_err c.commit_below-fresh.result _ a.stopped c.marking.new.stopped err c.marking.ensures.mark;
      header = ap (λ v. v.header) c.self.view_is;
      openings = guests_handled rs now handled ∙ ap (λ v. v.openings) c.self.view_is;
    })

pub invariant_of-self-in_err-more : goal.invariant_of-self-in_err-more
invariant_of-self-in_err-more g c =
    let a = c.self.inside in
    let rs = a.routers in
    let now = c.commit_below-fresh.new.self in
    let handled = c.commit_below-fresh.ensures.handled in
    let all = c.add_rows-added.new.rows.items in
    let err = sym c.marking-2.ensures.same ∙ c.in_err-more.was in
    let stopped = marked_err c.add_rows-added.result _ c.marking.new.stopped c.marking-2.new.stopped err c.marking-2.ensures.mark in
    let kept : all ≡ a.rows.items = err_fact c.add_rows-added.result _ err c.add_rows-added.ensures.err in
    let n = ap length kept in
    (whole_handled a.header rs now a.boundary c.horizon-horizon.result a.rows.items all a.cut a.cut a.stopped c.marking-2.new.stopped c.self.invariant handled (λ e. absurd (false≢true (sym e ∙ stopped))) (omega (arith, n, c.self.invariant.few)) (λ e. n ∙ c.self.invariant.full e))

pub returns-in_err-more-clause-err : goal.returns-in_err-more-clause-err
returns-in_err-more-clause-err g c =
    let a = c.self.inside in
    let rs = a.routers in
    let now = c.commit_below-fresh.new.self in
    let handled = c.commit_below-fresh.ensures.handled in
    let err = sym c.marking-2.ensures.same ∙ c.in_err-more.was in
    on_err_all c.from_residual-in_err-more.result
    (record {
      stopped = marked_err c.add_rows-added.result _ c.marking.new.stopped c.marking-2.new.stopped err c.marking-2.ensures.mark;
      header = ap (λ v. v.header) c.self.view_is;
      openings = guests_handled rs now handled ∙ ap (λ v. v.openings) c.self.view_is;
    })

pub invariant_of-self-2 : goal.invariant_of-self-2
invariant_of-self-2 g c =
    let a = c.self.inside in
    let rs = a.routers in
    let now = c.commit_below-fresh.new.self in
    let handled = c.commit_below-fresh.ensures.handled in
    let was = sym c.marking.ensures.same ∙ c.in_ok-fresh.was in
    let all_on = ok_fact c.commit_below-fresh.result c.in_ok-fresh.fresh was c.commit_below-fresh.ensures.routers in
    let hor = c.horizon-horizon.result in
    let rows = a.rows.items in
    let all = c.add_rows-added.new.rows.items in
    let fresh = c.in_order.result.items in
    let limit = c.row_limit-limit.result in
    let added = sym c.marking-2.ensures.same ∙ c.in_ok-more.was in
    let shown : all ≡ take limit (rows ++ fresh) = ok_fact c.add_rows-added.result c.in_ok-more.more added c.add_rows-added.ensures.rows in
    let more = ok_value (λ m. m ≡ nat_lt limit (length rows + length fresh)) c.add_rows-added.result c.in_ok-more.more added c.add_rows-added.ensures.more in
    (whole_handled a.header rs now a.boundary hor rows all a.cut (a.cut || c.in_ok-more.more) a.stopped c.marking-2.new.stopped c.self.invariant handled (λ e. bounds_are hor rs now all_on)
    (few_shown limit rows all fresh c.row_limit-limit.ensures shown)
    (full_shown limit rows all fresh a.cut c.in_ok-more.more c.row_limit-limit.ensures shown c.self.invariant.full more))

pub returns-clause-world : goal.returns-clause-world
returns-clause-world g c = λ net of.
    let a = c.self.inside in
    let rs = a.routers in
    let now = c.commit_below-fresh.new.self in
    let handled = c.commit_below-fresh.ensures.handled in
    let was = sym c.marking.ensures.same ∙ c.in_ok-fresh.was in
    let all_on = ok_fact c.commit_below-fresh.result c.in_ok-fresh.fresh was c.commit_below-fresh.ensures.routers in
    let hor = c.horizon-horizon.result in
    let rows = a.rows.items in
    let all = c.add_rows-added.new.rows.items in
    let fresh = c.in_order.result.items in
    let limit = c.row_limit-limit.result in
    let added = sym c.marking-2.ensures.same ∙ c.in_ok-more.was in
    let shown : all ≡ take limit (rows ++ fresh) = ok_fact c.add_rows-added.result c.in_ok-more.more added c.add_rows-added.ensures.rows in
    let more = ok_value (λ m. m ≡ nat_lt limit (length rows + length fresh)) c.add_rows-added.result c.in_ok-more.more added c.add_rows-added.ensures.more in
    let came = ok_value (λ l. l.items ≡ fresh_of hor rs) c.commit_below-fresh.result c.in_ok-fresh.fresh was c.commit_below-fresh.ensures.rows in
    let is_fresh : fresh ≡ sorted (fresh_of hor rs) = c.in_order.ensures ∙ ap sorted came in
    let bounds = c.self.invariant.bounds (ap (λ v. v.stopped) c.self.view_is ∙ c.requires.running) in
    let still = marked_ok c.add_rows-added.result c.in_ok-more.more c.marking.new.stopped c.marking-2.new.stopped added c.marking-2.ensures.mark ∙ marked_ok c.commit_below-fresh.result c.in_ok-fresh.fresh a.stopped c.marking.new.stopped was c.marking.ensures.mark in
    let head = of.header ∙ sym (ap (λ v. v.header) c.self.view_is) in
    let at = c.horizon-horizon.ensures ∙ sym (ap (λ v. horizon v.header v.world) c.self.view_is) in
    committed_is net a.header rs now a.flight a.floor a.closed a.accepted.items a.boundary hor rows all fresh limit a.cut c.in_ok-more.more (a.cut || c.in_ok-more.more) a.stopped c.marking-2.new.stopped head c.self.invariant.count bounds at handled is_fresh c.row_limit-limit.ensures shown more refl still
    ∙ (λ j. record (c.self.view_is j) {
      world = after net (c.self.view_is j).world Commit;
      rows = take row_limit ((c.self.view_is j).rows ++ fresh_rows net (c.self.view_is j).world.boundary (after net (c.self.view_is j).world Commit));
      cut = (c.self.view_is j).cut || nat_lt row_limit (length (c.self.view_is j).rows + length (fresh_rows net (c.self.view_is j).world.boundary (after net (c.self.view_is j).world Commit)));
    })
