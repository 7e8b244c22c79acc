use Rattle.std.proofs.Common.{◌≡◌, ◌++◌, get_or, refl, sym, ap, ◌∙◌, subst}
use Rattle.std.specs.List.{AllByRecursion}
use Rattle.std.proofs.lemmas.Option.{slice_get-get_or}
use Rattle.dn_world.specs.Runs.{IsPast}
use Rattle.dn_fabric.specs.Commits.{committed_to, fresh_at}
use Rattle.dn_fabric.proofs.Commits.{Keeps, keeps_on, on_start, here_is, on_turn, on_all, on_handled, on_fails}
use Rattle.dn_fabric.proofs.committing.commit_all.Goals as goal

pub loop-number-init : goal.loop-number-init
loop-number-init g c = on_start c.args.key.now c.args.routers.now c.new-fresh.result.items c.new-fresh.ensures.items

pub commit_below-requires-clause-waiting : goal.commit_below-requires-clause-waiting
commit_below-requires-clause-waiting g c κs within =
    let n = c.loop-number.number in
    let before = c.args.routers.now in
    let s = c.index-routers-number.result in
    let here = here_is c.args.key.now n before c.loop-number.routers c.loop-number.fresh.items c.loop-number.invariant s in
    subst (λ r. AllByRecursion (λ e. IsPast c.args.key.now e.key) (r.part.todo ++ r.part.voids)) (sym here)
    (c.requires.waiting n (get_or before n s) (slice_get-get_or before n s c.loop-number-test.true))

pub commit_below-requires-clause-rising : goal.commit_below-requires-clause-rising
commit_below-requires-clause-rising g c κs within =
    let n = c.loop-number.number in
    let before = c.args.routers.now in
    let s = c.index-routers-number.result in
    let here = here_is c.args.key.now n before c.loop-number.routers c.loop-number.fresh.items c.loop-number.invariant s in
    subst (λ r. IsPast r.bound c.args.key.now) (sym here) (c.requires.rising n (get_or before n s) (slice_get-get_or before n s c.loop-number-test.true))

pub returns-in_err-rows-clause-handled : goal.returns-in_err-rows-clause-handled
returns-in_err-rows-clause-handled g c =
    let n = c.loop-number.number in
    let now = c.loop-number.routers in
    let s = c.index-routers-number.result in
    let same : s ≡ c.commit_below.new.self = c.index-routers-number.is ∙ sym c.in_err-rows.ensures.err in
    on_fails c.args.key.now n c.args.routers.now now c.loop-number.fresh.items c.loop-number.invariant s c.commit_below.new.self c.loop-number-test.true c.index-routers-number.is
    (subst (Keeps s) same refl)

pub returns-in_err-append-clause-handled : goal.returns-in_err-append-clause-handled
returns-in_err-append-clause-handled g c =
    let n = c.loop-number.number in
    let now = c.loop-number.routers in
    let s = c.index-routers-number.result in
    let key = c.args.key.now in
    let made : c.commit_below.new.self ≡ committed_to key s = c.in_ok-rows.ensures.committed ∙ ap (committed_to key) (sym c.index-routers-number.is) in
    on_fails key n c.args.routers.now now c.loop-number.fresh.items c.loop-number.invariant s c.commit_below.new.self c.loop-number-test.true c.index-routers-number.is
    (subst (Keeps s) (sym made) (keeps_on key s))

pub loop-number-preserved : goal.loop-number-preserved
loop-number-preserved g c =
    let n = c.loop-number.number in
    let now = c.loop-number.routers in
    let s = c.index-routers-number.result in
    let key = c.args.key.now in
    on_turn key n c.args.routers.now now c.loop-number.fresh.items c.loop-number.invariant s c.commit_below.new.self c.in_ok-rows.rows.items c.append.new.self.items c.loop-number-test.true c.index-routers-number.is
    (c.in_ok-rows.ensures.committed ∙ ap (committed_to key) (sym c.index-routers-number.is))
    (c.in_ok-rows.ensures.fresh ∙ ap (fresh_at key) (sym c.index-routers-number.is))
    c.in_ok-append.ensures.items

pub returns-clause-routers : goal.returns-clause-routers
returns-clause-routers g c = on_all c.args.key.now c.loop-number.number c.args.routers.now c.loop-number.routers c.loop-number.fresh.items c.loop-number.invariant c.loop-number-test.false

pub returns-clause-handled : goal.returns-clause-handled
returns-clause-handled g c = on_handled c.args.key.now c.loop-number.number c.args.routers.now c.loop-number.routers c.loop-number.fresh.items c.loop-number.invariant
