use Rattle.std.proofs.Common.{◌≡◌, suc, ◌+◌, ◌<◌, List, length, set, sym, ap, ◌∙◌, subst, arith}
use Rattle.std.specs.Prelude.{slice_get}
use Rattle.dn_model.specs.declared.event.Event.{Event}
use Rattle.dn_world.specs.Steps.{arrived}
use Rattle.dn_world.specs.Runs.{IsPast}
use Rattle.dn_router.specs.Routers.{Speculation}
use Rattle.dn_fabric.proofs.Calls.{on_err_all}
use Rattle.dn_fabric.specs.Coming.{AreAsBefore}
use Rattle.dn_fabric.proofs.Arrivals.{coming_to, ticked_to, ticked_length, ticked_none, ticked_get, ticked_next, ticked_whole, before_ticked}
use Rattle.dn_fabric.proofs.Errands.{there}
use Rattle.dn_fabric.proofs.coming.tick_all.Goals as goal

pub loop-number-init : goal.loop-number-init
loop-number-init g c = ticked_none c.args.group c.args.routers.now

pub arrive-requires-clause-inside : goal.arrive-requires-clause-inside
arrive-requires-clause-inside g c κs within =
    let rs = c.args.routers.now in
    let n = c.loop-number.number in
    let same = ap length c.loop-number.invariant in
    let many = ticked_length c.args.group 0 n rs in
    let t = c.loop-number-test.true in
    let l = c.len-number-end.ensures in
    omega (arith, t, l, same, many)

pub arrive-requires-clause-own : goal.arrive-requires-clause-own
arrive-requires-clause-own g c κs within = λ s at.
    let n = c.loop-number.number in
    let old = sym (ticked_get c.args.group 0 n c.args.routers.now) ∙ ap (λ l. slice_get l n) (sym c.loop-number.invariant) ∙ at in
    ap (λ e. e.router) c.tick.ensures ∙ sym (c.requires.numbers n s old)

pub arrive-requires-clause-past : goal.arrive-requires-clause-past
arrive-requires-clause-past g c κs within = λ s at.
    let n = c.loop-number.number in
    let old = sym (ticked_get c.args.group 0 n c.args.routers.now) ∙ ap (λ l. slice_get l n) (sym c.loop-number.invariant) ∙ at in
    let past = c.new_keys.ensures.tick s.bound c.args.group n (c.requires.past n s old) in
    subst (λ (e : Event). IsPast s.bound e.key) (sym c.tick.ensures) past

pub returns-in_err-arrive-clause-err : goal.returns-in_err-arrive-clause-err
returns-in_err-arrive-clause-err g c =
    let n = c.loop-number.number in
    let rs = c.args.routers.now in
    let same : c.arrive.new.self ≡ ticked_to c.args.group 0 n rs = c.in_err-arrive.ensures.err ∙ c.loop-number.invariant in
    on_err_all c.from_residual.result (subst (λ (l : List (Speculation g.row.G.Denot)). AreAsBefore rs l) (sym same) (before_ticked c.args.group 0 n rs))

pub loop-number-preserved : goal.loop-number-preserved
unfolding arrived
loop-number-preserved g c =
    let n = c.loop-number.number in
    let now = c.loop-number.routers in
    let rs = c.args.routers.now in
    let group = c.args.group in
    let many = ticked_length group 0 n rs in
    let inside : n < length rs = (let t = c.loop-number-test.true in let l = c.len-number-end.ensures in omega (arith, t, l)) in
    let found = there rs n inside in
    let s = found.0 in
    let at = ap (λ l. slice_get l n) c.loop-number.invariant ∙ ticked_get group 0 n rs ∙ found.1 in
    let next : suc n ≡ n + 1 = omega arith in
    let came : c.arrive.new.self ≡ set now n (coming_to c.tick.result s) = c.in_ok-arrive.ensures.ok s at in
    came
    ∙ (λ i. set (c.loop-number.invariant i) n (coming_to (c.tick.ensures i) s))
    ∙ ticked_next group 0 n n rs s (omega arith) found.1
    ∙ ap (λ m. ticked_to group 0 m rs) next

pub returns-clause-ok : goal.returns-clause-ok
returns-clause-ok g c =
    c.loop-number.invariant ∙ ticked_whole c.args.group 0 c.loop-number.number c.args.routers.now (let t = c.loop-number-test.false in let l = c.len-number-end.ensures in omega (arith, t, l))
