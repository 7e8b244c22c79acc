use Rattle.std.proofs.Common.{◌≡◌, List, [], length, drop, append-nil, refl, sym, ap, ◌∙◌, arith}
use Rattle.dn_model.specs.declared.event.Event.{Event}
use Rattle.dn_model.specs.declared.link.End.{End}
use Rattle.dn_world.specs.World.{Part}
use Rattle.dn_world.specs.Steps.{until, is_wrong}
use Rattle.dn_router.specs.Replays.{emitted_over}
use Rattle.dn_router.specs.Routers.{Speculation, rolled_back, unsent}
use Rattle.dn_router.proofs.Answers.{on_err_all}
use Rattle.dn_router.proofs.Replays.{has_is, base_front}
use Rattle.dn_router.proofs.Rolling.{place_reached, place_short, rolled_is, sound_after, unsent_is}
use Rattle.dn_router.proofs.Sound.{beside, seen, done_reached}
use Rattle.dn_router.proofs.router.Router.roll_back.Goals as goal

abbrev with_part : {S : Type 0} → Part → Speculation S → Speculation S
with_part part s = record s { part = part }

abbrev with_rolled : {S : Type 0} → Speculation S → Speculation S
with_rolled s = record s { part = rolled_back s.part }

pub base_for-requires-after_bounds : goal.base_for-requires-after_bounds
base_for-requires-after_bounds g c κs within =
    let place : c.first_wrong-place.result ≡ length (until (is_wrong c.self.inside.queue) c.self.inside.done.items) = c.first_wrong-place.ensures ∙ ap (λ (l : List Event). length (until (is_wrong c.self.inside.queue) l)) c.as_slice.ensures.value in
    let reached = place_reached g.G.Guest.meaning c.self.inside.number c.self.inside.timing.period c.self.inside.opening c.self.inside.done.items c.self.inside.queue c.first_wrong-place.result c.self.inside.shelf c.self.inside.wrong c.self.inside.committed c.self.inside.bound c.self.invariant place in
    has_is g.G.Guest.meaning c.self.inside.opening c.self.inside.done.items c.self.inside.committed c.first_wrong-place.result c.self.inside.shelf reached (done_reached c.self.invariant) c.self.invariant.kept

pub returns-in_err-node-clause-err : goal.returns-in_err-node-clause-err
returns-in_err-node-clause-err g c = on_err_all c.from_residual.result (record { part = c.args.self.now.part; is = refl })

pub rest-requires : goal.rest-requires
rest-requires g c =
    let place : c.first_wrong-place.result ≡ length (until (is_wrong c.self.inside.queue) c.self.inside.done.items) = c.first_wrong-place.ensures ∙ ap (λ (l : List Event). length (until (is_wrong c.self.inside.queue) l)) c.as_slice.ensures.value in
    let short = place_short c.self.inside.done.items c.self.inside.queue c.first_wrong-place.result place in
    let n = ap length c.as_slice-3.ensures.value in
    omega (arith, short, n)

pub returns-in_err-unsent-clause-err : goal.returns-in_err-unsent-clause-err
returns-in_err-unsent-clause-err g c = on_err_all c.from_residual-in_err-unsent.result (record { part = c.args.self.now.part; is = refl })

pub split_off-requires : goal.split_off-requires
split_off-requires g c =
    let place : c.first_wrong-place.result ≡ length (until (is_wrong c.self.inside.queue) c.self.inside.done.items) = c.first_wrong-place.ensures ∙ ap (λ (l : List Event). length (until (is_wrong c.self.inside.queue) l)) c.as_slice.ensures.value in
    let short = place_short c.self.inside.done.items c.self.inside.queue c.first_wrong-place.result place in
    let n = c.self.inside.done.ok.0 in
    omega (arith, short, n)

pub returns-in_err-taken-clause-err : goal.returns-in_err-taken-clause-err
returns-in_err-taken-clause-err g c =
    let part = beside c.split_off.new.self.items c.self.inside.queue in
    on_err_all c.from_residual-in_err-taken.result (record { part = part; is = ap (with_part part) c.self.view_is })

pub cut-requires-after_bounds : goal.cut-requires-after_bounds
cut-requires-after_bounds g c κs within =
    let place : c.first_wrong-place.result ≡ length (until (is_wrong c.self.inside.queue) c.self.inside.done.items) = c.first_wrong-place.ensures ∙ ap (λ (l : List Event). length (until (is_wrong c.self.inside.queue) l)) c.as_slice.ensures.value in
    let reached = place_reached g.G.Guest.meaning c.self.inside.number c.self.inside.timing.period c.self.inside.opening c.self.inside.done.items c.self.inside.queue c.first_wrong-place.result c.self.inside.shelf c.self.inside.wrong c.self.inside.committed c.self.inside.bound c.self.invariant place in
    has_is g.G.Guest.meaning c.self.inside.opening c.self.inside.done.items c.self.inside.committed c.first_wrong-place.result c.self.inside.shelf reached (done_reached c.self.invariant) c.self.invariant.kept

pub invariant_of-self-in_err-take_back : goal.invariant_of-self-in_err-take_back
invariant_of-self-in_err-take_back g c =
    let place : c.first_wrong-place.result ≡ length (until (is_wrong c.self.inside.queue) c.self.inside.done.items) = c.first_wrong-place.ensures ∙ ap (λ (l : List Event). length (until (is_wrong c.self.inside.queue) l)) c.as_slice.ensures.value in
    let err = c.in_err-take_back.ensures.err in
    sound_after g.G.Guest.meaning c.self.inside.number c.self.inside.timing.period c.self.inside.opening c.self.inside.done.items c.self.inside.queue c.take_back.new.self c.first_wrong-place.result c.split_off.new.self.items c.in_ok-taken.taken.items err.came err.lost c.self.inside.shelf c.cut.new.self c.self.inside.wrong c.self.inside.committed c.self.inside.bound
    c.self.invariant place c.in_ok-taken.ensures.items c.in_ok-taken.ensures.tail err.all err.come c.cut.ensures

pub returns-in_err-take_back-clause-err : goal.returns-in_err-take_back-clause-err
returns-in_err-take_back-clause-err g c =
    let part = beside c.split_off.new.self.items c.take_back.new.self in
    on_err_all c.from_residual-in_err-take_back.result (record { part = part; is = ap (with_part part) c.self.view_is })

pub invariant_of-self-2 : goal.invariant_of-self-2
invariant_of-self-2 g c =
    let place : c.first_wrong-place.result ≡ length (until (is_wrong c.self.inside.queue) c.self.inside.done.items) = c.first_wrong-place.ensures ∙ ap (λ (l : List Event). length (until (is_wrong c.self.inside.queue) l)) c.as_slice.ensures.value in
    sound_after g.G.Guest.meaning c.self.inside.number c.self.inside.timing.period c.self.inside.opening c.self.inside.done.items c.self.inside.queue c.take_back.new.self c.first_wrong-place.result c.split_off.new.self.items c.in_ok-taken.taken.items c.in_ok-taken.taken.items [] c.self.inside.shelf c.cut.new.self c.self.inside.wrong c.self.inside.committed c.self.inside.bound
    c.self.invariant place c.in_ok-taken.ensures.items c.in_ok-taken.ensures.tail (sym (append-nil c.in_ok-taken.taken.items)) c.in_ok-take_back.ensures.ok c.cut.ensures

pub returns-clause-part : goal.returns-clause-part
returns-clause-part g c =
    let place : c.first_wrong-place.result ≡ length (until (is_wrong c.self.inside.queue) c.self.inside.done.items) = c.first_wrong-place.ensures ∙ ap (λ (l : List Event). length (until (is_wrong c.self.inside.queue) l)) c.as_slice.ensures.value in
    ap (λ part. seen c.self.inside.number c.self.inside.ends.items c.self.inside.timing c.self.inside.opening part c.self.inside.committed c.self.inside.bound)
    (rolled_is c.self.inside.done.items c.self.inside.queue c.take_back.new.self c.first_wrong-place.result c.split_off.new.self.items c.in_ok-taken.taken.items place c.in_ok-taken.ensures.items c.in_ok-taken.ensures.tail c.in_ok-take_back.ensures.ok)
    ∙ ap with_rolled c.self.view_is

pub returns-clause-unsent : goal.returns-clause-unsent
returns-clause-unsent g c =
    let m = g.G.Guest.meaning in
    let done = c.self.inside.done.items in
    let q = c.self.inside.queue in
    let s = seen c.self.inside.number c.self.inside.ends.items c.self.inside.timing c.self.inside.opening (beside done q) c.self.inside.committed c.self.inside.bound in
    let place : c.first_wrong-place.result ≡ length (until (is_wrong q) done) = c.first_wrong-place.ensures ∙ ap (λ (l : List Event). length (until (is_wrong q) l)) c.as_slice.ensures.value in
    let reached = place_reached g.G.Guest.meaning c.self.inside.number c.self.inside.timing.period c.self.inside.opening c.self.inside.done.items c.self.inside.queue c.first_wrong-place.result c.self.inside.shelf c.self.inside.wrong c.self.inside.committed c.self.inside.bound c.self.invariant place in
    let short = place_short done q c.first_wrong-place.result place in
    let node = c.in_ok-node.ensures ∙ (base_front m c.self.inside.opening done c.self.inside.committed c.first_wrong-place.result c.self.inside.shelf c.base_for.result.0 c.base_for.result.1.now reached short c.self.invariant.kept c.base_for.ensures.place c.base_for.ensures.node).1 in
    let off : c.rest.result.now ≡ drop c.first_wrong-place.result done = c.rest.ensures ∙ ap (λ (l : List Event). drop c.first_wrong-place.result l) c.as_slice-3.ensures.value in
    unsent_is m s done q c.first_wrong-place.result c.in_ok-node.node c.rest.result.now c.in_ok-unsent.unsent.items refl place node off
    (c.in_ok-unsent.ensures ∙ ap (λ (l : List End). emitted_over m c.self.inside.timing l c.in_ok-node.node c.rest.result.now) c.as_slice-2.ensures.value)
    ∙ ap (unsent m) c.self.view_is
