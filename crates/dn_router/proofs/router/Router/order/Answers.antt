use Rattle.std.proofs.Common.{◌≡◌, List, ◌∷◌, [], ◌++◌, length, drop, refl, ap, ◌∙◌, arith}
use Rattle.dn_model.specs.declared.event.Event.{Event}
use Rattle.dn_world.specs.World.{is_ready}
use Rattle.dn_router.specs.Routers.{order_of}
use Rattle.dn_router.proofs.Marks.{ready_waits, first_waits}
use Rattle.dn_router.proofs.Replays.{has_is, base_last}
use Rattle.dn_router.proofs.Ordering.{order_parts}
use Rattle.dn_router.proofs.Sound.{beside, seen, done_reached}
use Rattle.dn_router.proofs.router.Router.order.Goals as goal

pub shared_base_for-requires-after_bounds : goal.shared_base_for-requires-after_bounds
shared_base_for-requires-after_bounds g c =
    λ κs incl.
    let reached = done_reached c.self.invariant in
    let n = c.len.ensures in
    let m = c.self.inside.done.ok.0 in
    has_is g.G.Guest.meaning c.self.inside.opening c.self.inside.done.items c.self.inside.committed c.len.result c.self.inside.shelf (omega (arith, reached, n, m)) reached c.self.invariant.kept

pub unreachable-requires : goal.unreachable-requires
unreachable-requires g c =
    let p = beside c.self.inside.done.items c.self.inside.queue in
    first_waits p.todo (ready_waits p (ap (λ s. is_ready s.part) c.self.view_is ∙ c.requires)) c.in-None.ensures

pub rest-requires : goal.rest-requires
rest-requires g c =
    let at = base_last g.G.Guest.meaning c.self.inside.opening c.self.inside.done.items c.self.inside.committed c.len.result c.self.inside.shelf c.in_ok-place.place c.in_ok-place.base (done_reached c.self.invariant) (c.len.ensures ∙ c.self.inside.done.ok.0) c.self.invariant.kept c.in_ok-place.ensures.place c.in_ok-place.ensures.node in
    let n = ap length c.as_slice.ensures.value in
    let place = at.0 in
    omega (arith, place, n)

pub returns : goal.returns
returns g c =
    let m = g.G.Guest.meaning in
    let done = c.self.inside.done.items in
    let s = seen c.self.inside.number c.self.inside.ends.items c.self.inside.timing c.self.inside.opening (beside done c.self.inside.queue) c.self.inside.committed c.self.inside.bound in
    let at = base_last m c.self.inside.opening done c.self.inside.committed c.len.result c.self.inside.shelf c.in_ok-place.place c.in_ok-place.base (done_reached c.self.invariant) (c.len.ensures ∙ c.self.inside.done.ok.0) c.self.invariant.kept c.in_ok-place.ensures.place c.in_ok-place.ensures.node in
    let rest : c.rest.result.now ≡ drop c.in_ok-place.place done = c.rest.ensures ∙ ap (λ (l : List Event). drop c.in_ok-place.place l) c.as_slice.ensures.value in
    order_parts m s c.self.inside.number c.in_ok-place.place c.in_ok-place.base c.in_ok-inputs.inputs.items c.in-Some.least.now
    refl at.0 at.1 c.in-Some.ensures
    (c.in_ok-inputs.ensures ∙ ap (λ (l : List Event). l ++ c.in-Some.least.now ∷ []) rest)
    ∙ ap (order_of m) c.self.view_is
