use Rattle.std.proofs.Common.{◌≡◌, List, ◌∷◌, [], ◌++◌, length, drop, sym, ap, ◌∙◌, arith}
use Rattle.std.proofs.lemmas.Bool.{false≢true}
use Rattle.dn_model.specs.declared.event.Event.{Event}
use Rattle.dn_world.specs.World.{is_ready}
use Rattle.dn_router.specs.Routers.{order_of}
use Rattle.dn_router.proofs.Marks.{ready_waits, first_waits}
use Rattle.dn_router.proofs.Replays.{has_is, base_last}
use Rattle.dn_router.proofs.Ordering.{order_parts, order_base}
use Rattle.dn_router.proofs.Sound.{beside, seen, done_reached}
use Rattle.dn_router.proofs.router.Router.is_given.Goals as goal

pub base_for-place-requires-after_bounds : goal.base_for-place-requires-after_bounds
base_for-place-requires-after_bounds g c =
    λ κs incl.
    let reached = done_reached c.self.invariant in
    let n = c.len.ensures in
    let m = c.self.inside.done.ok.0 in
    has_is g.G.Guest.meaning c.self.inside.opening c.self.inside.done.items c.self.inside.committed c.len.result c.self.inside.shelf (omega (arith, reached, n, m)) reached c.self.invariant.kept

pub unreachable-requires : goal.unreachable-requires
unreachable-requires g c =
    let p = beside c.self.inside.done.items c.self.inside.queue in
    first_waits p.todo (ready_waits p (ap (λ s. is_ready s.part) c.self.view_is ∙ c.requires.ready)) c.in-None.ensures

pub rest-since-requires : goal.rest-since-requires
rest-since-requires g c =
    let at = base_last g.G.Guest.meaning c.self.inside.opening c.self.inside.done.items c.self.inside.committed c.len.result c.self.inside.shelf c.base_for-place.result.0 c.base_for-place.result.1.now (done_reached c.self.invariant) (c.len.ensures ∙ c.self.inside.done.ok.0) c.self.invariant.kept c.base_for-place.ensures.place c.base_for-place.ensures.node in
    let n = ap length c.as_slice.ensures.value in
    let place = at.0 in
    omega (arith, place, n)

pub returns-then-outcome-place : goal.returns-then-outcome-place
returns-then-outcome-place g c =
    let m = g.G.Guest.meaning in
    let done = c.self.inside.done.items in
    let at = base_last m c.self.inside.opening done c.self.inside.committed c.len.result c.self.inside.shelf c.base_for-place.result.0 c.base_for-place.result.1.now (done_reached c.self.invariant) (c.len.ensures ∙ c.self.inside.done.ok.0) c.self.invariant.kept c.base_for-place.ensures.place c.base_for-place.ensures.node in (
      λ t. absurd (false≢true t),
      λ e. absurd (c.if-outcome-place.true (ap (λ t. t.place) (c.outcome.view_is ∙ e) ∙ sym (ap (λ s. length s.part.done) c.self.view_is) ∙ sym at.0)),
    )

pub returns : goal.returns
returns g c =
    let m = g.G.Guest.meaning in
    let done = c.self.inside.done.items in
    let s = seen c.self.inside.number c.self.inside.ends.items c.self.inside.timing c.self.inside.opening (beside done c.self.inside.queue) c.self.inside.committed c.self.inside.bound in
    let at = base_last m c.self.inside.opening done c.self.inside.committed c.len.result c.self.inside.shelf c.base_for-place.result.0 c.base_for-place.result.1.now (done_reached c.self.invariant) (c.len.ensures ∙ c.self.inside.done.ok.0) c.self.invariant.kept c.base_for-place.ensures.place c.base_for-place.ensures.node in
    let since : c.rest-since.result.now ≡ drop c.outcome.inside.place done =
    c.rest-since.ensures ∙ (λ i. drop (sym c.if-outcome-place.false i) (c.as_slice.ensures.value i)) in
    let inputs : c.outcome.inside.inputs.items ≡ drop c.outcome.inside.place done ++ c.in-Some.least.now ∷ [] =
    sym c.as_slice-2.ensures.value ∙ c.are_and.ensures.0 c.if-not-are_and.false ∙ ap (λ (l : List Event). l ++ c.in-Some.least.now ∷ []) since in (
      λ t.
          sym c.outcome.view_is
          ∙ order_parts m s c.outcome.inside.router c.outcome.inside.place c.outcome.inside.base c.outcome.inside.inputs.items c.in-Some.least.now
          (ap (λ t. t.router) c.outcome.view_is ∙ c.requires.own ∙ sym (ap (λ s. s.number) c.self.view_is))
          (c.if-outcome-place.false ∙ at.0) (sym c.node.ensures ∙ c.same.ensures.0 t ∙ at.1) c.in-Some.ensures inputs
          ∙ ap (order_of m) c.self.view_is,
      λ e. c.same.ensures.1 (c.node.ensures ∙ ap (λ t. t.base) (c.outcome.view_is ∙ e ∙ sym (ap (order_of m) c.self.view_is)) ∙ order_base m s ∙ sym at.1),
    )
