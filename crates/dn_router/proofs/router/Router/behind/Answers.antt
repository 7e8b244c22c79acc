use Rattle.std.proofs.Common.{◌<◌, ◌≤◌, sym, ap, ◌∙◌, subst, List}
use Rattle.dn_model.specs.declared.event.Event.{Event}
use Rattle.dn_world.specs.World.{is_behind, is_before_last}
use Rattle.dn_router.proofs.Marks.{behind_marked, behind_first, behind_nothing}
use Rattle.dn_router.proofs.Sound.{beside}
use Rattle.dn_router.proofs.router.Router.behind.Goals as goal

pub returns-then-self-gt0 : goal.returns-then-self-gt0
returns-then-self-gt0 g c =
    let p = beside c.self.inside.done.items c.self.inside.queue in
    sym (behind_marked p (subst (λ n. 0 < n) c.self.invariant.wrong c.if-self-gt0.true)) ∙ ap (λ s. is_behind s.part) c.self.view_is

pub returns-in-Some : goal.returns-in-Some
returns-in-Some g c =
    let p = beside c.self.inside.done.items c.self.inside.queue in
    c.is_before_last.ensures
    ∙ ap (λ (l : List Event). is_before_last l c.in-Some.least.now) c.as_slice.ensures.value
    ∙ behind_first p c.in-Some.least.now c.self.invariant.tidy (subst (λ n. n ≤ 0) c.self.invariant.wrong c.if-self-gt0.false) c.in-Some.ensures
    ∙ ap (λ s. is_behind s.part) c.self.view_is

pub returns-in-None : goal.returns-in-None
returns-in-None g c =
    let p = beside c.self.inside.done.items c.self.inside.queue in
    behind_nothing p (subst (λ n. n ≤ 0) c.self.invariant.wrong c.if-self-gt0.false) c.in-None.ensures
    ∙ ap (λ s. is_behind s.part) c.self.view_is
