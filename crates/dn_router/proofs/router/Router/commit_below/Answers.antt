use Rattle.std.proofs.Common.{◌≡◌, ℕ, not, List, ◌++◌, take, drop, sym, ap, ◌∙◌, subst, arith}
use Rattle.std.specs.List.{AllByRecursion, filter}
use Rattle.dn_model.specs.declared.event.Event.{Event}
use Rattle.dn_model.specs.Order.{is_below}
use Rattle.dn_model.specs.Settled.{below}
use Rattle.dn_world.specs.Runs.{IsPast}
use Rattle.dn_guest.specs.declared.node.Node.{Node}
use Rattle.dn_ckpt.specs.Shelves.{kept_from}
use Rattle.dn_router.specs.Replays.{nodes_over}
use Rattle.dn_router.specs.Sound.{IsSound}
use Rattle.dn_router.proofs.Fresh.{fresh_is}
use Rattle.dn_router.proofs.Rising.{below_short, fewer_below, count_is}
use Rattle.dn_router.proofs.Replays.{has_is, trimmed}
use Rattle.dn_router.proofs.Sound.{beside, done_reached, sound_committed}
use Rattle.dn_router.proofs.router.Router.commit_below.Goals as goal

pub between-fresh-requires-clause-start : goal.between-fresh-requires-clause-start
between-fresh-requires-clause-start g c =
    let done = c.self.inside.done.items in
    let key = c.args.key.now in
    let count = count_is key c.as_slice.result.now done c.count_below-count.result c.as_slice.ensures.value c.count_below-count.ensures.within c.count_below-count.ensures.front in
    let rising : IsPast c.self.inside.bound key = subst (λ b. IsPast b key) (sym (ap (λ s. s.bound) c.self.view_is)) c.requires.rising in
    let fewer = fewer_below c.self.inside.bound key done rising in
    let before = c.self.invariant.committed in
    omega (arith, count, fewer, before)

pub trim-requires-after_bounds : goal.trim-requires-after_bounds
trim-requires-after_bounds g c κs within =
    let done = c.self.inside.done.items in
    let key = c.args.key.now in
    let count = count_is key c.as_slice.result.now done c.count_below-count.result c.as_slice.ensures.value c.count_below-count.ensures.within c.count_below-count.ensures.front in
    let rising : IsPast c.self.inside.bound key = subst (λ b. IsPast b key) (sym (ap (λ s. s.bound) c.self.view_is)) c.requires.rising in
    let fewer = fewer_below c.self.inside.bound key done rising in
    let before = c.self.invariant.committed in
    has_is g.G.Guest.meaning c.self.inside.opening done c.self.inside.committed c.count_below-count.result c.self.inside.shelf (omega (arith, count, fewer, before)) (done_reached c.self.invariant) c.self.invariant.kept

pub invariant_of-self : goal.invariant_of-self
invariant_of-self g c =
    let m = g.G.Guest.meaning in
    let done = c.self.inside.done.items in
    let key = c.args.key.now in
    let p = beside done c.self.inside.queue in
    let count = count_is key c.as_slice.result.now done c.count_below-count.result c.as_slice.ensures.value c.count_below-count.ensures.within c.count_below-count.ensures.front in
    let waiting : AllByRecursion (λ e. IsPast key e.key) (p.todo ++ p.voids) =
    subst (λ (l : List Event). AllByRecursion (λ e. IsPast key e.key) l) (sym (ap (λ s. s.part.todo ++ s.part.voids) c.self.view_is)) c.requires.waiting in
    let sound = sound_committed m c.self.inside.number c.self.inside.timing.period c.self.inside.opening p c.self.inside.shelf c.self.inside.wrong c.self.inside.committed c.self.inside.bound key c.self.invariant waiting in
    let rising : IsPast c.self.inside.bound key = subst (λ b. IsPast b key) (sym (ap (λ s. s.bound) c.self.view_is)) c.requires.rising in
    let fewer = fewer_below c.self.inside.bound key done rising in
    let short = below_short key done in
    let before = c.self.invariant.committed in
    let nodes = nodes_over m 0 c.self.inside.opening done in
    let shelf : c.trim.new.self ≡ kept_from c.count_below-count.result nodes =
    trimmed m c.self.inside.opening done c.self.inside.committed c.count_below-count.result c.self.inside.shelf c.trim.new.self
    (omega (arith, count, fewer, before)) (omega (arith, count, short)) c.self.invariant.kept c.trim.ensures in
    let on_count = subst (λ (k : ℕ). IsSound m c.self.inside.number c.self.inside.timing.period c.self.inside.opening p (kept_from k nodes) c.self.inside.wrong k key) count sound in
    subst (λ (l : List (ℕ × Node g.row.G.Denot)). IsSound m c.self.inside.number c.self.inside.timing.period c.self.inside.opening p l c.self.inside.wrong c.count_below-count.result key) (sym shelf) on_count

pub returns-clause-fresh : goal.returns-clause-fresh
returns-clause-fresh g c =
    let done = c.self.inside.done.items in
    let key = c.args.key.now in
    let first = c.as_slice.ensures.value in
    let second = c.as_slice-2.ensures.value in
    let count = c.count_below-count.result in
    let front : below key done ≡ take count done = ap (below key) (sym first) ∙ c.count_below-count.ensures.front ∙ ap (take count) first in
    let rising : IsPast c.self.inside.bound key = subst (λ b. IsPast b key) (sym (ap (λ s. s.bound) c.self.view_is)) c.requires.rising in
    c.in_ok-rows.ensures
    ∙ c.between-fresh.ensures
    ∙ ap (λ (l : List Event). drop c.self.inside.committed (take count l)) second
    ∙ ap (drop c.self.inside.committed) (sym front)
    ∙ ap (λ n. drop n (below key done)) c.self.invariant.committed
    ∙ fresh_is c.self.inside.bound key done rising c.self.invariant.sorted
    ∙ ap (λ s. filter (λ e. not (is_below s.bound e)) (below key s.part.done)) c.self.view_is
