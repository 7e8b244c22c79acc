use Rattle.std.proofs.Common.{◌≡◌, ◌-◌, List, [], ◌∷◌, ◌++◌, take, sym, ap, ◌∙◌, subst}
use Rattle.std.specs.List.Sorted.{IsPermutation}
use Rattle.std.proofs.lemmas.List.Sorted.{IsPermutation-append_left, IsPermutation-trans}
use Rattle.dn_model.specs.declared.event.Event.{Event}
use Rattle.dn_lockstep.specs.declared.queued.Queued.{Queued}
use Rattle.dn_lockstep.specs.Queues.{queued_events, IsQueue}
use Rattle.dn_lockstep.proofs.Taking.{events_moved, taken_last, last_moved, next_first}
use Rattle.dn_lockstep.proofs.queue.EventQueue.pop.Goals as goal

-- ---- an event of the first ones

pub returns-in-Some-clause-taken : goal.returns-in-Some-clause-taken
returns-in-Some-clause-taken c =
    let later = c.self.inside.later in
    let rest = c.pop.new.self.items in
    let least = c.in-Some.least in
    subst (λ (es : List Event). IsPermutation es (least.event ∷ (queued_events rest ++ later)))
    (ap (λ (items : List Queued). queued_events items ++ later) (sym c.in-Some.ensures.items) ∙ c.self.view_is)
    (last_moved rest least later)

pub returns-in-Some-clause-first : goal.returns-in-Some-clause-first
returns-in-Some-clause-first c =
    let later = c.self.inside.later in
    (taken_last c.pop.new.self.items c.in-Some.least later (subst (λ (items : List Queued). IsQueue items later) c.in-Some.ensures.items c.self.invariant)).first

-- ---- an event of the next moment

pub invariant_of-self-2 : goal.invariant_of-self-2
invariant_of-self-2 c =
    let later = c.take_first.new.self in
    let sorted = c.sort_unstable.new.self.items in
    let queue : IsQueue sorted later = next_first c.in_ok-first.first.items sorted later c.in_ok-first.ensures.first c.sort_unstable.ensures.permutation c.sort_unstable.ensures.sorted in
    (taken_last c.pop-2.new.self.items c.in_ok-least.least later (subst (λ (items : List Queued). IsQueue items later) c.in_ok-least.ensures.items queue)).left

pub returns-clause-taken : goal.returns-clause-taken
returns-clause-taken c =
    let old = c.self.inside.first.items in
    let later = c.take_first.new.self in
    let taken = c.in_ok-first.first.items in
    let sorted = c.sort_unstable.new.self.items in
    let rest = c.pop-2.new.self.items in
    let least = c.in_ok-least.least in
    let zero = c.in_default.ensures.cases.0 in
    let nothing : c.pop.new.self.items ≡ [] = c.in_default.ensures.rest ∙ ap (λ n. take (n - 1) old) zero in
    let none : old ≡ [] = c.in_default.ensures.items ∙ (λ i. nothing i ++ []) in
    let all : c.args.self.now ≡ queued_events taken ++ later =
    sym c.self.view_is ∙ ap (λ (items : List Queued). queued_events items ++ c.self.inside.later) none ∙ c.in_ok-first.ensures.taken in
    subst (λ (es : List Event). IsPermutation es (least.event ∷ (queued_events rest ++ later))) (sym all)
    (IsPermutation-trans (queued_events taken ++ later) (queued_events sorted ++ later) (least.event ∷ (queued_events rest ++ later))
    (IsPermutation-append_left later (queued_events taken) (queued_events sorted) (events_moved taken sorted c.sort_unstable.ensures.permutation))
    (subst (λ (items : List Queued). IsPermutation (queued_events items ++ later) (least.event ∷ (queued_events rest ++ later))) (sym c.in_ok-least.ensures.items) (last_moved rest least later)))

pub returns-clause-first : goal.returns-clause-first
returns-clause-first c =
    let later = c.take_first.new.self in
    let sorted = c.sort_unstable.new.self.items in
    let queue : IsQueue sorted later = next_first c.in_ok-first.first.items sorted later c.in_ok-first.ensures.first c.sort_unstable.ensures.permutation c.sort_unstable.ensures.sorted in
    (taken_last c.pop-2.new.self.items c.in_ok-least.least later (subst (λ (items : List Queued). IsQueue items later) c.in_ok-least.ensures.items queue)).first
