use Rattle.std.proofs.Common.{◌≡◌, true, false, List, [], ◌∷◌, ◌++◌, sym, ap, ◌∙◌, subst}
use Rattle.std.specs.List.Sorted.{IsPermutation}
use Rattle.std.proofs.lemmas.Result.{MatchResult-weaker}
use Rattle.dn_model.specs.declared.event.Event.{Event}
use Rattle.dn_lockstep.specs.declared.queued.Queued.{Queued}
use Rattle.dn_lockstep.specs.Queues.{queued_events, is_before_first, IsQueue}
use Rattle.dn_lockstep.proofs.Options.{either_way}
use Rattle.dn_lockstep.proofs.Taking.{first_more, first_moved, later_more, later_moved}
use Rattle.dn_lockstep.proofs.queue.EventQueue.push.Goals as goal

-- ---- among the first ones

pub invariant_of-self-then-is_before_first : goal.invariant_of-self-then-is_before_first
invariant_of-self-then-is_before_first c =
    let e = c.args.event in
    let first = c.self.inside.first.items in
    let sorted = c.sort_unstable.new.self.items in
    let before : is_before_first e first ≡ true = ap (is_before_first e) (sym c.as_slice.ensures.value) ∙ sym c.is_before_first.ensures ∙ c.if-is_before_first.true in
    let moves : IsPermutation (first ++ record { event = e } ∷ []) sorted = subst (λ (items : List Queued). IsPermutation items sorted) c.in_ok-push.ensures.items c.sort_unstable.ensures.permutation in
    first_more e first sorted c.self.inside.later c.self.invariant before moves c.sort_unstable.ensures.sorted

pub returns-in_ok-push-clause-ok : goal.returns-in_ok-push-clause-ok
returns-in_ok-push-clause-ok c =
    let e = c.args.event in
    let first = c.self.inside.first.items in
    let later = c.self.inside.later in
    let sorted = c.sort_unstable.new.self.items in
    let moves : IsPermutation (first ++ record { event = e } ∷ []) sorted = subst (λ (items : List Queued). IsPermutation items sorted) c.in_ok-push.ensures.items c.sort_unstable.ensures.permutation in
    subst (λ (es : List Event). IsPermutation (e ∷ es) (queued_events sorted ++ later)) c.self.view_is (first_moved e first sorted later moves)

-- ---- among the later ones

pub invariant_of-self-else-is_before_first : goal.invariant_of-self-else-is_before_first
invariant_of-self-else-is_before_first c =
    let e = c.args.event in
    let first = c.self.inside.first.items in
    let later = c.self.inside.later in
    let more = c.push-else-is_before_first.new.self in
    let after : is_before_first e first ≡ false = ap (is_before_first e) (sym c.as_slice.ensures.value) ∙ sym c.is_before_first.ensures ∙ c.if-is_before_first.false in
    either_way c.push-else-is_before_first.result (IsPermutation (e ∷ later) more) (more ≡ later) (IsQueue first more) c.push-else-is_before_first.ensures.ok c.push-else-is_before_first.ensures.err
    (λ moves. later_more e first later more c.self.invariant after moves) (λ same. subst (IsQueue first) (sym same) c.self.invariant)

pub returns-else-is_before_first-clause-ok : goal.returns-else-is_before_first-clause-ok
returns-else-is_before_first-clause-ok c =
    let e = c.args.event in
    let first = c.self.inside.first.items in
    let more = c.push-else-is_before_first.new.self in
    MatchResult-weaker c.push-else-is_before_first.result c.push-else-is_before_first.ensures.ok
    (λ u moves. subst (λ (es : List Event). IsPermutation (e ∷ es) (queued_events first ++ more)) c.self.view_is (later_moved e first c.self.inside.later more moves))
    (λ x h. h)
