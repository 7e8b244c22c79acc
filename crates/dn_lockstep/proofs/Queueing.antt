-- What pushes into a queue do to all that waits.
use Rattle.std.proofs.Common.{◌≡◌, ℕ, zero, suc, ◌+◌, ◌-◌, ◌<◌, Some, None, List, [], ◌∷◌, ◌++◌, length, take, get_or, refl, sym, ap, ◌∙◌, subst, arith, append-nil, append_assoc, add-one}
use Rattle.std.specs.Prelude.{slice_get}
use Rattle.std.specs.List.Sorted.{IsPermutation}
use Rattle.std.proofs.lemmas.List.Sorted.{IsPermutation-refl, IsPermutation-trans, IsPermutation-append_left, IsPermutation-push_more, IsPermutation-middle}
use Rattle.std.proofs.lemmas.List.{take_more}
use Rattle.std.proofs.lemmas.List.{length-take-le}
use Rattle.dn_model.specs.declared.event.Event.{Event}
use Rattle.dn_guest.specs.declared.node.Sent.{Sent}
use Rattle.dn_model.specs.declared.timing.Timing.{Timing}
use Rattle.dn_model.specs.declared.link.End.{End}
use Rattle.dn_model.specs.declared.feed.External.{External}
use Rattle.dn_model.specs.Network.{tick, external, externals, message_at, emitted_by}
use Rattle.dn_lockstep.specs.Agendas.{group_ticks, later_ticks}

-- ---- ticks

pub no_ticks : (queue : List Event) (group : ℕ) → IsPermutation (queue ++ group_ticks group 0) queue
unfolding group_ticks
no_ticks queue group = subst (λ (es : List Event). IsPermutation es queue) (sym (append-nil queue)) (IsPermutation-refl queue)

pub one_tick_more : (old made new : List Event) (group n : ℕ) → IsPermutation (old ++ group_ticks group n) made → IsPermutation (tick group n ∷ made) new → IsPermutation (old ++ group_ticks group (n + 1)) new
unfolding group_ticks
one_tick_more old made new group n so more =
    rw add-one
    (subst (λ (es : List Event). IsPermutation es new) (append_assoc old (group_ticks group n) (tick group n ∷ []))
    (IsPermutation-push_more (old ++ group_ticks group n) made new (tick group n) so more))

-- the ticks of a group go from those that wait into the queue
pub group_begun : (old queue : List Event) (group left n : ℕ) → 0 < left → IsPermutation (old ++ group_ticks group n) queue → IsPermutation (old ++ later_ticks group left n) (queue ++ later_ticks (group + 1) (left - 1) n)
unfolding later_ticks
group_begun old queue group zero n l moves = absurd (omega arith)
group_begun old queue group (suc left) n l moves =
    let e : suc left - 1 ≡ left = omega arith in
    rw (add-one, e)
    (subst (λ (es : List Event). IsPermutation es (queue ++ later_ticks (suc group) left n)) (append_assoc old (group_ticks group n) (later_ticks (suc group) left n))
    (IsPermutation-append_left (later_ticks (suc group) left n) (old ++ group_ticks group n) queue moves))

-- ---- externals

externals_append : (place : ℕ) (xs ys : List External) → externals place (xs ++ ys) ≡ externals place xs ++ externals (place + length xs) ys
unfolding externals
externals_append place [] ys = let e : place + 0 ≡ place = omega arith in rw e refl
externals_append place (x ∷ xs) ys =
    let e : place + suc (length xs) ≡ suc place + length xs = omega arith in
    rw e (ap (λ l. external place x ∷ l) (externals_append (suc place) xs ys))

pub externals_next : (feed : List External) (place : ℕ) (x : External) → place < length feed → x ≡ get_or feed place x → externals 0 (take (place + 1) feed) ≡ externals 0 (take place feed) ++ external place x ∷ []
unfolding externals
externals_next feed place x l is =
    let cut : take (place + 1) feed ≡ take place feed ++ x ∷ [] = take_more feed place x l ∙ ap (λ y. take place feed ++ y ∷ []) (sym is) in
    let len : 0 + length (take place feed) ≡ place = omega (arith, length-take-le place feed (omega arith)) in
    ap (externals 0) cut ∙ externals_append 0 (take place feed) (x ∷ []) ∙ ap (λ n. externals 0 (take place feed) ++ externals n (x ∷ [])) len

pub one_external_more : (feed : List External) (place : ℕ) (x : External) (made new : List Event) → place < length feed → x ≡ get_or feed place x → IsPermutation (externals 0 (take place feed)) made → IsPermutation (external place x ∷ made) new → IsPermutation (externals 0 (take (place + 1) feed)) new
one_external_more feed place x made new l is so more =
    subst (λ (es : List Event). IsPermutation es new) (sym (externals_next feed place x l is)) (IsPermutation-push_more (externals 0 (take place feed)) made new (external place x) so more)

-- ---- what a step emits

pub none_more : (t : Timing) (ends : List End) (cause : Event) (s : Sent) (rest : List Sent) → message_at t cause s (slice_get ends s.port) ≡ None → emitted_by t ends cause (s ∷ rest) ≡ emitted_by t ends cause rest
unfolding emitted_by
none_more t ends cause s rest h = simp h refl

pub one_more : (t : Timing) (ends : List End) (cause : Event) (s : Sent) (rest : List Sent) (e : Event) → message_at t cause s (slice_get ends s.port) ≡ Some e → emitted_by t ends cause (s ∷ rest) ≡ e ∷ emitted_by t ends cause rest
unfolding emitted_by
one_more t ends cause s rest e h = simp h refl

pub none_left : (t : Timing) (ends : List End) (cause : Event) (all waiting : List Event) (rest : List Sent) → length rest ≡ 0 → IsPermutation all (waiting ++ emitted_by t ends cause rest) → IsPermutation all waiting
unfolding emitted_by
none_left t ends cause all waiting [] none so = subst (IsPermutation all) (append-nil waiting) so
none_left t ends cause all waiting (s ∷ rest) none so = absurd (omega arith)

-- the first of what is left goes in
pub put_in : (all waiting new rest : List Event) (e : Event) → IsPermutation all (waiting ++ e ∷ rest) → IsPermutation (e ∷ waiting) new → IsPermutation all (new ++ rest)
put_in all waiting new rest e so more =
    IsPermutation-trans all (waiting ++ e ∷ rest) (new ++ rest) so
    (IsPermutation-trans (waiting ++ e ∷ rest) (e ∷ (waiting ++ rest)) (new ++ rest) (IsPermutation-middle waiting e rest)
    (IsPermutation-append_left rest (e ∷ waiting) new more))
