-- The messages to a router that wait.
use Rattle.std.proofs.Common.{length, take, get_or, ◌≡◌, ℕ, zero, suc, ◌+◌, ◌<◌, Bool, true, false, ◌&&◌, List, [], ◌∷◌, ◌++◌, refl, sym, ap, ◌∙◌, arith, append-nil}
use Rattle.std.specs.Prelude.{◌==◌, cond}
use Rattle.std.specs.FinMap.{IsAntisymmetric}
use Rattle.std.specs.List.{filter, AllByRecursion}
use Rattle.std.specs.List.Sorted.{IsPermutation}
use Rattle.std.proofs.lemmas.Bool.{eq-eqb, ne_eqb, both_ways}
use Rattle.std.proofs.lemmas.List.{take_more, map-append}
use Rattle.dn_model.specs.declared.event.Event.{Event}
use Rattle.dn_model.specs.declared.feed.External.{External}
use Rattle.dn_model.specs.Order.{event_cmp, event_total}
use Rattle.dn_model.specs.Network.{Network, Family, injected, is_at, routers, sent_to, tick}
use Rattle.dn_model.specs.Settled.{due}
use Rattle.dn_model.specs.SoFar.{by_router}
use Rattle.dn_lists.proofs.Lists.{by_test, all_weaker, all_append, all_filter, filter_append, filter_none}
use Rattle.dn_lists.proofs.Sorting.{count, count_append, count_none, count_filter, count_permutation, permutation_from_counts}
use Rattle.dn_lockstep.specs.Agendas.{group_ticks, later_ticks}
use Rattle.dn_lockstep.specs.declared.queued.Queued.{Queued}
use Rattle.dn_lockstep.specs.Queues.{queued_events}
use Rattle.dn_lockstep.specs.Running.{Running, StandsIn, first_rows, messages}

-- ---- no tick is a message

abbrev is_message : Event → Bool
is_message e = e.key.class == 2

group_ticks_no : (group n : ℕ) → AllByRecursion (λ e. is_message e ≡ false) (group_ticks group n)
unfolding group_ticks
group_ticks_no group zero = tt
group_ticks_no group (suc n) = all_append (λ e. is_message e ≡ false) (group_ticks group n) (tick group n ∷ []) (group_ticks_no group n) (refl, tt)

later_ticks_no : (group left n : ℕ) → AllByRecursion (λ e. is_message e ≡ false) (later_ticks group left n)
unfolding later_ticks
later_ticks_no group zero n = tt
later_ticks_no group (suc left) n =
    all_append (λ e. is_message e ≡ false) (group_ticks group n) (later_ticks (suc group) left n) (group_ticks_no group n) (later_ticks_no (suc group) left n)

-- the messages that wait are those in the queue
pub messages_in_queue : (r : ℕ) (queue : List Event) (group left n : ℕ) → messages (by_router (queue ++ later_ticks group left n) r) ≡ messages (by_router queue r)
messages_in_queue r queue group left n =
    let later = later_ticks group left n in
    ap messages (filter_append (is_at r) queue later)
    ∙ filter_append is_message (by_router queue r) (by_router later r)
    ∙ ap (λ l. messages (by_router queue r) ++ l) (filter_none is_message (by_router later r) (all_filter (λ e. is_message e ≡ false) (is_at r) later (later_ticks_no group left n)))
    ∙ append-nil (messages (by_router queue r))

-- ---- what is sent is a message, and what is injected is none

-- what is sent to a router are messages, and what is injected are none
pub record Kinds {S : Type 0} (net : Network S) (feed : List External) : Type 0 where
  pub all_sent : (f : Family) (r : ℕ) → AllByRecursion (λ e. e.key.class ≡ 2) (sent_to net f r)
  pub all_injected : (r : ℕ) → AllByRecursion (λ e. e.key.class < 2) (injected net.header.groups feed r)

module _ {S : Type 0} (net : Network S) where
  count_all : (p q : Event → Bool) (xs : List Event) → AllByRecursion (λ e. q e ≡ true) xs → count (λ e. q e && p e) xs ≡ count p xs
  count_all p q [] a = refl
  count_all p q (x ∷ xs) a = let h = a.0 in let ih = count_all p q xs a.1 in simp h (ap (λ n. cond (p x) 1 0 + n) ih)

  -- what the rows so far sent to a router: the messages among its rows, and those that wait
  pub sent_so_far : IsAntisymmetric event_cmp → (feed : List External) → Kinds net feed → (e : Running S) → StandsIn net feed e → (r : ℕ) → r < routers net → IsPermutation (sent_to net (by_router (first_rows net feed e.place)) r) (messages (by_router (first_rows net feed e.place) r) ++ messages (by_router e.waiting r))
  unfolding due
  sent_so_far apart feed kinds e so r l =
      let done = first_rows net feed e.place in
      let f = by_router done in
      permutation_from_counts event_cmp event_total apart (sent_to net f r) (messages (by_router done r) ++ messages (by_router e.waiting r))
      (λ p.
      let q : Event → Bool = λ w. is_message w && p w in
      let all = count_permutation q (due net feed f r) (by_router (done ++ e.waiting) r) (so.so_far.complete r l) in
      let parts = count_append q (injected net.header.groups feed r) (sent_to net f r) in
      let none : count q (injected net.header.groups feed r) ≡ 0 =
      count_none q (injected net.header.groups feed r) (all_weaker (λ w. is_message w ≡ false) (λ w. q w ≡ false) (injected net.header.groups feed r) (λ w h. simp h refl)
      (all_weaker (λ w. w.key.class < 2) (λ w. is_message w ≡ false) (injected net.header.groups feed r) (λ w h. ne_eqb w.key.class 2 (λ x. omega (arith, h, x))) (kinds.all_injected r))) in
      let own = count_all p is_message (sent_to net f r) (all_weaker (λ w. w.key.class ≡ 2) (λ w. is_message w ≡ true) (sent_to net f r) (λ w h. eq-eqb w.key.class 2 h) (kinds.all_sent f r)) in
      let two : count q (by_router (done ++ e.waiting) r) ≡ count q (by_router done r ++ by_router e.waiting r) = ap (count q) (filter_append (is_at r) done e.waiting) in
      let split = count_append q (by_router done r) (by_router e.waiting r) in
      let first = count_filter p is_message (by_router done r) in
      let second = count_filter p is_message (by_router e.waiting r) in
      let result = count_append p (messages (by_router done r)) (messages (by_router e.waiting r)) in
      omega (arith, all, parts, none, own, two, split, first, second, result))

-- ---- the messages of a queue, one event more

pub one_queued_more : (r : ℕ) (items : List Queued) (i : ℕ) (x : Queued) → i < length items → x ≡ get_or items i x → messages (by_router (queued_events (take (i + 1) items)) r) ≡ messages (by_router (queued_events (take i items)) r) ++ messages (by_router (x.event ∷ []) r)
one_queued_more r items i x l is =
    let cut : take (i + 1) items ≡ take i items ++ x ∷ [] = take_more items i x l ∙ ap (λ y. take i items ++ y ∷ []) (sym is) in
    ap (λ (xs : List Queued). messages (by_router (queued_events xs) r)) cut
    ∙ ap (λ (es : List Event). messages (by_router es r)) (map-append (λ (q : Queued). q.event) (take i items) (x ∷ []))
    ∙ ap messages (filter_append (is_at r) (queued_events (take i items)) (x.event ∷ []))
    ∙ filter_append is_message (by_router (queued_events (take i items)) r) (by_router (x.event ∷ []) r)

pub is_found : (r : ℕ) (e : Event) → (is_at r e && is_message e) ≡ true → messages (by_router (e ∷ []) r) ≡ e ∷ []
is_found r e h = by_test (is_at r e) (λ a. by_test (is_message e) (λ b. simp (a, b) refl) (λ b. absurd (both_ways (is_at r e && is_message e) (simp (a, b) refl) h))) (λ a. absurd (both_ways (is_at r e && is_message e) (simp a refl) h))

pub not_found : (r : ℕ) (e : Event) → (is_at r e && is_message e) ≡ false → messages (by_router (e ∷ []) r) ≡ []
not_found r e h = by_test (is_at r e) (λ a. by_test (is_message e) (λ b. absurd (both_ways (is_at r e && is_message e) h (simp (a, b) refl))) (λ b. simp (a, b) refl)) (λ a. simp a refl)
