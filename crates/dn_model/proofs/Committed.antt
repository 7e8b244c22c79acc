-- What holds of the parts of histories below a key: when they are settled, and that their messages were sent.
use Rattle.std.proofs.Common.{◌≡◌, ℕ, zero, suc, ◌+◌, ◌*◌, ◌<◌, ◌≤◌, eqb, Bool, true, false, List, [], ◌∷◌, ◌++◌, Option, Some, None, refl, sym, ap, ◌∙◌, subst, arith}
use Rattle.std.specs.Prelude.{nat_lt, slice_get}
use Rattle.std.proofs.lemmas.Bool.{eqb-true, eqb-false, both_ways}
use Rattle.std.specs.List.{filter, AllByRecursion}
use Rattle.std.specs.Ordering.{is_eq}
use Rattle.std.specs.Cmp.{Equal-is}
use Rattle.dn_guest.specs.Node.{node_after, node_sent}
use Rattle.dn_guest.specs.declared.node.Sent.{Sent}
use Rattle.dn_guest.specs.declared.node.Node.{Node}
use Rattle.dn_model.specs.declared.key.Key.{Key}
use Rattle.dn_model.specs.declared.event.Event.{Event}
use Rattle.dn_model.specs.declared.link.End.{End}
use Rattle.dn_model.specs.declared.timing.Timing.{Timing}
use Rattle.dn_model.specs.Cases.{Heading, timing_of}
use Rattle.dn_model.specs.Links.{ends}
use Rattle.dn_model.specs.declared.feed.External.{External}
use Rattle.dn_model.specs.Order.{event_cmp, is_below, event_total}
use Rattle.dn_model.specs.Keys.{next_key, message_key}
use Rattle.dn_model.specs.Network.{Network, Family, message_with, message_at, emitted_by, emitted, tick, ticks, externals, injected, is_at, joined, routers, opening_node, sent_from, sent, sent_to}
use Rattle.dn_model.specs.Settled.{IsTimed, IsFeedOf, below, due, IsSettledBelow}
use Rattle.dn_lists.proofs.Lists.{by_test, all_weaker, all_append, all_filter, filter_front}
use Rattle.dn_lists.proofs.Sorting.{count, count_permutation, count_append, count_none, sorted_from_rises, permutation_from_counts}
use Rattle.dn_model.proofs.EventOrder.{event_same}
use Rattle.dn_model.proofs.Causes.{Whenever, whenever_if, all_filter_map}
use Rattle.dn_model.proofs.Steps.{at_itself}
use Rattle.dn_model.proofs.Waves.{IsFine, below_cut, cut_falls, filter_fine, due_up_to}

module _ {S : Type 0} (net : Network S) (feed : List External) (timed : IsTimed net.header) (fed : IsFeedOf net.header feed) where
  -- histories in order that have, below a key, what is due of them, are settled below it
  pub settled_below_from : (bound : Key) (f : Family) → ((r : ℕ) → r < routers net → IsFine net feed timed fed (f r)) → ((r : ℕ) → r < routers net → (p : Event → Bool) → count p (below bound (f r)) ≡ count p (below bound (due net feed f r))) → IsSettledBelow net feed bound f
  unfolding below
  settled_below_from bound f fine counts =
      let q = is_below bound in
      record {
        sorted = λ r l. sorted_from_rises event_cmp event_total (filter q (f r)) (filter_fine net feed timed fed q (f r) (fine r l)).1;
        prefix = λ r l. filter_front q (f r) (cut_falls net feed timed fed q (below_cut bound) (f r) (fine r l));
        complete = λ r l.
            permutation_from_counts event_cmp event_total event_same (filter q (due net feed (λ s. filter q (f s)) r)) (filter q (f r))
            (λ p. ap (count p) (sym (due_up_to net feed timed fed q (below_cut bound) f fine r)) ∙ sym (counts r l p));
      }

-- ---- where a message comes from

-- a message, sent by s
abbrev pub IsFrom : ℕ → Event → Type 0
IsFrom s e = (e.key.class ≡ 2) × (e.key.origin ≡ s)

abbrev IsFromKey : ℕ → Key → Type 0
IsFromKey s k = (k.class ≡ 2) × (k.origin ≡ s)

next_key_from : (t : Timing) (cause : Key) (delay origin seq : ℕ) → Whenever (IsFromKey origin) (next_key t cause delay origin seq)
unfolding next_key message_key
next_key_from t cause delay origin seq = whenever_if (IsFromKey origin) (nat_lt _ (t.groups * t.period)) _ None (λ _. (refl, refl)) tt

with_from : (r : ℕ) (s : Sent) (end : End) (o : Option Key) → Whenever (IsFromKey r) o → Whenever (IsFrom r) (message_with s end o)
unfolding message_with
with_from r s end None w = tt
with_from r s end (Some k) w = w

pub emitted_from : (h : Heading) (cause : Event) (sents : List Sent) → AllByRecursion (IsFrom cause.router) (emitted h cause sents)
unfolding emitted emitted_by message_at
emitted_from h cause sents =
    all_filter_map (λ s. message_at (timing_of h) cause s (slice_get (ends h.links cause.router) s.port)) (IsFrom cause.router) sents (λ s. at s (slice_get (ends h.links cause.router) s.port))
  where
    at : (s : Sent) (o : Option End) → Whenever (IsFrom cause.router) (message_at (timing_of h) cause s o)
    at s None = tt
    at s (Some end) = with_from cause.router s end (next_key (timing_of h) cause.key end.delay cause.router s.seq) (next_key_from (timing_of h) cause.key end.delay cause.router s.seq)

-- no message
abbrev IsInjected : Event → Type 0
IsInjected e = e.key.class < 2

ticks_injected : (n r : ℕ) → AllByRecursion IsInjected (ticks n r)
unfolding ticks
ticks_injected zero r = tt
ticks_injected (suc n) r = all_append IsInjected (ticks n r) (tick n r ∷ []) (ticks_injected n r) (omega arith, tt)

externals_injected : (place : ℕ) (xs : List External) → AllByRecursion IsInjected (externals place xs)
unfolding externals
externals_injected place [] = tt
externals_injected place (x ∷ xs) = (omega arith, externals_injected (suc place) xs)

pub injected_injected : (n : ℕ) (feed : List External) (r : ℕ) → AllByRecursion IsInjected (injected n feed r)
unfolding injected
injected_injected n feed r =
    all_append IsInjected (ticks n r) (filter (is_at r) (externals 0 feed)) (ticks_injected n r) (all_filter IsInjected (is_at r) (externals 0 feed) (externals_injected 0 feed))

-- equal to e
abbrev pub is_same : Event → Event → Bool
is_same e x = is_eq (event_cmp e x)

same_is : (e x : Event) → is_same e x ≡ true → e ≡ x
same_is e x h = event_same e x ((Equal-is (event_cmp e x)).0 h)

-- what e is not, stands in no list of such
none_same : (P : Event → Type 0) (e : Event) → (P e → ⊥) → (xs : List Event) → AllByRecursion P xs → count (is_same e) xs ≡ 0
none_same P e never xs a =
    count_none (is_same e) xs
    (all_weaker P (λ x. is_same e x ≡ false) xs (λ x p. by_test (is_same e x) (λ h. absurd (never (subst P (sym (same_is e x h)) p))) (λ h. h)) a)

count_filter_own : (p : Event → Bool) (q : Event → Bool) (xs : List Event) → ((x : Event) → p x ≡ true → q x ≡ true) → count p (filter q xs) ≡ count p xs
count_filter_own p q [] h = refl
count_filter_own p q (x ∷ xs) h =
    let ih = count_filter_own p q xs h in
    by_test (q x)
    (λ a. simp a (omega (arith, ih)))
    (λ a. let b : p x ≡ false = by_test (p x) (λ g. absurd (both_ways (q x) a (h x g))) (λ g. g) in simp (a, b) (omega (arith, ih)))

module _ {S : Type 0} (net : Network S) where
  sent_from_from : (s : ℕ) (node : Node S) (es : List Event) → AllByRecursion (λ e. e.router ≡ s) es → AllByRecursion (IsFrom s) (sent_from net node es)
  unfolding sent_from
  sent_from_from s node [] a = tt
  sent_from_from s node (e ∷ es) a =
      all_append (IsFrom s) (emitted net.header e (node_sent net.guests node e.input)) (sent_from net (node_after net.guests node e.input) es)
      (all_weaker (IsFrom e.router) (IsFrom s) (emitted net.header e (node_sent net.guests node e.input)) (λ x b. (b.0, b.1 ∙ a.0)) (emitted_from net.header e (node_sent net.guests node e.input)))
      (sent_from_from s (node_after net.guests node e.input) es a.1)

  sent_is_from : (s : ℕ) (es : List Event) → AllByRecursion (λ e. e.router ≡ s) es → AllByRecursion (IsFrom s) (sent net s es)
  unfolding sent
  sent_is_from s es a = sent_from_from s (opening_node net s) es a

  -- of the lists of the first n routers only that of o has e
  count_joined : (e : Event) (o n : ℕ) (f : Family) → ((s : ℕ) → s < n → (o ≡ s → ⊥) → count (is_same e) (f s) ≡ 0) → (o < n → count (is_same e) (joined n f) ≡ count (is_same e) (f o)) × (n ≤ o → count (is_same e) (joined n f) ≡ 0)
  unfolding joined
  count_joined e o zero f h = (λ l. absurd (omega (arith, l)), λ l. refl)
  count_joined e o (suc n) f h =
      let ih = count_joined e o n f (λ s l k. h s (omega (arith, l)) k) in
      let a = count_append (is_same e) (joined n f) (f n) in (
        λ l.
            by_test (eqb o n)
            (λ g.
            let same : o ≡ n = eqb-true o n g in
            let rest = ih.1 (omega (arith, same)) in
            let here : count (is_same e) (f o) ≡ count (is_same e) (f n) = ap (λ k. count (is_same e) (f k)) same in
            omega (arith, a, rest, here))
            (λ g.
            let ne = eqb-false o n g in
            let rest = ih.0 (omega (arith, l, ne)) in
            let last = h n (omega arith) ne in
            omega (arith, a, rest, last)),
        λ l.
            let rest = ih.1 (omega (arith, l)) in
            let last = h n (omega arith) (λ x. omega (arith, l, x)) in
            omega (arith, a, rest, last),
      )

  -- a message below the key stands in its router's part as often as the part of its origin sends it
  pub message_was_sent : (feed : List External) (bound : Key) (f : Family) → IsSettledBelow net feed bound f → ((s : ℕ) → s < routers net → AllByRecursion (λ x. x.router ≡ s) (f s)) → (e : Event) → e.key.class ≡ 2 → is_below bound e ≡ true → e.router < routers net → e.key.origin < routers net → count (is_same e) (below bound (f e.router)) ≡ count (is_same e) (sent net e.key.origin (below bound (f e.key.origin)))
  unfolding below due sent_to
  message_was_sent feed bound f settled own e message is inside from =
      let q = is_below bound in
      let part : Family = λ s. filter q (f s) in
      let to : Family = λ s. filter (is_at e.router) (sent net s (part s)) in
      let r = e.router in
      let inj = injected net.header.groups feed r in
      let passes : (x : Event) → is_same e x ≡ true → q x ≡ true = λ x h. subst (λ y. q y ≡ true) (same_is e x h) is in
      let at_r : (x : Event) → is_same e x ≡ true → is_at r x ≡ true = λ x h. subst (λ y. is_at r y ≡ true) (same_is e x h) (at_itself e) in
      let whole = count_permutation (is_same e) (filter q (inj ++ joined (routers net) to)) (part r) (settled.complete r inside) in
      let all_due = count_filter_own (is_same e) q (inj ++ joined (routers net) to) passes in
      let parts = count_append (is_same e) inj (joined (routers net) to) in
      let none = none_same IsInjected e (λ lt. omega (arith, lt, message)) inj (injected_injected net.header.groups feed r) in
      let only = (count_joined e e.key.origin (routers net) to (λ s l ne. none_same (IsFrom s) e (λ b. ne b.1) (to s) (all_filter (IsFrom s) (is_at r) (sent net s (part s)) (sent_is_from s (part s) (all_filter (λ x. x.router ≡ s) q (f s) (own s l)))))).0 from in
      let there = count_filter_own (is_same e) (is_at r) (sent net e.key.origin (part e.key.origin)) at_r in
      whole ∙ all_due ∙ parts ∙ (let z : count (is_same e) inj + count (is_same e) (joined (routers net) to) ≡ count (is_same e) (joined (routers net) to) = omega (arith, none) in z) ∙ only ∙ there
