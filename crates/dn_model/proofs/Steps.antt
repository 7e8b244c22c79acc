-- How a run in the order of events begins and goes on.
use Rattle.std.proofs.Common.{◌≡◌, ℕ, zero, suc, ◌+◌, ◌<◌, ◌≤◌, Bool, true, false, ◌&&◌, eqb, List, [], ◌∷◌, ◌++◌, Option, Some, None, refl, sym, ap, ◌∙◌, subst, arith, append_assoc, append-nil}
use Rattle.std.specs.Prelude.{◌==◌, slice_get}
use Rattle.std.proofs.lemmas.Bool.{eqb-true, eqb-false, eq-eqb, ne_eqb, both_ways}
use Rattle.std.specs.List.{filter, AllByRecursion}
use Rattle.std.proofs.lemmas.List.Sorted.{IsPermutation-refl}
use Rattle.std.specs.List.Sorted.{IsPermutation}
use Rattle.std.specs.Ordering.{is_gt}
use Rattle.std.specs.Cmp.{upto}
use Rattle.dn_guest.specs.Node.{node_after, node_sent}
use Rattle.dn_guest.specs.declared.node.Sent.{Sent}
use Rattle.dn_guest.specs.declared.node.Node.{Node}
use Rattle.dn_model.specs.declared.event.Event.{Event}
use Rattle.dn_model.specs.declared.link.End.{End}
use Rattle.dn_model.specs.declared.link.Link.{Link}
use Rattle.dn_model.specs.Cases.{Heading, timing_of}
use Rattle.dn_model.specs.Links.{link_end, ends}
use Rattle.dn_model.specs.declared.feed.External.{External}
use Rattle.dn_model.specs.Order.{event_cmp, event_total}
use Rattle.dn_model.specs.Keys.{next_key}
use Rattle.dn_model.specs.declared.key.Key.{Key}
use Rattle.dn_model.specs.Network.{Network, Family, message_with, message_at, emitted_by, emitted, tick, ticks, externals, injected, is_at, joined, routers, opening_node, state_from, sent_from, state, sent, sent_to}
use Rattle.dn_model.specs.Settled.{IsTimed, IsFeedOf, due}
use Rattle.dn_model.specs.SoFar.{by_router, IsRunSoFar, IsWired, all_injected, next_emitted}
use Rattle.dn_lists.proofs.Lists.{by_test, all_weaker, all_both, all_append, filter_append, filter_none, filter_all, all_front, all_back, all_permutation}
use Rattle.dn_lists.proofs.Sorting.{count, count_permutation, count_filter, count_append, rises_from_sorted, sorted_from_rises, permutation_from_counts}
use Rattle.dn_model.proofs.EventOrder.{event_same, events_from_moments}
use Rattle.dn_model.proofs.Causes.{Whenever, whenever_if, whenever_get, and_more, all_filter_map, all_joined_below, IsTimely, IsEffect, emitted_ok, due_ok}
use Rattle.dn_model.proofs.Waves.{all_of}
use Rattle.dn_model.proofs.Rows.{joined_filter, joined_same, passing, pairs_append}

-- ---- what is emitted is at a router of the network

ends_inside : (n : ℕ) (ls : List Link) (r : ℕ) → AllByRecursion (λ l. (l.a < n) × (l.b < n)) ls → AllByRecursion (λ end. end.router < n) (ends ls r)
unfolding ends link_end
ends_inside n [] r a = tt
ends_inside n (l ∷ ls) r a = and_more (λ end. end.router < n) (link_end r l) (ends ls r) (at l a.0) (ends_inside n ls r a.1)
  where
    at : (l : Link) → (l.a < n) × (l.b < n) → Whenever (λ end. end.router < n) (link_end r l)
    at l d =
        whenever_if (λ end. end.router < n) (l.a == r) _ _ (λ _. d.1) (whenever_if (λ end. end.router < n) (l.b == r) _ None (λ _. d.0) tt)

with_inside : (n : ℕ) (s : Sent) (end : End) → end.router < n → (o : Option Key) → Whenever (λ e. e.router < n) (message_with s end o)
unfolding message_with
with_inside n s end d None = tt
with_inside n s end d (Some k) = d

pub emitted_inside : (n : ℕ) (h : Heading) → AllByRecursion (λ l. (l.a < n) × (l.b < n)) h.links → (cause : Event) (sents : List Sent) → AllByRecursion (λ e. e.router < n) (emitted h cause sents)
unfolding emitted emitted_by message_at
emitted_inside n h w cause sents =
    all_filter_map (λ s. message_at (timing_of h) cause s (slice_get (ends h.links cause.router) s.port)) (λ e. e.router < n) sents
    (λ s. at s (slice_get (ends h.links cause.router) s.port) (whenever_get (λ end. end.router < n) (ends h.links cause.router) s.port (ends_inside n h.links cause.router w)))
  where
    at : (s : Sent) (o : Option End) → Whenever (λ end. end.router < n) o → Whenever (λ e. e.router < n) (message_at (timing_of h) cause s o)
    at s None d = tt
    at s (Some end) d = with_inside n s end d (next_key (timing_of h) cause.key end.delay cause.router s.seq)

all_passing : (P : Event → Type 0) (p : Event → Bool) (xs : List Event) → AllByRecursion P (filter p xs) → AllByRecursion (λ x. p x ≡ true → P x) xs
all_passing P p [] a = tt
all_passing P p (x ∷ xs) a =
    by_test (p x)
    (λ h. let b : AllByRecursion P (x ∷ filter p xs) = rw h at a in ((λ _. b.0), all_passing P p xs b.1))
    (λ h. let b : AllByRecursion P (filter p xs) = rw h at a in ((λ g. absurd (both_ways (p x) h g)), all_passing P p xs b))

pub at_itself : (e : Event) → is_at e.router e ≡ true
unfolding is_at
at_itself e = eq-eqb e.router e.router refl

module _ {S : Type 0} (net : Network S) where
  -- ---- a history with one more event

  pub sent_from_append : (node : Node S) (xs ys : List Event) → sent_from net node (xs ++ ys) ≡ sent_from net node xs ++ sent_from net (state_from net node xs) ys
  unfolding sent_from state_from
  sent_from_append node [] ys = refl
  sent_from_append node (x ∷ xs) ys =
      ap (λ l. emitted net.header x (node_sent net.guests node x.input) ++ l) (sent_from_append (node_after net.guests node x.input) xs ys)
      ∙ sym (append_assoc (emitted net.header x (node_sent net.guests node x.input)) (sent_from net (node_after net.guests node x.input) xs) _)

  pub sent_more : (r : ℕ) (xs : List Event) (e : Event) → sent net r (xs ++ e ∷ []) ≡ sent net r xs ++ emitted net.header e (node_sent net.guests (state net r xs) e.input)
  unfolding sent state sent_from
  sent_more r xs e =
      sent_from_append (opening_node net r) xs (e ∷ [])
      ∙ ap (λ l. sent_from net (opening_node net r) xs ++ l) (append-nil (emitted net.header e (node_sent net.guests (state_from net (opening_node net r) xs) e.input)))

  pub at_own : (es : List Event) (e : Event) → by_router (es ++ e ∷ []) e.router ≡ by_router es e.router ++ e ∷ []
  unfolding is_at
  at_own es e =
      filter_append (is_at e.router) es (e ∷ []) ∙ ap (λ l. by_router es e.router ++ l) (filter_all (is_at e.router) (e ∷ []) (eq-eqb e.router e.router refl, tt))

  pub at_other : (es : List Event) (e : Event) (r : ℕ) → (e.router ≡ r → ⊥) → by_router (es ++ e ∷ []) r ≡ by_router es r
  unfolding is_at
  at_other es e r h =
      filter_append (is_at r) es (e ∷ [])
      ∙ ap (λ l. by_router es r ++ l) (filter_none (is_at r) (e ∷ []) (ne_eqb e.router r h, tt))
      ∙ append-nil (by_router es r)

  -- what is sent to r with one more event
  module _ (done : List Event) (e : Event) (r : ℕ) (p : Event → Bool) where
    now : Family
    now s = filter (is_at r) (sent net s (by_router done s))

    then : Family
    then s = filter (is_at r) (sent net s (by_router (done ++ e ∷ []) s))

    then_other : (s : ℕ) → (e.router ≡ s → ⊥) → then s ≡ now s
    unfolding now then
    then_other s h = ap (λ es. filter (is_at r) (sent net s es)) (at_other done e s h)

    then_own : count p (then e.router) ≡ count p (now e.router) + count p (filter (is_at r) (next_emitted net done e))
    unfolding now then
    then_own =
        ap (λ es. count p (filter (is_at r) es)) (ap (sent net e.router) (at_own done e) ∙ sent_more e.router (by_router done e.router) e)
        ∙ ap (count p) (filter_append (is_at r) (sent net e.router (by_router done e.router)) (next_emitted net done e))
        ∙ count_append p (filter (is_at r) (sent net e.router (by_router done e.router))) (filter (is_at r) (next_emitted net done e))

    joined_past : (n : ℕ) → n ≤ e.router → joined n then ≡ joined n now
    joined_past n h = joined_same n then now (λ s l. then_other s (λ x. omega (arith, l, h, x)))

    joined_then : (n : ℕ) → e.router < n → count p (joined n then) ≡ count p (joined n now) + count p (filter (is_at r) (next_emitted net done e))
    unfolding joined
    joined_then zero h = absurd (omega arith)
    joined_then (suc n) h =
        let a = count_append p (joined n then) (then n) in
        let b = count_append p (joined n now) (now n) in
        by_test (eqb e.router n)
        (λ g.
        let same = eqb-true e.router n g in
        let first = ap (count p) (joined_past n (omega (arith, same))) in
        let own = subst (λ k. count p (then k) ≡ count p (now k) + count p (filter (is_at r) (next_emitted net done e))) same then_own in
        omega (arith, a, b, first, own))
        (λ g.
        let ne = eqb-false e.router n g in
        let first = joined_then n (omega (arith, h, ne)) in
        let last = ap (count p) (then_other n ne) in
        omega (arith, a, b, first, last))

    pub sent_to_more : e.router < routers net → count p (sent_to net (by_router (done ++ e ∷ [])) r) ≡ count p (sent_to net (by_router done) r) + count p (filter (is_at r) (next_emitted net done e))
    unfolding sent_to now then
    sent_to_more h = joined_then (routers net) h

  due_count : (feed : List External) (f : Family) (r : ℕ) (p : Event → Bool) → count p (due net feed f r) ≡ count p (injected net.header.groups feed r) + count p (sent_to net f r)
  unfolding due
  due_count feed f r p = count_append p (injected net.header.groups feed r) (sent_to net f r)

  -- ---- a step

  module _ (feed : List External) (timed : IsTimed net.header) (wired : IsWired net) (fed : IsFeedOf net.header feed) where
    pub so_far_step : (done waiting rest : List Event) (e : Event) → IsRunSoFar net feed done waiting → IsPermutation waiting (e ∷ rest) → AllByRecursion (λ w. is_gt (event_cmp e w) ≡ false) rest → IsRunSoFar net feed (done ++ e ∷ []) (rest ++ next_emitted net done e)
    so_far_step done waiting rest e so moves least =
        let out = next_emitted net done e in
        let Inside : Event → Type 0 = λ x. x.router < routers net in
        let Ahead : Event → Type 0 = λ w. AllByRecursion (λ h. is_gt (event_cmp h w) ≡ false) done in
        let waits : AllByRecursion Inside (e ∷ rest) = all_permutation Inside waiting (e ∷ rest) moves (all_back Inside done waiting so.inside) in
        let ahead : AllByRecursion Ahead (e ∷ rest) = all_permutation Ahead waiting (e ∷ rest) moves so.ahead in
        let timely : AllByRecursion (IsTimely net.header) (by_router (done ++ waiting) e.router) =
        all_permutation (IsTimely net.header) (due net feed (by_router done) e.router) (by_router (done ++ waiting) e.router) (so.complete e.router waits.0) (due_ok net timed feed fed (by_router done) e.router) in
        let at_e : AllByRecursion (IsTimely net.header) (by_router waiting e.router) =
        all_back (IsTimely net.header) (by_router done e.router) (by_router waiting e.router) (subst (AllByRecursion (IsTimely net.header)) (filter_append (is_at e.router) done waiting) timely) in
        let e_timely : IsTimely net.header e = own_timely waiting e rest moves at_e in
        let later : AllByRecursion (λ w. is_gt (event_cmp e w) ≡ false) out =
        all_weaker (IsEffect net.header e) (λ w. is_gt (event_cmp e w) ≡ false) out (λ w c. events_from_moments net.header.period e w e_timely.0 c.0.0 c.1)
        (emitted_ok net.header timed e (node_sent net.guests (state net e.router (by_router done e.router)) e.input)) in
        record {
          sorted =
              sorted_from_rises event_cmp event_total (done ++ e ∷ [])
              (pairs_append (λ x y. is_gt (event_cmp x y) ≡ false) done (e ∷ []) (rises_from_sorted event_cmp event_total done so.sorted) (tt, tt) (ahead.0, tt));
          inside =
              all_append Inside (done ++ e ∷ []) (rest ++ out)
              (all_append Inside done (e ∷ []) (all_front Inside done waiting so.inside) (waits.0, tt))
              (all_append Inside rest out waits.1 (emitted_inside (routers net) net.header wired e (node_sent net.guests (state net e.router (by_router done e.router)) e.input)));
          ahead =
              all_append (λ w. AllByRecursion (λ h. is_gt (event_cmp h w) ≡ false) (done ++ e ∷ [])) rest out
              (all_weaker (λ w. Ahead w × (is_gt (event_cmp e w) ≡ false)) (λ w. AllByRecursion (λ h. is_gt (event_cmp h w) ≡ false) (done ++ e ∷ [])) rest
              (λ w k. all_append (λ h. is_gt (event_cmp h w) ≡ false) done (e ∷ []) k.0 (k.1, tt))
              (all_both Ahead (λ w. is_gt (event_cmp e w) ≡ false) rest ahead.1 least))
              (all_weaker (λ w. is_gt (event_cmp e w) ≡ false) (λ w. AllByRecursion (λ h. is_gt (event_cmp h w) ≡ false) (done ++ e ∷ [])) out
              (λ w k.
              all_append (λ h. is_gt (event_cmp h w) ≡ false) done (e ∷ [])
              (all_weaker (λ h. is_gt (event_cmp h e) ≡ false) (λ h. is_gt (event_cmp h w) ≡ false) done (λ h j. upto event_total h e w j k) ahead.0) (k, tt))
              later);
          complete = λ r l.
              permutation_from_counts event_cmp event_total event_same (due net feed (by_router (done ++ e ∷ [])) r) (by_router ((done ++ e ∷ []) ++ (rest ++ out)) r)
              (λ p. counts done waiting rest e so moves waits.0 r l p);
        }
      where
        own_timely : (waiting : List Event) (e : Event) (rest : List Event) → IsPermutation waiting (e ∷ rest) → AllByRecursion (IsTimely net.header) (by_router waiting e.router) → IsTimely net.header e
        own_timely waiting e rest moves a =
            let At : Event → Type 0 = λ x. is_at e.router x ≡ true → IsTimely net.header x in
            (all_permutation At waiting (e ∷ rest) moves (all_passing (IsTimely net.header) (is_at e.router) waiting a)).0 (at_itself e)

        counts : (done waiting rest : List Event) (e : Event) → IsRunSoFar net feed done waiting → IsPermutation waiting (e ∷ rest) → e.router < routers net → (r : ℕ) → r < routers net → (p : Event → Bool) → count p (due net feed (by_router (done ++ e ∷ [])) r) ≡ count p (by_router ((done ++ e ∷ []) ++ (rest ++ next_emitted net done e)) r)
        counts done waiting rest e so moves inside r l p =
            let out = next_emitted net done e in
            let c : Event → Bool = λ x. is_at r x && p x in
            let now = due_count feed (by_router done) r p in
            let then = due_count feed (by_router (done ++ e ∷ [])) r p in
            let more = sent_to_more done e r p inside in
            let was = count_permutation p (due net feed (by_router done) r) (by_router (done ++ waiting) r) (so.complete r l) in
            let f1 = count_filter p (is_at r) (done ++ waiting) in
            let f2 = count_filter p (is_at r) ((done ++ e ∷ []) ++ (rest ++ out)) in
            let f3 = count_filter p (is_at r) out in
            let a1 = count_append c done waiting in
            let a2 = count_append c (done ++ e ∷ []) (rest ++ out) in
            let a3 = count_append c done (e ∷ []) in
            let a4 = count_append c rest out in
            let m = count_permutation c waiting (e ∷ rest) moves in
            omega (arith, now, then, more, was, f1, f2, f3, a1, a2, a3, a4, m)

  -- ---- the start

  joined_none : (n : ℕ) (f : Family) → ((s : ℕ) → f s ≡ []) → joined n f ≡ []
  unfolding joined
  joined_none zero f h = refl
  joined_none (suc n) f h = λ i. joined_none n f h i ++ h n i

  pub joined_one : (n : ℕ) (f : Family) (r : ℕ) → r < n → ((s : ℕ) → (s ≡ r → ⊥) → f s ≡ []) → joined n f ≡ f r
  unfolding joined
  joined_one zero f r l h = absurd (omega arith)
  joined_one (suc n) f r l h =
      by_test (eqb n r)
      (λ g.
      let same = eqb-true n r g in
      (λ i. joined_empty n f r (omega (arith, same)) h i ++ f n) ∙ ap f same)
      (λ g.
      let ne = eqb-false n r g in
      (λ i. joined_one n f r (omega (arith, l, ne)) h i ++ h n ne i) ∙ append-nil (f r))
    where
      joined_empty : (n : ℕ) (f : Family) (r : ℕ) → n ≤ r → ((s : ℕ) → (s ≡ r → ⊥) → f s ≡ []) → joined n f ≡ []
      joined_empty zero f r l h = refl
      joined_empty (suc n) f r l h = λ i. joined_empty n f r (omega arith) h i ++ h n (λ x. omega (arith, l, x)) i

  pub ticks_at : (n r : ℕ) → AllByRecursion (λ e. e.router ≡ r) (ticks n r)
  unfolding ticks
  ticks_at zero r = tt
  ticks_at (suc n) r = all_append (λ e. e.router ≡ r) (ticks n r) (tick n r ∷ []) (ticks_at n r) (refl, tt)

  pub injected_at : (n : ℕ) (feed : List External) (r : ℕ) → AllByRecursion (λ e. e.router ≡ r) (injected n feed r)
  unfolding injected is_at
  injected_at n feed r =
      all_append (λ e. e.router ≡ r) (ticks n r) (filter (is_at r) (externals 0 feed)) (ticks_at n r)
      (all_weaker (λ e. is_at r e ≡ true) (λ e. e.router ≡ r) (filter (is_at r) (externals 0 feed)) (λ e h. eqb-true e.router r h) (passing (is_at r) (externals 0 feed)))

  all_trivial : (xs : List Event) → AllByRecursion (λ w. Unit {0}) xs
  all_trivial xs = all_of xs (λ w. tt)

  at_injected : (feed : List External) (r : ℕ) → r < routers net → by_router (all_injected net feed) r ≡ injected net.header.groups feed r
  unfolding is_at
  at_injected feed r l =
      let inj : Family = λ s. injected net.header.groups feed s in
      joined_filter (is_at r) (routers net) inj
      ∙ joined_one (routers net) (λ s. filter (is_at r) (inj s)) r l
      (λ s h. filter_none (is_at r) (inj s) (all_weaker (λ e. e.router ≡ s) (λ e. is_at r e ≡ false) (inj s) (λ e k. ne_eqb e.router r (λ x. h (sym k ∙ x))) (injected_at net.header.groups feed s)))
      ∙ filter_all (is_at r) (inj r) (all_weaker (λ e. e.router ≡ r) (λ e. is_at r e ≡ true) (inj r) (λ e k. eq-eqb e.router r k) (injected_at net.header.groups feed r))

  due_at_first : (feed : List External) (r : ℕ) → due net feed (by_router []) r ≡ injected net.header.groups feed r
  unfolding due sent_to sent sent_from
  due_at_first feed r =
      ap (λ es. injected net.header.groups feed r ++ es) (joined_none (routers net) (λ s. filter (is_at r) (sent net s (by_router [] s))) (λ s. refl))
      ∙ append-nil (injected net.header.groups feed r)

  pub so_far_start : (feed : List External) → IsRunSoFar net feed [] (all_injected net feed)
  so_far_start feed = record {
    sorted = sorted_from_rises event_cmp event_total [] tt;
    inside =
        all_joined_below (λ e. e.router < routers net) (routers net) (λ s. injected net.header.groups feed s)
        (λ s l. all_weaker (λ e. e.router ≡ s) (λ e. e.router < routers net) (injected net.header.groups feed s) (λ e k. omega (arith, k, l)) (injected_at net.header.groups feed s));
    ahead = all_trivial (all_injected net feed);
    complete = λ r l.
        let e : due net feed (by_router []) r ≡ by_router (all_injected net feed) r = due_at_first feed r ∙ sym (at_injected feed r l) in
        subst (λ es. IsPermutation (due net feed (by_router []) r) es) e (IsPermutation-refl (due net feed (by_router []) r));
  }

  -- what waits may be kept in any order
  pub so_far_moved : (feed : List External) (done waiting other : List Event) → IsRunSoFar net feed done waiting → IsPermutation waiting other → IsRunSoFar net feed done other
  so_far_moved feed done waiting other so moves =
      let Inside : Event → Type 0 = λ x. x.router < routers net in
      record {
        sorted = so.sorted;
        inside = all_append Inside done other (all_front Inside done waiting so.inside) (all_permutation Inside waiting other moves (all_back Inside done waiting so.inside));
        ahead = all_permutation (λ w. AllByRecursion (λ h. is_gt (event_cmp h w) ≡ false) done) waiting other moves so.ahead;
        complete = λ r l.
            permutation_from_counts event_cmp event_total event_same (due net feed (by_router done) r) (by_router (done ++ other) r)
            (λ p.
            let c : Event → Bool = λ x. is_at r x && p x in
            let was = count_permutation p (due net feed (by_router done) r) (by_router (done ++ waiting) r) (so.complete r l) in
            let f1 = count_filter p (is_at r) (done ++ waiting) in
            let f2 = count_filter p (is_at r) (done ++ other) in
            let a1 = count_append c done waiting in
            let a2 = count_append c done other in
            let m = count_permutation c waiting other moves in
            omega (arith, was, f1, f2, a1, a2, m));
      }
