-- The prefix: what is committed is a front of the lockstep run of each case that goes on where the world is.
use Rattle.std.proofs.Common.{◌≡◌, ℕ, zero, suc, ◌+◌, ◌<◌, ◌≤◌, Bool, true, false, ◌&&◌, eqb, ltb, List, [], ◌∷◌, ◌++◌, length, take, drop, refl, sym, ap, ◌∙◌, subst, arith, append_assoc, append-nil, take-append-drop, length-append}
use Rattle.std.specs.List.{filter, AllByRecursion}
use Rattle.std.proofs.lemmas.Bool.{eqb-true, eqb-false, eq-eqb, ltb-true, ltb-false, lt-ltb}
use Rattle.std.proofs.lemmas.List.{length-take-le}
use Rattle.std.proofs.lemmas.List.Sorted.{IsPermutation-refl}
use Rattle.dn_model.specs.declared.key.Key.{Key}
use Rattle.dn_model.specs.declared.event.Event.{Event}
use Rattle.dn_model.specs.declared.feed.External.{External}
use Rattle.dn_model.specs.Order.{event_cmp, event_total, is_below, sorted}
use Rattle.dn_model.specs.Network.{Network, Family, tick, ticks, external, externals, injected, is_at, joined, routers, sent, sent_to, state}
use Rattle.dn_model.specs.Settled.{IsTimed, IsFeedOf, IsPrefixOf, below, due, lockstep, rows, shown_rows, is_cut, row_limit, IsSettledBelow}
use Rattle.dn_lists.proofs.Lists.{by_test, all_weaker, all_append, all_filter, filter_append, filter_none, filter_all}
use Rattle.dn_lists.proofs.Sorting.{count, count_none, count_filter, count_append, all_in_order, in_order_is}
use Rattle.dn_model.proofs.EventOrder.{event_same}
use Rattle.dn_model.proofs.Waves.{sort, filter_sort, lockstep_is, lockstep_fine}
use Rattle.dn_model.proofs.Rows.{joined_filter, passing, rows_settled_below, rows_below_front}
use Rattle.dn_model.proofs.Causes.{IsTimely, all_joined}
use Rattle.dn_model.proofs.Committed.{settled_below_from}
use Rattle.dn_world.specs.declared.packet.Packet.{Packet}
use Rattle.dn_world.specs.World.{World, part, dones, plus_of, minus_of, key_of}
use Rattle.dn_world.specs.Runs.{Continues, settled_rows, committed, is_cut_off, committed_at, committed_state, IsPast, IsPlayable}
use Rattle.dn_world.proofs.Parts.{Flies}
use Rattle.dn_world.proofs.Balance.{at_and}
use Rattle.dn_world.proofs.Past.{past_on, group_first, external_first, waits_at, from_waiting, open_bound}
use Rattle.dn_world.proofs.Sound.{IsSound, done_at}

-- ---- below a key

abbrev pub below_and : Key → (Event → Bool) → Event → Bool
below_and b p e = is_below b e && p e

not_below : (b : Key) (e : Event) → IsPast b e.key → is_below b e ≡ false
unfolding is_below
not_below b e h = h

none_below : (b : Key) (p : Event → Bool) (es : List Event) → AllByRecursion (λ e. IsPast b e.key) es → count (below_and b p) es ≡ 0
none_below b p es a =
    count_none (below_and b p) es (all_weaker (λ e. IsPast b e.key) (λ e. below_and b p e ≡ false) es (λ e h. let g = not_below b e h in simp g) a)

none_at_below : (r : ℕ) (b : Key) (p : Event → Bool) (es : List Event) → AllByRecursion (λ e. IsPast b e.key) es → count (at_and r (below_and b p)) es ≡ 0
none_at_below r b p es a =
    count_none (at_and r (below_and b p)) es
    (all_weaker (λ e. IsPast b e.key) (λ e. at_and r (below_and b p) e ≡ false) es
    (λ e h. let g = not_below b e h in by_test (is_at r e) (λ k. simp (g, k)) (λ k. simp (g, k)))
    a)

count_below : (b : Key) (p : Event → Bool) (es : List Event) → count p (below b es) ≡ count (below_and b p) es
unfolding below
count_below b p es = count_filter p (is_below b) es

flies_plus : (P : Event → Type 0) (ks : List Packet) → Flies P ks → AllByRecursion P (plus_of ks)
unfolding plus_of
flies_plus P [] a = tt
flies_plus P (k ∷ ks) a = by_test k.plus (λ h. simp h (a.0, flies_plus P ks a.1)) (λ h. simp h (flies_plus P ks a.1))

flies_minus : (P : Event → Type 0) (ks : List Packet) → Flies P ks → AllByRecursion P (minus_of ks)
unfolding minus_of
flies_minus P [] a = tt
flies_minus P (k ∷ ks) a = by_test k.plus (λ h. simp h (flies_minus P ks a.1)) (λ h. simp h (a.0, flies_minus P ks a.1))

-- ---- what is still to be injected is past the boundary

ticks_more : (b : Key) (p : Event → Bool) (f r : ℕ) → IsPast b (key_of f 1) → (n : ℕ) → suc f ≤ n → count (below_and b p) (ticks n r) ≡ count (below_and b p) (ticks (suc f) r)
unfolding ticks
ticks_more b p f r h zero l = absurd (omega (arith, l))
ticks_more b p f r h (suc n) l =
    by_test (ltb f n)
    (λ g.
    let lt = ltb-true f n g in
    let ih = ticks_more b p f r h n (omega (arith, lt)) in
    let a = count_append (below_and b p) (ticks n r) (tick n r ∷ []) in
    let none = none_below b p (tick n r ∷ []) (past_on b (key_of f 1) (tick n r).key h (group_first (key_of f 1) (tick n r).key lt), tt) in
    omega (arith, ih, a, none))
    (λ g.
    let ge = ltb-false f n g in
    let same : n ≡ f = omega (arith, ge, l) in
    ap (λ k. count (below_and b p) (ticks (suc k) r)) same)

externals_append : (place : ℕ) (xs ys : List External) → externals place (xs ++ ys) ≡ externals place xs ++ externals (place + length xs) ys
unfolding externals
externals_append place [] ys = ap (λ n. externals n ys) (let e : place ≡ place + 0 = omega arith in e)
externals_append place (x ∷ xs) ys =
    ap (λ l. external place x ∷ l)
    (externals_append (suc place) xs ys ∙ ap (λ n. externals (suc place) xs ++ externals n ys) (let e : suc place + length xs ≡ place + suc (length xs) = omega arith in e))

externals_past : (b : Key) (f place : ℕ) (xs : List External) → IsPast b (key_of f 1) → AllByRecursion (λ x. f ≤ x.group) xs → AllByRecursion (λ e. IsPast b e.key) (externals place xs)
unfolding externals
externals_past b f place [] h a = tt
externals_past b f place (x ∷ xs) h a =
    (past_on b (key_of f 1) (external place x).key h (external_first f place x a.0), externals_past b f (suc place) xs h a.1)

injected_more : (b : Key) (p : Event → Bool) (f n r : ℕ) (xs ys : List External) → IsPast b (key_of f 1) → suc f ≤ n → AllByRecursion (λ x. f ≤ x.group) ys → count (below_and b p) (injected (suc f) xs r) ≡ count (below_and b p) (injected n (xs ++ ys) r)
unfolding injected
injected_more b p f n r xs ys h l a =
    let q = below_and b p in
    let old = filter (is_at r) (externals 0 xs) in
    let new = filter (is_at r) (externals (0 + length xs) ys) in
    let t = ticks_more b p f r h n l in
    let split : count q (filter (is_at r) (externals 0 (xs ++ ys))) ≡ count q (old ++ new) =
    ap (λ es. count q (filter (is_at r) es)) (externals_append 0 xs ys) ∙ ap (count q) (filter_append (is_at r) (externals 0 xs) (externals (0 + length xs) ys)) in
    let sum = count_append q old new in
    let none = none_below b p new (all_filter (λ e. IsPast b e.key) (is_at r) (externals (0 + length xs) ys) (externals_past b f (0 + length xs) ys h a)) in
    let left = count_append q (ticks (suc f) r) old in
    let right = count_append q (ticks n r) (filter (is_at r) (externals 0 (xs ++ ys))) in
    omega (arith, t, split, sum, none, left, right)

-- ---- fronts

pub prefix_trans : {X : Type 0} (xs ys zs : List X) → IsPrefixOf xs ys → IsPrefixOf ys zs → IsPrefixOf xs zs
prefix_trans xs ys zs p q = (p.0 ++ q.0, sym (append_assoc xs p.0 q.0) ∙ ap (λ l. l ++ q.0) p.1 ∙ q.1)

pub take_prefix : {X : Type 0} (n : ℕ) (xs : List X) → IsPrefixOf (take n xs) xs
take_prefix n xs = (drop n xs, take-append-drop n xs)

pub filter_prefix : (q : Event → Bool) (xs ys : List Event) → IsPrefixOf xs ys → IsPrefixOf (filter q xs) (filter q ys)
filter_prefix q xs ys p = (filter q p.0, sym (filter_append q xs p.0) ∙ ap (filter q) p.1)

pub take_front : {X : Type 0} (xs rest : List X) → take (length xs) (xs ++ rest) ≡ xs
take_front [] rest = refl
take_front (x ∷ xs) rest = ap (λ l. x ∷ l) (take_front xs rest)

-- ---- each lockstep list is of its router

joined_one : (n : ℕ) (f : Family) (r : ℕ) → ((s : ℕ) → s < n → (r ≡ s → ⊥) → f s ≡ []) → (r < n → joined n f ≡ f r) × (n ≤ r → joined n f ≡ [])
unfolding joined
joined_one zero f r h = (λ l. absurd (omega (arith, l)), λ l. refl)
joined_one (suc n) f r h =
    let ih = joined_one n f r (λ s l ne. h s (omega (arith, l)) ne) in (
      λ l.
          by_test (eqb r n)
          (λ g.
          let same = eqb-true r n g in
          let none = ih.1 (omega (arith, same)) in
          (λ i. none i ++ f n) ∙ ap f (sym same))
          (λ g.
          let ne = eqb-false r n g in
          let rest = ih.0 (omega (arith, l, ne)) in
          (λ i. rest i ++ h n (omega arith) ne i) ∙ append-nil (f r)),
      λ l.
          let none = ih.1 (omega (arith, l)) in
          (λ i. none i ++ h n (omega arith) (λ e. omega (arith, l, e)) i),
    )

ticks_at : (n r : ℕ) → AllByRecursion (λ e. is_at r e ≡ true) (ticks n r)
unfolding ticks is_at
ticks_at zero r = tt
ticks_at (suc n) r = all_append (λ e. is_at r e ≡ true) (ticks n r) (tick n r ∷ []) (ticks_at n r) (eq-eqb r r refl, tt)

module _ {S : Type 0} (net : Network S) (feed : List External) where
  due_at : (f : Family) (r : ℕ) → AllByRecursion (λ e. is_at r e ≡ true) (due net feed f r)
  unfolding due injected sent_to
  due_at f r =
      all_append (λ e. is_at r e ≡ true) (injected net.header.groups feed r) (sent_to net f r)
      (all_append (λ e. is_at r e ≡ true) (ticks net.header.groups r) (filter (is_at r) (externals 0 feed)) (ticks_at net.header.groups r) (passing (is_at r) (externals 0 feed)))
      (all_joined (λ e. is_at r e ≡ true) (routers net) (λ s. filter (is_at r) (sent net s (f s))) (λ s. passing (is_at r) (sent net s (f s))))

  module _ (timed : IsTimed net.header) (fed : IsFeedOf net.header feed) where
    pub lockstep_at : (r : ℕ) → r < routers net → AllByRecursion (λ e. is_at r e ≡ true) (lockstep net feed r)
    lockstep_at r l =
        subst (AllByRecursion (λ e. is_at r e ≡ true)) (sym (lockstep_is net feed timed fed r l))
        (all_in_order event_cmp (λ e. is_at r e ≡ true) (due net feed (lockstep net feed) r) (due_at (lockstep net feed) r))

    not_at : (r s : ℕ) (e : Event) → (r ≡ s → ⊥) → is_at s e ≡ true → is_at r e ≡ false
    unfolding is_at
    not_at r s e ne h = by_test (eqb e.router r) (λ g. absurd (ne (sym (eqb-true e.router r g) ∙ eqb-true e.router s h))) (λ g. g)

    -- the rows of a router are its lockstep list
    pub rows_at : (r : ℕ) → r < routers net → filter (is_at r) (rows net feed) ≡ lockstep net feed r
    unfolding rows sorted
    rows_at r l =
        filter_sort (is_at r) (joined (routers net) (lockstep net feed))
        ∙ ap (λ es. sort es)
        (joined_filter (is_at r) (routers net) (lockstep net feed)
        ∙ (joined_one (routers net) (λ s. filter (is_at r) (lockstep net feed s)) r
        (λ s k ne.
        filter_none (is_at r) (lockstep net feed s) (all_weaker (λ e. is_at s e ≡ true) (λ e. is_at r e ≡ false) (lockstep net feed s) (λ e h. not_at r s e ne h) (lockstep_at s k)))).0 l
        ∙ filter_all (is_at r) (lockstep net feed r) (lockstep_at r l))
        ∙ sym (in_order_is event_cmp event_total event_same (lockstep net feed r) (lockstep net feed r) (IsPermutation-refl (lockstep net feed r)) (lockstep_fine net feed timed fed r l).1)

-- ---- what is committed

module _ {S : Type 0} (net : Network S) (feed : List External) (playable : IsPlayable net.header) (fed : IsFeedOf net.header feed) (w : World) (sound : IsSound net w) (goes : Continues feed w) where
  injected_same : (r : ℕ) (p : Event → Bool) → count (below_and w.boundary p) (injected (suc w.floor) w.accepted r) ≡ count (below_and w.boundary p) (injected net.header.groups feed r)
  injected_same r p =
      by_test w.closed
      (λ h.
      let all : w.accepted ≡ feed = sym (append-nil w.accepted) ∙ ap (λ l. w.accepted ++ l) (sym (goes.no_more h)) ∙ goes.whole in
      let last = sound.closing h in
      (λ i. count (below_and w.boundary p) (injected (last i) (all i) r)))
      (λ h.
      injected_more w.boundary p w.floor net.header.groups r w.accepted goes.further (subst (IsPast w.boundary) (open_bound net w h) sound.past.bound) sound.floor goes.not_past
      ∙ ap (λ l. count (below_and w.boundary p) (injected net.header.groups l r)) goes.whole)

  done_due : (r : ℕ) → r < routers net → (p : Event → Bool) → count p (below w.boundary (dones w r)) ≡ count p (below w.boundary (due net feed (dones w) r))
  unfolding due
  done_due r l p =
      let b = w.boundary in
      let q = below_and b p in
      let was = sound.counted.equal r l q in
      let waits = from_waiting (λ e. IsPast b e.key) w sound.past.waiting in
      let own = waits_at (λ e. IsPast b e.key) w r waits in
      let todo = none_below b p (part w r).todo own.0 in
      let voids = none_below b p (part w r).voids own.1 in
      let plus = none_at_below r b p (plus_of w.flight) (flies_plus (λ e. IsPast b e.key) w.flight waits.1) in
      let minus = none_at_below r b p (minus_of w.flight) (flies_minus (λ e. IsPast b e.key) w.flight waits.1) in
      let inj = injected_same r p in
      let left = count_below b p (dones w r) in
      let right = count_below b p (injected net.header.groups feed r ++ sent_to net (dones w) r) in
      let split = count_append q (injected net.header.groups feed r) (sent_to net (dones w) r) in
      omega (arith, was, todo, voids, plus, minus, inj, left, right, split)

  pub world_settled : IsSettledBelow net feed w.boundary (dones w)
  world_settled =
      settled_below_from net feed playable.timed fed w.boundary (dones w) (λ r l. (done_at (λ e. IsTimely net.header e) w r sound.done, sound.counted.rises r l)) done_due

  pub settled_rows_are : settled_rows net w ≡ below w.boundary (rows net feed)
  unfolding settled_rows
  settled_rows_are = rows_settled_below net feed playable.timed fed w.boundary (dones w) world_settled

  settled_front : IsPrefixOf (settled_rows net w) (rows net feed)
  settled_front = subst (λ es. IsPrefixOf es (rows net feed)) (sym settled_rows_are) (rows_below_front net feed playable.timed fed w.boundary)

  pub committed_front : IsPrefixOf (committed net w) (rows net feed)
  unfolding committed
  committed_front =
      prefix_trans (take row_limit (settled_rows net w)) (settled_rows net w) (rows net feed) (take_prefix row_limit (settled_rows net w)) settled_front

  pub committed_at_front : (r : ℕ) → r < routers net → IsPrefixOf (committed_at net w r) (lockstep net feed r)
  committed_at_front r l =
      subst (IsPrefixOf (committed_at net w r)) (rows_at net feed playable.timed fed r l) (filter_prefix (is_at r) (committed net w) (rows net feed) committed_front)

  pub committed_state_is : (r : ℕ) → r < routers net → committed_state net w r ≡ state net r (take (length (committed_at net w r)) (lockstep net feed r))
  committed_state_is r l =
      let front = committed_at_front r l in
      ap (state net r) (sym (take_front (committed_at net w r) front.0) ∙ ap (take (length (committed_at net w r))) front.1)

  pub cut_off_is_cut : is_cut_off net w ≡ true → is_cut net feed ≡ true
  unfolding is_cut_off is_cut
  cut_off_is_cut h =
      let more = ltb-true row_limit (length (settled_rows net w)) h in
      let len : length (settled_rows net w ++ settled_front.0) ≡ length (rows net feed) = ap length settled_front.1 in
      let sum = length-append (settled_rows net w) settled_front.0 in
      lt-ltb row_limit (length (rows net feed)) (omega (arith, more, len, sum))

  cut_full : is_cut_off net w ≡ true → length (committed net w) ≡ row_limit
  unfolding committed is_cut_off
  cut_full h =
      let more = ltb-true row_limit (length (settled_rows net w)) h in length-take-le row_limit (settled_rows net w) (omega (arith, more))

  -- a cut world has committed just the rows that are shown
  pub cut_committed : is_cut_off net w ≡ true → committed net w ≡ shown_rows net feed
  unfolding shown_rows
  cut_committed h =
      let front = committed_front in
      sym (take_front (committed net w) front.0) ∙ ap (λ n. take n (committed net w ++ front.0)) (cut_full h) ∙ ap (take row_limit) front.1
