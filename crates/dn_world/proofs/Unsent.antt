-- No unsent message: each committed message was sent by committed rows.
use Rattle.std.proofs.Common.{◌≡◌, ℕ, zero, suc, ◌<◌, ◌≤◌, Bool, true, false, ltb, List, [], ◌∷◌, ◌++◌, length, take, refl, sym, ap, ◌∙◌, subst, arith, append-nil}
use Rattle.std.specs.List.{filter, AllByRecursion, count_by}
use Rattle.std.specs.Ordering.{is_lt, is_gt}
use Rattle.std.proofs.lemmas.Bool.{ltb-true, ltb-false, eqb-false}
use Rattle.dn_model.specs.declared.event.Event.{Event}
use Rattle.dn_model.specs.declared.feed.External.{External}
use Rattle.dn_model.specs.Order.{event_cmp, event_total, is_below, sorted}
use Rattle.dn_model.specs.Network.{Network, Family, emitted, tick, ticks, externals, injected, is_at, joined, opening_node, routers, sent, sent_from, sent_to}
use Rattle.dn_guest.specs.Node.{node_after, node_sent}
use Rattle.dn_guest.specs.declared.node.Node.{Node}
use Rattle.dn_model.specs.Settled.{IsTimed, IsFeedOf, IsPrefixOf, below, due, lockstep, rows, row_limit}
use Rattle.dn_lists.proofs.Lists.{by_test, Falls, all_weaker, all_both, all_append, all_filter, pairs_weaker, pairs_filter, filter_append, filter_comm, filter_none, all_front, all_back}
use Rattle.dn_lists.proofs.Sorting.{count, count_append, count_is_sum, all_in_order, turn}
use Rattle.dn_model.proofs.EventOrder.{keys_rise, moments_rise, below_down}
use Rattle.dn_model.proofs.Causes.{all_joined_below, IsTimely, IsEffect, emitted_ok}
use Rattle.dn_model.proofs.Replay.{Carries, sent_until}
use Rattle.dn_model.proofs.Waves.{IsRising, all_of, lockstep_is, lockstep_fine, lockstep_settled_below}
use Rattle.dn_model.proofs.Rows.{rows_rise, passing}
use Rattle.dn_model.proofs.Committed.{IsFrom, emitted_from, message_was_sent}
use Rattle.dn_world.specs.declared.step.Step.{Step}
use Rattle.dn_world.specs.World.{World, is_same}
use Rattle.dn_world.specs.Runs.{IsLegal, world, Continues, settled_rows, committed, committed_at, is_cut_off, IsPlayable}
use Rattle.dn_world.proofs.Parts.{same_is}
use Rattle.dn_world.proofs.Prefix.{take_prefix, filter_prefix, lockstep_at, rows_at, settled_rows_are, committed_front}
use Rattle.dn_world.proofs.Balance.{is_at_true}
use Rattle.dn_world.proofs.Sound.{IsSound, world_sound}
use Rattle.dn_world.proofs.Onward.{own_case}

-- ---- rising lists around an element

-- what stands after e in a rising list isn't before e
behind_front : (xs ys : List Event) (e : Event) → IsRising (xs ++ ys) → (count (is_same e) xs ≡ 0 → ⊥) → AllByRecursion (λ y. is_lt (event_cmp y e) ≡ false) ys
behind_front [] ys e r some = absurd (some refl)
behind_front (x ∷ xs) ys e r some =
    by_test (is_same e x)
    (λ g.
    let same : e ≡ x = same_is e x g in
    all_weaker (λ y. is_gt (event_cmp x y) ≡ false) (λ y. is_lt (event_cmp y e) ≡ false) ys
    (λ y h. subst (λ z. is_lt (event_cmp y z) ≡ false) (sym same) (sym (turn event_cmp event_total y x) ∙ h))
    (all_back (λ y. is_gt (event_cmp x y) ≡ false) xs ys r.0))
    (λ g. behind_front xs ys e r.1 (λ none. some (let z : count (is_same e) (x ∷ xs) ≡ 0 = simp g (omega (arith, none)) in z)))

abbrev before : Event → Event → Bool
before e x = is_lt (event_cmp x e)

before_front : (xs ys : List Event) (e : Event) → IsRising (xs ++ ys) → (count (is_same e) xs ≡ 0 → ⊥) → filter (before e) (xs ++ ys) ≡ filter (before e) xs
before_front xs ys e r some =
    filter_append (before e) xs ys
    ∙ ap (λ l. filter (before e) xs ++ l) (filter_none (before e) ys (behind_front xs ys e r some))
    ∙ append-nil (filter (before e) xs)

take_all : (n : ℕ) (xs : List Event) → length xs ≤ n → take n xs ≡ xs
take_all zero [] h = refl
take_all zero (x ∷ xs) h = absurd (omega (arith, h))
take_all (suc n) [] h = refl
take_all (suc n) (x ∷ xs) h = ap (λ l. x ∷ l) (take_all n xs (omega (arith, h)))

count_front : (p : Event → Bool) (xs ys : List Event) → IsPrefixOf xs ys → count p xs ≤ count p ys
count_front p xs ys f =
    let a = count_append p xs f.0 in
    let b : count p (xs ++ f.0) ≡ count p ys = ap (count p) f.1 in
    omega (arith, a, b)

not_at : (e x : Event) → is_at e.router x ≡ false → e ≡ x → ⊥
unfolding is_at
not_at e x h same = eqb-false x.router e.router h (ap (λ z. z.router) (sym same))

-- what stands in a front of a filtered list passes the filter
passes_q : (q : Event → Bool) (e : Event) (xs all : List Event) → IsPrefixOf xs (filter q all) → (count (is_same e) xs ≡ 0 → ⊥) → q e ≡ true
passes_q q e xs all f some = find xs (all_front (λ x. q x ≡ true) xs f.0 (subst (AllByRecursion (λ x. q x ≡ true)) (sym f.1) (passing q all))) some
  where
    find : (es : List Event) → AllByRecursion (λ x. q x ≡ true) es → (count (is_same e) es ≡ 0 → ⊥) → q e ≡ true
    find [] a k = absurd (k refl)
    find (x ∷ es) a k =
        by_test (is_same e x)
        (λ g. subst (λ z. q z ≡ true) (sym (same_is e x g)) a.0)
        (λ g. find es a.1 (λ none. k (let z : count (is_same e) (x ∷ es) ≡ 0 = simp g (omega (arith, none)) in z)))

pairs_front : (xs ys : List Event) → IsRising (xs ++ ys) → IsRising xs
pairs_front [] ys r = tt
pairs_front (x ∷ xs) ys r = (all_front (λ y. is_gt (event_cmp x y) ≡ false) xs ys r.0, pairs_front xs ys r.1)

-- e stands at its own router
count_own : (e : Event) (es : List Event) → count (is_same e) (filter (is_at e.router) es) ≡ count (is_same e) es
count_own e [] = refl
count_own e (x ∷ xs) =
    let ih = count_own e xs in
    by_test (is_at e.router x)
    (λ a. simp a (omega (arith, ih)))
    (λ a. let b : is_same e x ≡ false = by_test (is_same e x) (λ g. absurd (not_at e x a (same_is e x g))) (λ g. g) in simp (a, b) (omega (arith, ih)))

module _ {S : Type 0} (net : Network S) (timed : IsTimed net.header) (e : Event) where
  -- what equals e has causes before e
  carries : Carries net (λ x. IsTimely net.header x) (before e) (is_same e)
  carries c sents a =
      all_weaker (IsEffect net.header c) (λ x. is_same e x ≡ true → before e c ≡ true) (emitted net.header c sents)
      (λ x k h.
      let same : x ≡ e = sym (same_is e x h) in
      by_test (before e c) (λ g. g)
      (λ g.
      let back : is_gt (event_cmp x c) ≡ false = subst (λ z. is_gt (event_cmp z c) ≡ false) (sym same) (turn event_cmp event_total c e ∙ g) in
      absurd (omega (arith, k.1, moments_rise net.header.period x.key c.key k.0.0 a.0 (keys_rise x c back)))))
      (emitted_ok net.header timed c sents)

  falls : (es : List Event) → IsRising es → Falls (before e) es
  falls es r =
      pairs_weaker (λ _. Unit {0}) (λ x y. is_gt (event_cmp x y) ≡ false) (λ x y. before e y ≡ true → before e x ≡ true) es
      (λ x y a b k h. below_down event_cmp event_total x y e k h) (all_of es (λ e. tt)) r

  -- two histories that are the same before e send e as often
  sent_same : (s : ℕ) (xs ys : List Event) → AllByRecursion (λ x. IsTimely net.header x) xs → IsRising xs → AllByRecursion (λ x. IsTimely net.header x) ys → IsRising ys → filter (before e) xs ≡ filter (before e) ys → filter (is_same e) (sent net s xs) ≡ filter (is_same e) (sent net s ys)
  unfolding sent
  sent_same s xs ys a r b k same =
      sent_until net (λ x. IsTimely net.header x) (before e) (is_same e) carries (opening_node net s) xs a (falls xs r)
      ∙ ap (λ es. filter (is_same e) (sent_from net (opening_node net s) es)) same
      ∙ sym (sent_until net (λ x. IsTimely net.header x) (before e) (is_same e) carries (opening_node net s) ys b (falls ys k))

count_self : (p : Event → Bool) (es : List Event) → count p (filter p es) ≡ count p es
count_self p [] = refl
count_self p (x ∷ xs) =
    let ih = count_self p xs in by_test (p x) (λ h. simp h (omega (arith, ih))) (λ h. simp h (omega (arith, ih)))

module _ {S : Type 0} (net : Network S) (feed : List External) (playable : IsPlayable net.header) (fed : IsFeedOf net.header feed) (w : World) (sound : IsSound net w) (goes : Continues feed w) where
  timely_front : (s : ℕ) (xs all : List Event) (q : Event → Bool) → IsPrefixOf xs (filter q all) → {part : List Event} → filter (is_at s) (filter q all) ≡ part → AllByRecursion (λ x. IsTimely net.header x) part → AllByRecursion (λ x. IsTimely net.header x) (filter (is_at s) xs)
  timely_front s xs all q f e a =
      let g = filter_prefix (is_at s) xs (filter q all) f in
      all_front (λ x. IsTimely net.header x) (filter (is_at s) xs) g.0 (subst (AllByRecursion (λ x. IsTimely net.header x)) (sym (g.1 ∙ e)) a)

  -- a committed message is sent by its sender's committed rows, at least as often
  pub committed_was_sent : (e : Event) → e.key.class ≡ 2 → e.router < routers net → e.key.origin < routers net → count (is_same e) (committed net w) ≤ count (is_same e) (sent net e.key.origin (committed_at net w e.key.origin))
  unfolding below committed
  committed_was_sent e message to from =
      let q = is_below w.boundary in
      let r = e.router in
      let s = e.key.origin in
      let all = rows net feed in
      let part : Family = λ k. filter q (lockstep net feed k) in
      let short = take row_limit (settled_rows net w) in
      let c = count (is_same e) short in
      let front : IsPrefixOf short (filter q all) = subst (IsPrefixOf short) (settled_rows_are net feed playable fed w sound goes) (take_prefix row_limit (settled_rows net w)) in
      let up : IsRising (filter q all) = pairs_filter (λ x y. is_gt (event_cmp x y) ≡ false) q all (rows_rise net feed playable.timed fed) in
      let of_router : (k : ℕ) → k < routers net → filter (is_at k) (filter q all) ≡ part k = λ k l. filter_comm (is_at k) q all ∙ ap (filter q) (rows_at net feed playable.timed fed k l) in
      by_test (ltb 0 c)
      (λ h.
      let some : count (is_same e) short ≡ 0 → ⊥ = (λ z. let l = ltb-true 0 c h in omega (arith, l, z)) in
      let less = count_front (is_same e) short (filter q all) front in
      let own = count_own e (filter q all) in
      let at_r : count (is_same e) (filter (is_at r) (filter q all)) ≡ count (is_same e) (part r) = ap (count (is_same e)) (of_router r to) in
      let is_q : is_below w.boundary e ≡ true = passes_q q e short all front some in
      let was = message_was_sent net feed w.boundary (lockstep net feed) (lockstep_settled_below net feed playable.timed fed w.boundary)
      (λ k l. all_weaker (λ x. is_at k x ≡ true) (λ x. x.router ≡ k) (lockstep net feed k) (λ x g. is_at_true k x g) (lockstep_at net feed playable.timed fed k l)) e message is_q to from in
      let whole : filter (is_same e) (sent net s (filter (is_at s) short)) ≡ filter (is_same e) (sent net s (part s)) =
      sent_same net playable.timed e s (filter (is_at s) short) (part s)
      (timely_front s short all q front (of_router s from) (all_filter (λ x. IsTimely net.header x) q (lockstep net feed s) (lockstep_fine net feed playable.timed fed s from).0))
      (pairs_filter (λ x y. is_gt (event_cmp x y) ≡ false) (is_at s) short (pairs_front short front.0 (subst IsRising (sym front.1) up)))
      (all_filter (λ x. IsTimely net.header x) q (lockstep net feed s) (lockstep_fine net feed playable.timed fed s from).0)
      (pairs_filter (λ x y. is_gt (event_cmp x y) ≡ false) q (lockstep net feed s) (lockstep_fine net feed playable.timed fed s from).1)
      (filter_comm (before e) (is_at s) short
      ∙ ap (filter (is_at s)) (sym (before_front short front.0 e (subst IsRising (sym front.1) up) some) ∙ ap (filter (before e)) front.1)
      ∙ filter_comm (is_at s) (before e) (filter q all)
      ∙ ap (filter (before e)) (of_router s from)) in
      let one = count_self (is_same e) (sent net s (filter (is_at s) short)) in
      let two = count_self (is_same e) (sent net s (part s)) in
      let both : count (is_same e) (filter (is_same e) (sent net s (filter (is_at s) short))) ≡ count (is_same e) (filter (is_same e) (sent net s (part s))) = ap (count (is_same e)) whole in
      omega (arith, less, own, at_r, was, one, two, both))
      (λ h. let l = ltb-false 0 c h in omega (arith, l))

  -- and just as often, where all rows below the boundary are committed
  pub committed_is_sent : (e : Event) → e.key.class ≡ 2 → e.router < routers net → e.key.origin < routers net → is_cut_off net w ≡ false → (count (is_same e) (committed net w) ≡ 0 → ⊥) → count (is_same e) (committed net w) ≡ count (is_same e) (sent net e.key.origin (committed_at net w e.key.origin))
  unfolding below committed is_cut_off
  committed_is_sent e message to from uncut some =
      let q = is_below w.boundary in
      let r = e.router in
      let s = e.key.origin in
      let all = rows net feed in
      let part : Family = λ k. filter q (lockstep net feed k) in
      let short = take row_limit (settled_rows net w) in
      let whole : short ≡ filter q all = take_all row_limit (settled_rows net w) (ltb-false row_limit (length (settled_rows net w)) uncut) ∙ settled_rows_are net feed playable fed w sound goes in
      let of_router : (k : ℕ) → k < routers net → filter (is_at k) short ≡ part k = λ k l. ap (filter (is_at k)) whole ∙ filter_comm (is_at k) q all ∙ ap (filter q) (rows_at net feed playable.timed fed k l) in
      let is_q : is_below w.boundary e ≡ true = passes_q q e short all ([], append-nil short ∙ whole) some in
      let was = message_was_sent net feed w.boundary (lockstep net feed) (lockstep_settled_below net feed playable.timed fed w.boundary)
      (λ k l. all_weaker (λ x. is_at k x ≡ true) (λ x. x.router ≡ k) (lockstep net feed k) (λ x g. is_at_true k x g) (lockstep_at net feed playable.timed fed k l)) e message is_q to from in
      sym (count_own e short) ∙ ap (count (is_same e)) (of_router r to) ∙ was ∙ ap (λ es. count (is_same e) (sent net s es)) (sym (of_router s from))

-- ---- where messages come from

-- its router is below n, and where it is a message, its origin is
abbrev IsOf : ℕ → Event → Type 0
IsOf n e = (e.router < n) × (e.key.class ≡ 2 → e.key.origin < n)

abbrev HasSender : ℕ → Event → Type 0
HasSender n e = e.key.class ≡ 2 → e.key.origin < n

ticks_sender : (n m r : ℕ) → AllByRecursion (HasSender m) (ticks n r)
unfolding ticks
ticks_sender zero m r = tt
ticks_sender (suc n) m r = all_append (HasSender m) (ticks n r) (tick n r ∷ []) (ticks_sender n m r) ((λ h. absurd (omega (arith, h))), tt)

externals_sender : (place m : ℕ) (xs : List External) → AllByRecursion (HasSender m) (externals place xs)
unfolding externals
externals_sender place m [] = tt
externals_sender place m (x ∷ xs) = ((λ h. absurd (omega (arith, h))), externals_sender (suc place) m xs)

module _ {S : Type 0} (net : Network S) where
  sent_from_from : (s : ℕ) (node : Node S) (es : List Event) → AllByRecursion (λ e. is_at s e ≡ true) es → AllByRecursion (IsFrom s) (sent_from net node es)
  unfolding sent_from
  sent_from_from s node [] a = tt
  sent_from_from s node (e ∷ es) a =
      all_append (IsFrom s) (emitted net.header e (node_sent net.guests node e.input)) (sent_from net (node_after net.guests node e.input) es)
      (all_weaker (IsFrom e.router) (IsFrom s) (emitted net.header e (node_sent net.guests node e.input)) (λ x b. (b.0, b.1 ∙ is_at_true s e a.0)) (emitted_from net.header e (node_sent net.guests node e.input)))
      (sent_from_from s (node_after net.guests node e.input) es a.1)

  module _ (feed : List External) (timed : IsTimed net.header) (fed : IsFeedOf net.header feed) where
    due_sender : (r : ℕ) → AllByRecursion (HasSender (routers net)) (due net feed (lockstep net feed) r)
    unfolding due injected sent_to sent
    due_sender r =
        let n = routers net in
        all_append (HasSender n) (injected net.header.groups feed r) (sent_to net (lockstep net feed) r)
        (all_append (HasSender n) (ticks net.header.groups r) (filter (is_at r) (externals 0 feed)) (ticks_sender net.header.groups n r) (all_filter (HasSender n) (is_at r) (externals 0 feed) (externals_sender 0 n feed)))
        (all_joined_below (HasSender n) n (λ s. filter (is_at r) (sent net s (lockstep net feed s)))
        (λ s l.
        all_filter (HasSender n) (is_at r) (sent net s (lockstep net feed s))
        (all_weaker (IsFrom s) (HasSender n) (sent net s (lockstep net feed s)) (λ e h _. omega (arith, h.1, l))
        (sent_from_from s (opening_node net s) (lockstep net feed s) (lockstep_at net feed timed fed s l)))))

    rows_of : AllByRecursion (IsOf (routers net)) (rows net feed)
    unfolding rows sorted
    rows_of =
        let n = routers net in
        all_in_order event_cmp (IsOf n) (joined n (lockstep net feed))
        (all_joined_below (IsOf n) n (lockstep net feed)
        (λ s l.
        all_both (λ e. e.router < n) (HasSender n) (lockstep net feed s)
        (all_weaker (λ e. is_at s e ≡ true) (λ e. e.router < n) (lockstep net feed s) (λ e h. let same = is_at_true s e h in omega (arith, same, l)) (lockstep_at net feed timed fed s l))
        (subst (AllByRecursion (HasSender n)) (sym (lockstep_is net feed timed fed s l)) (all_in_order event_cmp (HasSender n) (due net feed (lockstep net feed) s) (due_sender s)))))

-- what stands in a list has what each element has
find_all : (P : Event → Type 0) (e : Event) (es : List Event) → AllByRecursion P es → (count (is_same e) es ≡ 0 → ⊥) → P e
find_all P e [] a k = absurd (k refl)
find_all P e (x ∷ es) a k =
    by_test (is_same e x)
    (λ g. subst P (sym (same_is e x g)) a.0)
    (λ g. find_all P e es a.1 (λ none. k (let z : count (is_same e) (x ∷ es) ≡ 0 = simp g (omega (arith, none)) in z)))

module _ {S : Type 0} (net : Network S) (playable : IsPlayable net.header) (steps : List Step) (legal : IsLegal net steps) where
  stands_of : (e : Event) → (count (is_same e) (committed net (world net steps)) ≡ 0 → ⊥) → IsOf (routers net) e
  stands_of e some =
      let w = world net steps in
      let sound = world_sound net playable steps legal in
      let front = committed_front net w.accepted playable sound.accepted w sound (own_case w) in
      let all = all_front (IsOf (routers net)) (committed net w) front.0 (subst (AllByRecursion (IsOf (routers net))) (sym front.1) (rows_of net w.accepted playable.timed sound.accepted)) in
      find_all (IsOf (routers net)) e (committed net w) all some

  pub no_unsent : (e : Event) → e.key.class ≡ 2 → count_by (is_same e) (committed net (world net steps)) ≤ count_by (is_same e) (sent net e.key.origin (committed_at net (world net steps) e.key.origin))
  no_unsent e message =
      let w = world net steps in
      let sound = world_sound net playable steps legal in
      let left = count_is_sum (is_same e) (committed net w) in
      let right = count_is_sum (is_same e) (sent net e.key.origin (committed_at net w e.key.origin)) in
      by_test (ltb 0 (count (is_same e) (committed net w)))
      (λ h.
      let own = stands_of e (λ z. let l = ltb-true 0 (count (is_same e) (committed net w)) h in omega (arith, l, z)) in
      let was = committed_was_sent net w.accepted playable sound.accepted w sound (own_case w) e message own.0 (own.1 message) in
      omega (arith, left, right, was))
      (λ h. let l = ltb-false 0 (count (is_same e) (committed net w)) h in omega (arith, left, l))

  pub all_sent_as_often : (e : Event) → e.key.class ≡ 2 → is_cut_off net (world net steps) ≡ false → 0 < count_by (is_same e) (committed net (world net steps)) → count_by (is_same e) (committed net (world net steps)) ≡ count_by (is_same e) (sent net e.key.origin (committed_at net (world net steps) e.key.origin))
  all_sent_as_often e message uncut h =
      let w = world net steps in
      let sound = world_sound net playable steps legal in
      let left = count_is_sum (is_same e) (committed net w) in
      let right = count_is_sum (is_same e) (sent net e.key.origin (committed_at net w e.key.origin)) in
      let some : count (is_same e) (committed net w) ≡ 0 → ⊥ = (λ z. omega (arith, h, left, z)) in
      let own = stands_of e some in
      sym left ∙ committed_is_sent net w.accepted playable sound.accepted w sound (own_case w) e message own.0 (own.1 message) uncut some ∙ right
