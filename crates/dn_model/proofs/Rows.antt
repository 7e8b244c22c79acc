-- The rows of the lockstep run: up to a cut, and one after another.
use Rattle.std.proofs.Common.{◌≡◌, ℕ, zero, suc, ◌+◌, ◌<◌, Bool, true, false, not, ◌&&◌, ltb, eqb, List, [], ◌∷◌, ◌++◌, refl, sym, ap, ◌∙◌, subst, arith, append_assoc, append-nil}
use Rattle.std.proofs.lemmas.Bool.{ltb-true, ltb-false, lt-ltb, le-ltb, ne_eqb, eqb-true, eqb-false, not-true}
use Rattle.std.proofs.lemmas.List.Sorted.{IsPermutation-sym}
use Rattle.std.specs.List.{filter, AllByRecursion}
use Rattle.std.specs.List.Sorted.{IsPermutation, IsSorted}
use Rattle.std.specs.Ordering.{is_gt, is_lt}
use Rattle.std.specs.Cmp.{upto, tied_itself}
use Rattle.dn_model.specs.declared.key.Key.{Key}
use Rattle.dn_model.specs.declared.event.Event.{Event}
use Rattle.dn_model.specs.declared.feed.External.{External}
use Rattle.dn_model.specs.Order.{event_cmp, sorted, is_below, event_total}
use Rattle.dn_model.specs.Network.{Network, Family, emitted, is_at, joined, routers}
use Rattle.dn_model.specs.Settled.{IsTimed, IsFeedOf, IsPrefixOf, below, due, lockstep, rows, IsSettled, IsSettledBelow}
use Rattle.dn_model.specs.SoFar.{by_router, IsRunSoFar}
use Rattle.dn_lists.proofs.Lists.{by_test, Pairs, all_back, all_both, all_front, all_permutation, all_weaker, all_filter, all_append, pairs_weaker, pairs_filter, filter_append, filter_comm, filter_none, filter_all, filter_front}
use Rattle.dn_lists.proofs.Sorting.{one_if, count, count_permutation, count_filter, count_append, count_split, turn, equal_from, rises_in_order, rises_from_sorted, sorted_from_rises, rises_same, count_in_order, permutation_from_counts}
use Rattle.dn_model.proofs.EventOrder.{event_same, keys_rise, moments_rise, below_down}
use Rattle.dn_model.proofs.Causes.{IsEffect, emitted_ok, due_ok}
use Rattle.dn_model.proofs.Replay.{Carries, same_due}
use Rattle.dn_model.proofs.Waves.{sort, filter_sort, IsRising, IsCut, Timely, all_of, cut_falls, same_up_to, no_other_settled, below_cut}

-- ---- the lists of all routers

pub joined_same : (n : ℕ) (f g : Family) → ((s : ℕ) → s < n → f s ≡ g s) → joined n f ≡ joined n g
unfolding joined
joined_same zero f g h = refl
joined_same (suc n) f g h = λ i. joined_same n f g (λ s l. h s (omega arith)) i ++ h n (omega arith) i

pub joined_filter : (q : Event → Bool) (n : ℕ) (f : Family) → filter q (joined n f) ≡ joined n (λ s. filter q (f s))
unfolding joined
joined_filter q zero f = refl
joined_filter q (suc n) f = filter_append q (joined n f) (f n) ∙ ap (λ l. l ++ filter q (f n)) (joined_filter q n f)

abbrev is_inside : ℕ → Event → Bool
is_inside n e = ltb e.router n

pub count_by_router : (p : Event → Bool) (n : ℕ) (es : List Event) → count p (joined n (by_router es)) ≡ count p (filter (is_inside n) es)
unfolding joined is_at
count_by_router p zero es =
    ap (count p) (sym (filter_none (is_inside 0) es (all_of es (λ e. le-ltb e.router 0 (omega arith)))))
count_by_router p (suc n) es =
    count_append p (joined n (by_router es)) (by_router es n)
    ∙ ap (λ k. k + count p (by_router es n)) (count_by_router p n es)
    ∙ count_split p (is_inside n) (is_at n) (is_inside (suc n)) es
    (λ e h.
    let lt = ltb-true e.router n h in
    (lt-ltb e.router (suc n) (omega (arith, lt)), ne_eqb e.router n (λ x. absurd (omega (arith, lt, x)))))
    (λ e h.
    let ge = ltb-false e.router n h in
    by_test (eqb e.router n)
    (λ g. g ∙ sym (lt-ltb e.router (suc n) (omega (arith, eqb-true e.router n g))))
    (λ g. g ∙ sym (le-ltb e.router (suc n) (let ne = eqb-false e.router n g in omega (arith, ge, ne)))))

-- a rising list, taken apart by router, joined and sorted
pub joined_by_router : (n : ℕ) (es : List Event) → AllByRecursion (λ e. e.router < n) es → IsRising es → sort (joined n (by_router es)) ≡ es
joined_by_router n es a r =
    rises_same event_cmp event_total event_same (sort (joined n (by_router es))) es (rises_in_order event_cmp event_total (joined n (by_router es))) r
    (λ p.
    count_in_order event_cmp event_total event_same p (joined n (by_router es))
    ∙ count_by_router p n es
    ∙ ap (count p) (filter_all (is_inside n) es (all_weaker (λ e. e.router < n) (λ e. is_inside n e ≡ true) es (λ e h. lt-ltb e.router n h) a)))

-- ---- lists in order

pub pairs_append : (R : Event → Event → Type 0) (xs ys : List Event) → Pairs R xs → Pairs R ys → AllByRecursion (λ y. AllByRecursion (λ x. R x y) xs) ys → Pairs R (xs ++ ys)
pairs_append R [] ys a b c = b
pairs_append R (x ∷ xs) ys a b c = (
  all_append (R x) xs ys a.0 (all_weaker (λ y. AllByRecursion (λ x. R x y) (x ∷ xs)) (R x) ys (λ y h. h.0) c),
  pairs_append R xs ys a.1 b (all_weaker (λ y. AllByRecursion (λ x. R x y) (x ∷ xs)) (λ y. AllByRecursion (λ x. R x y) xs) ys (λ y h. h.1) c),
)

pairs_each : (A : Event → Type 0) (R : Event → Event → Type 0) (xs : List Event) → ((x y : Event) → A x → A y → R x y) → AllByRecursion A xs → Pairs R xs
pairs_each A R [] h a = tt
pairs_each A R (x ∷ xs) h a = (all_weaker A (R x) xs (λ y b. h x y a.0 b) a.1, pairs_each A R xs h a.1)

pub passing : (p : Event → Bool) (xs : List Event) → AllByRecursion (λ x. p x ≡ true) (filter p xs)
passing p [] = tt
passing p (x ∷ xs) = by_test (p x) (λ h. rw h (h, passing p xs)) (λ h. rw h (passing p xs))

cut_front : (q : Event → Bool) → IsCut q → (es : List Event) → IsRising es → IsPrefixOf (filter q es) es
cut_front q cut es r =
    filter_front q es (pairs_weaker (λ _. Unit {0}) (λ x y. is_gt (event_cmp x y) ≡ false) (λ x y. q y ≡ true → q x ≡ true) es (λ x y a b k h. cut x y k h) (all_of es (λ e. tt)) r)

module _ {S : Type 0} (net : Network S) (feed : List External) (timed : IsTimed net.header) (fed : IsFeedOf net.header feed) where
  -- ---- up to a cut

  pub rows_rise : IsRising (rows net feed)
  unfolding rows sorted
  rows_rise = rises_in_order event_cmp event_total (joined (routers net) (lockstep net feed))

  pub rows_front : (q : Event → Bool) → IsCut q → IsPrefixOf (filter q (rows net feed)) (rows net feed)
  rows_front q cut = cut_front q cut (rows net feed) rows_rise

  pub rows_up_to : (q : Event → Bool) → filter q (rows net feed) ≡ sort (joined (routers net) (λ s. filter q (lockstep net feed s)))
  unfolding rows sorted
  rows_up_to q =
      filter_sort q (joined (routers net) (lockstep net feed)) ∙ ap (λ es. sort es) (joined_filter q (routers net) (lockstep net feed))

  -- the rows of a sorted family that has what is due of it up to a cut are the front of the lockstep rows
  pub same_rows_up_to : (q : Event → Bool) → IsCut q → (f : Family) → ((r : ℕ) → r < routers net → IsSorted event_cmp (f r)) → ((r : ℕ) → r < routers net → IsPermutation (filter q (due net feed f r)) (f r)) → sort (joined (routers net) f) ≡ filter q (rows net feed)
  same_rows_up_to q cut f up complete =
      ap (λ es. sort es) (joined_same (routers net) f (λ s. filter q (lockstep net feed s)) (same_up_to net feed timed fed q cut f up complete)) ∙ sym (rows_up_to q)

  pub rows_settled_below : (bound : Key) (f : Family) → IsSettledBelow net feed bound f → sorted (joined (routers net) (λ r. below bound (f r))) ≡ below bound (rows net feed)
  unfolding below sorted
  rows_settled_below bound f s = same_rows_up_to (is_below bound) (below_cut bound) (λ r. filter (is_below bound) (f r)) s.sorted s.complete

  pub rows_below_front : (bound : Key) → IsPrefixOf (below bound (rows net feed)) (rows net feed)
  unfolding below
  rows_below_front bound = rows_front (is_below bound) (below_cut bound)

  -- ---- one after another

  -- where nothing waits, all rows are done
  pub last_row : (done : List Event) → IsRunSoFar net feed done [] → rows net feed ≡ done
  unfolding rows sorted
  last_row done so =
      let up = rises_from_sorted event_cmp event_total done so.sorted in
      let inside : AllByRecursion (λ e. e.router < routers net) done = all_front (λ e. e.router < routers net) done [] so.inside in
      let settled : IsSettled net feed (by_router done) =
      record {
        sorted = λ r l. sorted_from_rises event_cmp event_total (by_router done r) (pairs_filter (λ x y. is_gt (event_cmp x y) ≡ false) (is_at r) done up);
        complete = λ r l. subst (λ es. IsPermutation (due net feed (by_router done) r) (by_router es r)) (append-nil done) (so.complete r l);
      } in
      sym
      (sym (joined_by_router (routers net) done inside up)
      ∙ ap (λ es. sort es) (joined_same (routers net) (by_router done) (lockstep net feed) (no_other_settled net feed timed fed (by_router done) settled)))

  module _ (done waiting rest : List Event) (e : Event) (so : IsRunSoFar net feed done waiting) (moves : IsPermutation waiting (e ∷ rest)) (least : AllByRecursion (λ w. is_gt (event_cmp e w) ≡ false) rest) where
    -- at most e, and before e
    upto_e : Event → Bool
    upto_e x = not (is_gt (event_cmp x e))

    before_e : Event → Bool
    before_e x = is_lt (event_cmp x e)

    upto_cut : IsCut upto_e
    unfolding upto_e
    upto_cut x y r h = ap not (upto event_total x y e r (not-true (is_gt (event_cmp y e)) h))

    before_cut : IsCut before_e
    unfolding before_e
    before_cut x y r h = below_down event_cmp event_total x y e r h

    carries : Carries net (Timely net feed timed fed) before_e upto_e
    unfolding before_e upto_e
    carries c sents a =
        all_weaker (IsEffect net.header c) (λ x. upto_e x ≡ true → before_e c ≡ true) (emitted net.header c sents)
        (λ x k h.
        by_test (is_lt (event_cmp c e)) (λ g. g)
        (λ g.
        let back : is_gt (event_cmp e c) ≡ false = turn event_cmp event_total c e ∙ g in
        let round : is_gt (event_cmp x c) ≡ false = upto event_total x e c (not-true (is_gt (event_cmp x e)) h) back in
        absurd (omega (arith, k.1, moments_rise net.header.period x.key c.key k.0.0 a.0 (keys_rise x c round)))))
        (emitted_ok net.header timed c sents)

    -- the waiting events that are e
    same_e : List Event
    same_e = filter upto_e waiting

    ahead_of_e : AllByRecursion (λ h. is_gt (event_cmp h e) ≡ false) done
    ahead_of_e = (all_permutation (λ w. AllByRecursion (λ h. is_gt (event_cmp h w) ≡ false) done) waiting (e ∷ rest) moves so.ahead).0

    e_first : AllByRecursion (λ w. is_gt (event_cmp e w) ≡ false) waiting
    e_first =
        let P : Event → Type 0 = λ w. is_gt (event_cmp e w) ≡ false in
        all_permutation P (e ∷ rest) waiting (IsPermutation-sym waiting (e ∷ rest) moves) (ap is_gt (tied_itself event_total e), least)

    none_before : filter before_e waiting ≡ []
    unfolding before_e
    none_before =
        filter_none before_e waiting (all_weaker (λ w. is_gt (event_cmp e w) ≡ false) (λ w. before_e w ≡ false) waiting (λ w h. sym (turn event_cmp event_total w e) ∙ h) e_first)

    up : IsRising done
    up = rises_from_sorted event_cmp event_total done so.sorted

    up_e : IsRising (done ++ same_e)
    unfolding same_e upto_e
    up_e =
        let A : Event → Type 0 = λ w. (is_gt (event_cmp w e) ≡ false) × (is_gt (event_cmp e w) ≡ false) in
        pairs_append (λ x y. is_gt (event_cmp x y) ≡ false) done (filter upto_e waiting) up
        (pairs_each A (λ x y. is_gt (event_cmp x y) ≡ false) (filter upto_e waiting) (λ x y a b. upto event_total x e y a.0 b.1)
        (all_both (λ w. is_gt (event_cmp w e) ≡ false) (λ w. is_gt (event_cmp e w) ≡ false) (filter upto_e waiting)
        (all_weaker (λ w. upto_e w ≡ true) (λ w. is_gt (event_cmp w e) ≡ false) (filter upto_e waiting) (λ w h. not-true (is_gt (event_cmp w e)) h) (passing upto_e waiting))
        (all_filter (λ w. is_gt (event_cmp e w) ≡ false) upto_e waiting e_first)))
        (all_filter (λ w. AllByRecursion (λ h. is_gt (event_cmp h w) ≡ false) done) upto_e waiting so.ahead)

    timely : (r : ℕ) → r < routers net → AllByRecursion (Timely net feed timed fed) (by_router (done ++ waiting) r)
    timely r l =
        all_permutation (Timely net feed timed fed) (due net feed (by_router done) r) (by_router (done ++ waiting) r) (so.complete r l) (due_ok net timed feed fed (by_router done) r)

    done_timely : (r : ℕ) → r < routers net → AllByRecursion (Timely net feed timed fed) (by_router done r)
    done_timely r l =
        all_front (Timely net feed timed fed) (by_router done r) (by_router waiting r) (subst (AllByRecursion (Timely net feed timed fed)) (filter_append (is_at r) done waiting) (timely r l))

    done_e : filter upto_e (done ++ waiting) ≡ done ++ same_e
    unfolding same_e upto_e
    done_e =
        filter_append upto_e done waiting
        ∙ ap (λ es. es ++ filter upto_e waiting) (filter_all upto_e done (all_weaker (λ h. is_gt (event_cmp h e) ≡ false) (λ h. upto_e h ≡ true) done (λ h k. ap not k) ahead_of_e))

    at_e : (r : ℕ) → filter upto_e (by_router (done ++ waiting) r) ≡ by_router (done ++ same_e) r
    at_e r = filter_comm upto_e (is_at r) (done ++ waiting) ∙ ap (filter (is_at r)) done_e

    e_timely : (r : ℕ) → r < routers net → AllByRecursion (Timely net feed timed fed) (by_router (done ++ same_e) r)
    e_timely r l =
        subst (AllByRecursion (Timely net feed timed fed)) (at_e r) (all_filter (Timely net feed timed fed) upto_e (by_router (done ++ waiting) r) (timely r l))

    same_before_e : (r : ℕ) → filter before_e (by_router (done ++ same_e) r) ≡ filter before_e (by_router done r)
    unfolding same_e
    same_before_e r =
        filter_comm before_e (is_at r) (done ++ same_e)
        ∙ ap (filter (is_at r))
        (filter_append before_e done same_e
        ∙ ap (λ es. filter before_e done ++ es) (filter_comm before_e upto_e waiting ∙ ap (filter upto_e) none_before)
        ∙ append-nil (filter before_e done))
        ∙ filter_comm (is_at r) before_e done

    rising_at : (es : List Event) (r : ℕ) → IsRising es → IsRising (by_router es r)
    rising_at es r u = pairs_filter (λ x y. is_gt (event_cmp x y) ≡ false) (is_at r) es u

    due_e : (r : ℕ) → filter upto_e (due net feed (by_router (done ++ same_e)) r) ≡ filter upto_e (due net feed (by_router done) r)
    due_e r =
        same_due net feed (Timely net feed timed fed) before_e upto_e carries (by_router (done ++ same_e)) (by_router done)
        (λ s l. (e_timely s l, cut_falls net feed timed fed before_e before_cut (by_router (done ++ same_e) s) (e_timely s l, rising_at (done ++ same_e) s up_e)))
        (λ s l. (done_timely s l, cut_falls net feed timed fed before_e before_cut (by_router done s) (done_timely s l, rising_at done s up)))
        (λ s l. same_before_e s)
        r

    complete_e : (r : ℕ) → r < routers net → IsPermutation (filter upto_e (due net feed (by_router (done ++ same_e)) r)) (by_router (done ++ same_e) r)
    complete_e r l =
        permutation_from_counts event_cmp event_total event_same (filter upto_e (due net feed (by_router (done ++ same_e)) r)) (by_router (done ++ same_e) r)
        (λ p.
        ap (count p) (due_e r)
        ∙ count_filter p upto_e (due net feed (by_router done) r)
        ∙ sym (count_permutation (λ x. upto_e x && p x) (due net feed (by_router done) r) (by_router (done ++ waiting) r) (so.complete r l))
        ∙ sym (count_filter p upto_e (by_router (done ++ waiting) r))
        ∙ ap (count p) (at_e r))

    inside_e : AllByRecursion (λ x. x.router < routers net) (done ++ same_e)
    inside_e =
        subst (AllByRecursion (λ x. x.router < routers net)) done_e (all_filter (λ x. x.router < routers net) upto_e (done ++ waiting) so.inside)

    rows_e : filter upto_e (rows net feed) ≡ done ++ same_e
    rows_e =
        sym (same_rows_up_to upto_e upto_cut (by_router (done ++ same_e)) (λ r l. sorted_from_rises event_cmp event_total (by_router (done ++ same_e) r) (rising_at (done ++ same_e) r up_e)) complete_e)
        ∙ joined_by_router (routers net) (done ++ same_e) inside_e up_e

    -- e is the first of them
    first_e : (more : List Event) × (same_e ≡ e ∷ more)
    unfolding same_e upto_e
    first_e = cases (filter upto_e waiting) refl (passing upto_e waiting) (all_filter (λ w. is_gt (event_cmp e w) ≡ false) upto_e waiting e_first)
      where
        cases : (k : List Event) → filter upto_e waiting ≡ k → AllByRecursion (λ w. upto_e w ≡ true) k → AllByRecursion (λ w. is_gt (event_cmp e w) ≡ false) k → (more : List Event) × (k ≡ e ∷ more)
        cases [] h a b =
            let none : count (λ x. upto_e x && true) waiting ≡ 0 = sym (count_filter (λ _. true) upto_e waiting) ∙ ap (count (λ _. true)) h in
            let some = count_permutation (λ x. upto_e x && true) waiting (e ∷ rest) moves in
            let here : one_if (upto_e e && true) ≡ 1 = ap (λ r. one_if (not (is_gt r) && true)) (tied_itself event_total e) in
            absurd (omega (arith, none, some, here))
        cases (y ∷ more) h a b =
            let is : y ≡ e = event_same y e (equal_from (event_cmp y e) (not-true (is_gt (event_cmp y e)) a.0) (sym (turn event_cmp event_total y e) ∙ b.0)) in
            (more, ap (λ z. z ∷ more) is)

    -- the least of what waits is the next row
    pub next_row : IsPrefixOf (done ++ e ∷ []) (rows net feed)
    next_row =
        let front = rows_front upto_e upto_cut in
        let first = first_e in
        let whole : rows net feed ≡ (done ++ e ∷ first.0) ++ front.0 =
        sym front.1 ∙ ap (λ es. es ++ front.0) (rows_e ∙ ap (λ es. done ++ es) first.1) in (
          first.0 ++ front.0,
          append_assoc done (e ∷ []) (first.0 ++ front.0) ∙ sym (append_assoc done (e ∷ first.0) front.0) ∙ sym whole,
        )
