-- The lockstep lists are settled, and no other family is; the same below every key.
use Rattle.std.proofs.Common.{◌≡◌, ℕ, zero, suc, ◌*◌, ◌<◌, Bool, true, false, ltb, eqb, List, [], ◌∷◌, ◌++◌, refl, sym, ap, ◌∙◌, subst, arith}
use Rattle.std.proofs.lemmas.Bool.{ltb-true, ltb-false, lt-ltb, le-ltb, ne_eqb, eqb-true, eqb-false}
use Rattle.std.specs.List.{filter, AllByRecursion}
use Rattle.std.specs.List.Sorted.{IsPermutation, IsSorted}
use Rattle.std.specs.Ordering.{is_gt}
use Rattle.dn_model.specs.declared.key.Key.{Key}
use Rattle.dn_model.specs.declared.event.Event.{Event}
use Rattle.dn_model.specs.declared.feed.External.{External}
use Rattle.dn_lists.specs.InOrder.{in_order}
use Rattle.dn_model.specs.Order.{event_cmp, sorted, is_below, event_total}
use Rattle.dn_model.specs.Keys.{moment}
use Rattle.dn_model.specs.Network.{Network, Family, emitted, routers}
use Rattle.dn_model.specs.Settled.{IsTimed, IsFeedOf, below, due, is_of_moment, wave, lockstep, IsSettled, IsSettledBelow, AreSame}
use Rattle.dn_lists.proofs.Lists.{by_test, Falls, all_weaker, all_filter, pairs_weaker, pairs_filter, filter_comm, filter_inner, filter_none, filter_all, filter_split, filter_front}
use Rattle.dn_lists.proofs.Sorting.{Rises, all_in_order, permutation_in_order, rises_in_order, rises_from_sorted, sorted_from_rises, in_order_is, filter_in_order}
use Rattle.dn_model.proofs.EventOrder.{event_same, keys_rise, below_before, moments_rise, events_from_moments}
use Rattle.dn_model.proofs.Causes.{IsTimely, IsEffect, emitted_ok, due_ok}
use Rattle.dn_model.proofs.Replay.{Carries, same_due}

pub all_of : {P : Event → Type 0} (xs : List Event) → ((x : Event) → P x) → AllByRecursion P xs
all_of [] h = tt
all_of (x ∷ xs) h = (h x, all_of xs h)

-- the whole of a sort
abbrev pub sort : List Event → List Event
sort es = in_order event_cmp es

pub filter_sort : (q : Event → Bool) (es : List Event) → filter q (sort es) ≡ sort (filter q es)
filter_sort q es = filter_in_order event_cmp event_total event_same q es

abbrev pub IsRising : List Event → Type 0
IsRising es = Rises event_cmp es

-- a test that each event passes which is no greater than one that does
abbrev pub IsCut : (Event → Bool) → Type 0
IsCut q = (x y : Event) → is_gt (event_cmp x y) ≡ false → q y ≡ true → q x ≡ true

pub below_cut : (bound : Key) → IsCut (is_below bound)
below_cut bound x y r h = below_before bound x y (keys_rise x y r) h

module _ {S : Type 0} (net : Network S) (feed : List External) (timed : IsTimed net.header) (fed : IsFeedOf net.header feed) where
  -- moments below t
  abbrev before : ℕ → Event → Bool
  before t e = ltb (moment net.header.period e.key) t

  abbrev pub Timely : Event → Type 0
  Timely e = IsTimely net.header e

  -- a history of events in the groups, in order
  abbrev pub IsFine : List Event → Type 0
  IsFine es = AllByRecursion Timely es × IsRising es

  abbrev pub Inside : ℕ → Type 0
  Inside r = r < routers net

  -- ---- tests that hold up to a point

  before_falls : (t : ℕ) (es : List Event) → IsFine es → Falls (before t) es
  before_falls t es f =
      pairs_weaker Timely (λ x y. is_gt (event_cmp x y) ≡ false) (λ x y. before t y ≡ true → before t x ≡ true) es
      (λ x y a b r h.
      let le = moments_rise net.header.period x.key y.key a.0 b.0 (keys_rise x y r) in
      let lt = ltb-true (moment net.header.period y.key) t h in
      lt-ltb (moment net.header.period x.key) t (omega (arith, le, lt)))
      f.0 f.1

  pub cut_falls : (q : Event → Bool) → IsCut q → (es : List Event) → IsFine es → Falls q es
  cut_falls q c es f =
      pairs_weaker Timely (λ x y. is_gt (event_cmp x y) ≡ false) (λ x y. q y ≡ true → q x ≡ true) es (λ x y a b r h. c x y r h) f.0 f.1

  pub before_carries : (t : ℕ) → Carries net Timely (before t) (before (suc t))
  before_carries t e sents a =
      all_weaker (IsEffect net.header e) (λ x. before (suc t) x ≡ true → before t e ≡ true) (emitted net.header e sents)
      (λ x c h.
      let lt = ltb-true (moment net.header.period x.key) (suc t) h in
      lt-ltb (moment net.header.period e.key) t (omega (arith, lt, c.1)))
      (emitted_ok net.header timed e sents)

  pub cut_carries : (q : Event → Bool) → IsCut q → Carries net Timely q q
  cut_carries q cut e sents a =
      all_weaker (IsEffect net.header e) (λ x. q x ≡ true → q e ≡ true) (emitted net.header e sents)
      (λ x c h. cut e x (events_from_moments net.header.period e x a.0 c.0.0 c.1) h)
      (emitted_ok net.header timed e sents)

  -- ---- sorts of what is due

  sort_fine : (f : Family) (q : Event → Bool) (r : ℕ) → IsFine (sort (filter q (due net feed f r)))
  sort_fine f q r = (
    all_in_order event_cmp Timely (filter q (due net feed f r)) (all_filter Timely q (due net feed f r) (due_ok net timed feed fed f r)),
    rises_in_order event_cmp event_total (filter q (due net feed f r)),
  )

  pub filter_fine : (q : Event → Bool) (es : List Event) → IsFine es → IsFine (filter q es)
  filter_fine q es f = (all_filter Timely q es f.0, pairs_filter (λ x y. is_gt (event_cmp x y) ≡ false) q es f.1)

  -- each history is the sort of what is due and passes q
  abbrev pub Solves : (Event → Bool) → Family → Type 0
  Solves q f = (r : ℕ) → Inside r → f r ≡ sort (filter q (due net feed f r))

  solves_fine : (q : Event → Bool) (f : Family) → Solves q f → (r : ℕ) → Inside r → IsFine (f r)
  solves_fine q f s r l = subst IsFine (sym (s r l)) (sort_fine f q r)

  -- ---- at most one family

  -- up to t, what is due hangs on the histories up to the moment before
  due_before : (t : ℕ) (f g : Family) → ((r : ℕ) → Inside r → IsFine (f r)) → ((r : ℕ) → Inside r → IsFine (g r)) → ((r : ℕ) → Inside r → filter (before t) (f r) ≡ filter (before t) (g r)) → (r : ℕ) → filter (before (suc t)) (due net feed f r) ≡ filter (before (suc t)) (due net feed g r)
  due_before t f g a b h r =
      same_due net feed Timely (before t) (before (suc t)) (before_carries t) f g (λ s l. ((a s l).0, before_falls t (f s) (a s l))) (λ s l. ((b s l).0, before_falls t (g s) (b s l))) h r

  solved_before : (q : Event → Bool) (f : Family) → Solves q f → (t r : ℕ) → Inside r → filter (before t) (f r) ≡ sort (filter q (filter (before t) (due net feed f r)))
  solved_before q f s t r l =
      ap (filter (before t)) (s r l)
      ∙ filter_sort (before t) (filter q (due net feed f r))
      ∙ ap (λ es. sort es) (filter_comm (before t) q (due net feed f r))

  same_before : (q : Event → Bool) (f g : Family) → Solves q f → Solves q g → (t : ℕ) → (r : ℕ) → Inside r → filter (before t) (f r) ≡ filter (before t) (g r)
  same_before q f g a b zero r l =
      filter_none (before 0) (f r) (all_of (f r) (λ e. le-ltb (moment net.header.period e.key) 0 (omega arith)))
      ∙ sym (filter_none (before 0) (g r) (all_of (g r) (λ e. le-ltb (moment net.header.period e.key) 0 (omega arith))))
  same_before q f g a b (suc t) r l =
      solved_before q f a (suc t) r l
      ∙ ap (λ es. sort (filter q es)) (due_before t f g (solves_fine q f a) (solves_fine q g b) (same_before q f g a b t) r)
      ∙ sym (solved_before q g b (suc t) r l)

  all_before : (es : List Event) → AllByRecursion Timely es → filter (before (net.header.groups * net.header.period)) es ≡ es
  all_before es a =
      filter_all (before (net.header.groups * net.header.period)) es
      (all_weaker Timely (λ e. before (net.header.groups * net.header.period) e ≡ true) es (λ e h. lt-ltb (moment net.header.period e.key) (net.header.groups * net.header.period) h.1) a)

  solves_same : (q : Event → Bool) (f g : Family) → Solves q f → Solves q g → (r : ℕ) → Inside r → f r ≡ g r
  solves_same q f g a b r l =
      sym (all_before (f r) (solves_fine q f a r l).0)
      ∙ same_before q f g a b (net.header.groups * net.header.period) r l
      ∙ all_before (g r) (solves_fine q g b r l).0

  -- ---- the waves are one

  abbrev everything : Event → Bool
  everything e = true

  filter_everything : (es : List Event) → filter everything es ≡ es
  filter_everything es = filter_all everything es (all_of es (λ e. refl))

  -- a wave has what is due of it before its moment
  abbrev IsWave : ℕ → Type 0
  IsWave t = (r : ℕ) → Inside r → wave net feed t r ≡ filter (before t) (sort (due net feed (wave net feed t) r))

  due_sort_fine : (f : Family) (r : ℕ) → IsFine (sort (due net feed f r))
  due_sort_fine f r = subst (λ es. IsFine (sort es)) (filter_everything (due net feed f r)) (sort_fine f everything r)

  -- up to t and at t
  split_at : (t : ℕ) (es : List Event) → IsFine es → filter (before t) es ++ filter (is_of_moment net feed t) es ≡ filter (before (suc t)) es
  unfolding is_of_moment
  split_at t es f =
      filter_split (before t) (before (suc t)) (is_of_moment net feed t) es
      (λ e h.
      let lt = ltb-true (moment net.header.period e.key) t h in
      (lt-ltb (moment net.header.period e.key) (suc t) (omega (arith, lt)), ne_eqb (moment net.header.period e.key) t (λ x. absurd (omega (arith, lt, x)))))
      (λ e h.
      let ge = ltb-false (moment net.header.period e.key) t h in
      by_test (eqb (moment net.header.period e.key) t)
      (λ g. g ∙ sym (lt-ltb (moment net.header.period e.key) (suc t) (omega (arith, eqb-true (moment net.header.period e.key) t g))))
      (λ g. g ∙ sym (le-ltb (moment net.header.period e.key) (suc t) (let ne = eqb-false (moment net.header.period e.key) t g in omega (arith, ge, ne)))))
      (before_falls t es f)

  -- the next wave is what is due of this one, up to the next moment
  next_wave : (t : ℕ) → IsWave t → (r : ℕ) → Inside r → wave net feed (suc t) r ≡ filter (before (suc t)) (sort (due net feed (wave net feed t) r))
  unfolding wave sorted
  next_wave t w r l =
      let z = due net feed (wave net feed t) r in
      ap (λ es. es ++ sort (filter (is_of_moment net feed t) z)) (w r l)
      ∙ ap (λ es. filter (before t) (sort z) ++ es) (sym (filter_sort (is_of_moment net feed t) z))
      ∙ split_at t (sort z) (due_sort_fine (wave net feed t) r)

  wave_from : (t : ℕ) → IsWave t → IsWave (suc t)
  wave_from t w r l =
      let next = next_wave t w in
      let here : (s : ℕ) → Inside s → IsFine (wave net feed t s) =
      λ s k. subst IsFine (sym (w s k)) (filter_fine (before t) (sort (due net feed (wave net feed t) s)) (due_sort_fine (wave net feed t) s)) in
      let there : (s : ℕ) → Inside s → IsFine (wave net feed (suc t) s) =
      λ s k. subst IsFine (sym (next s k)) (filter_fine (before (suc t)) (sort (due net feed (wave net feed t) s)) (due_sort_fine (wave net feed t) s)) in
      let same : (s : ℕ) → Inside s → filter (before t) (wave net feed t s) ≡ filter (before t) (wave net feed (suc t) s) =
      λ s k.
      let z = sort (due net feed (wave net feed t) s) in
      ap (filter (before t)) (w s k)
      ∙ filter_inner (before t) (before t) z (λ e h. h)
      ∙ sym (filter_inner (before t) (before (suc t)) z (λ e h. lt-ltb (moment net.header.period e.key) (suc t) (let lt = ltb-true (moment net.header.period e.key) t h in omega (arith, lt))))
      ∙ sym (ap (filter (before t)) (next s k)) in
      next r l
      ∙ filter_sort (before (suc t)) (due net feed (wave net feed t) r)
      ∙ ap (λ es. sort es) (due_before t (wave net feed t) (wave net feed (suc t)) here there same r)
      ∙ sym (filter_sort (before (suc t)) (due net feed (wave net feed (suc t)) r))

  first_wave : IsWave 0
  unfolding wave
  first_wave r l =
      sym (filter_none (before 0) (sort (due net feed (wave net feed 0) r)) (all_of (sort (due net feed (wave net feed 0) r)) (λ e. le-ltb (moment net.header.period e.key) 0 (omega arith))))

  is_wave : (t : ℕ) → IsWave t
  is_wave zero = first_wave
  is_wave (suc t) = wave_from t (is_wave t)

  pub lockstep_is : (r : ℕ) → Inside r → lockstep net feed r ≡ sort (due net feed (lockstep net feed) r)
  unfolding lockstep
  lockstep_is r l =
      let t = net.header.groups * net.header.period in
      is_wave t r l ∙ all_before (sort (due net feed (wave net feed t) r)) (due_sort_fine (wave net feed t) r).0

  -- ---- the law

  pub lockstep_fine : (r : ℕ) → Inside r → IsFine (lockstep net feed r)
  lockstep_fine r l = subst IsFine (sym (lockstep_is r l)) (due_sort_fine (lockstep net feed) r)

  pub lockstep_settled : IsSettled net feed (lockstep net feed)
  lockstep_settled = record {
    sorted = λ r l. sorted_from_rises event_cmp event_total (lockstep net feed r) (lockstep_fine r l).1;
    complete = λ r l. subst (λ es. IsPermutation (due net feed (lockstep net feed) r) es) (sym (lockstep_is r l)) (permutation_in_order event_cmp (due net feed (lockstep net feed) r));
  }

  settled_solves : (f : Family) → IsSettled net feed f → Solves everything f
  settled_solves f s r l =
      in_order_is event_cmp event_total event_same (due net feed f r) (f r) (s.complete r l) (rises_from_sorted event_cmp event_total (f r) (s.sorted r l))
      ∙ ap (λ es. sort es) (sym (filter_everything (due net feed f r)))

  pub no_other_settled : (f : Family) → IsSettled net feed f → AreSame net feed f (lockstep net feed)
  no_other_settled f s r l =
      solves_same everything f (lockstep net feed) (settled_solves f s) (settled_solves (lockstep net feed) lockstep_settled) r l

  -- ---- up to a cut

  -- what is due up to a cut hangs on the histories up to it
  pub due_up_to : (q : Event → Bool) → IsCut q → (f : Family) → ((r : ℕ) → Inside r → IsFine (f r)) → (r : ℕ) → filter q (due net feed f r) ≡ filter q (due net feed (λ s. filter q (f s)) r)
  due_up_to q cut f fine r =
      same_due net feed Timely q q (cut_carries q cut) f (λ s. filter q (f s))
      (λ s k. ((fine s k).0, cut_falls q cut (f s) (fine s k)))
      (λ s k. let h = filter_fine q (f s) (fine s k) in (h.0, cut_falls q cut (filter q (f s)) h))
      (λ s k. sym (filter_inner q q (f s) (λ e h. h)))
      r

  pub lockstep_up_to : (q : Event → Bool) → IsCut q → Solves q (λ s. filter q (lockstep net feed s))
  lockstep_up_to q cut r l =
      ap (filter q) (lockstep_is r l)
      ∙ filter_sort q (due net feed (lockstep net feed) r)
      ∙ ap (λ es. sort es) (due_up_to q cut (lockstep net feed) lockstep_fine r)

  -- a sorted family that has what is due of it up to a cut is the lockstep lists up to the cut
  pub same_up_to : (q : Event → Bool) → IsCut q → (f : Family) → ((r : ℕ) → Inside r → IsSorted event_cmp (f r)) → ((r : ℕ) → Inside r → IsPermutation (filter q (due net feed f r)) (f r)) → (r : ℕ) → Inside r → f r ≡ filter q (lockstep net feed r)
  same_up_to q cut f rises complete r l =
      solves_same q f (λ s. filter q (lockstep net feed s))
      (λ s k.
      in_order_is event_cmp event_total event_same (filter q (due net feed f s)) (f s) (complete s k) (rises_from_sorted event_cmp event_total (f s) (rises s k)))
      (lockstep_up_to q cut) r l

  -- ---- below a key

  pub lockstep_settled_below : (bound : Key) → IsSettledBelow net feed bound (lockstep net feed)
  unfolding below
  lockstep_settled_below bound = record {
    sorted = λ r l.
        sorted_from_rises event_cmp event_total (filter (is_below bound) (lockstep net feed r))
        (filter_fine (is_below bound) (lockstep net feed r) (lockstep_fine r l)).1;
    prefix = λ r l. filter_front (is_below bound) (lockstep net feed r) (cut_falls (is_below bound) (below_cut bound) (lockstep net feed r) (lockstep_fine r l));
    complete = λ r l.
        subst (λ es. IsPermutation (filter (is_below bound) (due net feed (λ s. filter (is_below bound) (lockstep net feed s)) r)) es) (sym (lockstep_up_to (is_below bound) (below_cut bound) r l))
        (permutation_in_order event_cmp (filter (is_below bound) (due net feed (λ s. filter (is_below bound) (lockstep net feed s)) r)));
  }

  pub no_other_settled_below : (bound : Key) (f : Family) → IsSettledBelow net feed bound f → (r : ℕ) → Inside r → below bound (f r) ≡ below bound (lockstep net feed r)
  unfolding below
  no_other_settled_below bound f s r l =
      same_up_to (is_below bound) (below_cut bound) (λ s. filter (is_below bound) (f s)) s.sorted s.complete r l
