-- Sorted lists by what stands in them.
use Rattle.std.proofs.Common.{◌≡◌, ◌+◌, ◌<◌, Bool, true, false, List, [], ◌∷◌, refl, sym, ap, ◌∙◌, subst, arith}
use Rattle.std.specs.List.{AllByRecursion}
use Rattle.std.specs.Ordering.{is_gt, is_eq, match_ordering}
use Rattle.std.specs.declared.cmp.Ordering.{Ordering}
use Rattle.std.specs.declared.cmp.Ordering.TheVariants.{Less, Equal, Greater}
use Rattle.std.specs.BTreeSet.{insert_key}
use Rattle.std.proofs.lemmas.Bool.{both_ways, false≢true}
use Rattle.dn_lists.specs.InOrder.{put_in_order, in_order}
use Rattle.dn_lists.proofs.Lists.{by_test}
use Rattle.std.specs.List.Sorted.{IsSorted}
use Rattle.dn_lists.proofs.Sorting.{one_if, rises_from_sorted, sorted_from_rises, count, count_permutation, permutation_put, rises_same, rises_in_order, count_in_order, all_in_order}
use Rattle.dn_model.specs.declared.event.Event.{Event}
use Rattle.dn_model.specs.Order.{event_cmp, event_total, sorted}
use Rattle.dn_model.proofs.EventOrder.{event_same}
use Rattle.dn_model.proofs.Waves.{IsRising}
use Rattle.dn_world.specs.World.{is_same, stands, without}
use Rattle.dn_world.proofs.Parts.{absent_none, count_without, all_without}

pub sorted_rises : (xs : List Event) → IsRising (sorted xs)
unfolding sorted
sorted_rises xs = rises_in_order event_cmp event_total xs

pub count_sorted : (p : Event → Bool) (xs : List Event) → count p (sorted xs) ≡ count p xs
unfolding sorted
count_sorted p xs = count_in_order event_cmp event_total event_same p xs

-- a rising list is the sorted list of what has the same counts
pub sorted_is : (xs ys : List Event) → IsRising ys → ((p : Event → Bool) → count p xs ≡ count p ys) → sorted xs ≡ ys
sorted_is xs ys r c = rises_same event_cmp event_total event_same (sorted xs) ys (sorted_rises xs) r (λ p. count_sorted p xs ∙ c p)

pub sorted_same : (xs ys : List Event) → ((p : Event → Bool) → count p xs ≡ count p ys) → sorted xs ≡ sorted ys
sorted_same xs ys c = sorted_is xs (sorted ys) (sorted_rises ys) (λ p. c p ∙ sym (count_sorted p ys))

pub count_put : (p : Event → Bool) (e : Event) (xs : List Event) → count p (put_in_order event_cmp e xs) ≡ one_if (p e) + count p xs
count_put p e xs = count_permutation p (e ∷ xs) (put_in_order event_cmp e xs) (permutation_put event_cmp e xs)

-- what doesn't stand in a list differs from its first event, and doesn't stand in the rest
pub absent_parts : (e x : Event) (xs : List Event) → stands e (x ∷ xs) ≡ false → (is_same e x ≡ false) × (stands e xs ≡ false)
unfolding stands
absent_parts e x xs h =
    by_test (is_same e x)
    (λ g. absurd (let k : true ≡ false = (simp g at h) in cc))
    (λ g. (g, (simp g at h)))

pub count_insert : (p : Event → Bool) (e : Event) (xs : List Event) → stands e xs ≡ false → count p (insert_key event_cmp xs e) ≡ one_if (p e) + count p xs
count_insert p e [] h = refl
count_insert p e (x ∷ xs) h = by_cases (event_cmp e x) refl (count_insert p e xs (absent_parts e x xs h).1)
  where
    by_cases : (r : Ordering) → event_cmp e x ≡ r → count p (insert_key event_cmp xs e) ≡ one_if (p e) + count p xs → count p (insert_key event_cmp (x ∷ xs) e) ≡ one_if (p e) + count p (x ∷ xs)
    by_cases Less g ih = ap (λ r. count p (match_ordering r (e ∷ x ∷ xs) (x ∷ xs) (x ∷ insert_key event_cmp xs e))) g
    by_cases Equal g ih = absurd (false≢true (sym (absent_parts e x xs h).0 ∙ ap is_eq g))
    by_cases Greater g ih =
        ap (λ r. count p (match_ordering r (e ∷ x ∷ xs) (x ∷ xs) (x ∷ insert_key event_cmp xs e))) g ∙ (omega (arith, ih))

-- ---- what stands in a list, by counts

pub counted_stands : (e : Event) (xs : List Event) → 0 < count (is_same e) xs → stands e xs ≡ true
counted_stands e xs h =
    by_test (stands e xs) (λ g. g) (λ g. let none = absent_none e xs g in absurd (omega (arith, h, none)))

pub stands_counted : (e : Event) (xs : List Event) → stands e xs ≡ true → 0 < count (is_same e) xs
unfolding stands
stands_counted e [] h = absurd (false≢true h)
stands_counted e (x ∷ xs) h =
    by_test (is_same e x)
    (λ g. simp g (omega arith))
    (λ g. let k : stands e xs ≡ true = (simp g at h) in simp g (let ih = stands_counted e xs k in omega (arith, ih)))

pub stands_same : (e : Event) (xs ys : List Event) → count (is_same e) xs ≡ count (is_same e) ys → stands e xs ≡ stands e ys
stands_same e xs ys c =
    by_test (stands e xs)
    (λ g. let n = stands_counted e xs g in g ∙ sym (counted_stands e ys (omega (arith, n, c))))
    (λ g. by_test (stands e ys) (λ k. let n = stands_counted e ys k in absurd (both_ways (stands e xs) g (counted_stands e xs (omega (arith, n, c))))) (λ k. g ∙ sym k))

pub stands_sorted : (e : Event) (xs : List Event) → stands e (sorted xs) ≡ stands e xs
stands_sorted e xs = stands_same e (sorted xs) xs (count_sorted (is_same e) xs)

-- ---- one event less

rises_without : (e : Event) (xs : List Event) → IsRising xs → IsRising (without e xs)
unfolding without
rises_without e [] r = tt
rises_without e (x ∷ xs) r =
    by_test (is_same e x) (λ g. simp g r.1) (λ g. simp g (all_without (λ y. is_gt (event_cmp x y) ≡ false) e xs r.0, rises_without e xs r.1))

pub sorted_without : (e : Event) (xs ys : List Event) → stands e xs ≡ true → ((p : Event → Bool) → one_if (p e) + count p ys ≡ count p xs) → sorted ys ≡ without e (sorted xs)
sorted_without e xs ys h c =
    sorted_is ys (without e (sorted xs)) (rises_without e (sorted xs) (sorted_rises xs))
    (λ p.
    let a = count_without p e (sorted xs) (stands_sorted e xs ∙ h) in
    let b = count_sorted p xs in
    let d = c p in
    omega (arith, a, b, d))

-- ---- the least

put_front : (k : Event) (ys : List Event) → AllByRecursion (λ y. is_gt (event_cmp k y) ≡ false) ys → put_in_order event_cmp k ys ≡ k ∷ ys
put_front k [] a = refl
put_front k (y ∷ ys) a = let g = a.0 in simp g

pub front_least : (k : Event) (rest : List Event) → AllByRecursion (λ y. is_gt (event_cmp k y) ≡ false) rest → sorted (k ∷ rest) ≡ k ∷ sorted rest
unfolding sorted
front_least k rest a = put_front k (in_order event_cmp rest) (all_in_order event_cmp (λ y. is_gt (event_cmp k y) ≡ false) rest a)

-- ---- lists that stay in order

pub put_rises : (e : Event) (xs : List Event) → IsRising xs → IsRising (put_in_order event_cmp e xs)
unfolding sorted
put_rises e xs r =
    let same : sorted xs ≡ xs = sorted_is xs xs r (λ p. refl) in
    subst (λ l. IsRising (put_in_order event_cmp e l)) same (sorted_rises (e ∷ xs))

pub put_sorted : (e : Event) (xs : List Event) → IsSorted event_cmp xs → IsSorted event_cmp (put_in_order event_cmp e xs)
put_sorted e xs s = sorted_from_rises event_cmp event_total (put_in_order event_cmp e xs) (put_rises e xs (rises_from_sorted event_cmp event_total xs s))

pub without_sorted : (e : Event) (xs : List Event) → IsSorted event_cmp xs → IsSorted event_cmp (without e xs)
without_sorted e xs s = sorted_from_rises event_cmp event_total (without e xs) (rises_without e xs (rises_from_sorted event_cmp event_total xs s))
