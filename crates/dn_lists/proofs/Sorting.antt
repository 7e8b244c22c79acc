-- Lists in a total order that tells all elements apart: a sort gives the one rising list with those elements.
use Rattle.std.proofs.Common.{◌≡◌, ℕ, zero, suc, ◌+◌, ◌<◌, Bool, true, false, cond, not, ◌&&◌, List, [], ◌∷◌, ◌++◌, length, get_or, refl, sym, ap, ◌∙◌, subst, arith, add-one}
use Rattle.std.specs.List.{filter, AllByRecursion, sum_by}
use Rattle.std.specs.List.Sorted.{IsPermutation, IsSorted}
use Rattle.std.specs.Ordering.{is_lt, is_gt, ordering_reverse}
use Rattle.std.specs.declared.cmp.Ordering.{Ordering}
use Rattle.std.specs.declared.cmp.Ordering.TheVariants.{Less, Equal, Greater}
use Rattle.std.specs.Cmp.{IsTotalOrder, upto, tied_itself}
use Rattle.std.specs.FinMap.{IsAntisymmetric}
use Rattle.std.proofs.lemmas.Bool.{both_ways, false≢true}
use Rattle.std.proofs.lemmas.List.Sorted.{IsPermutation-refl, IsPermutation-sym, IsPermutation-trans, IsPermutation-cons, IsPermutation-middle, sum_by-IsPermutation}
use Rattle.std.proofs.lemmas.List.Sums.{sum_by-cons}
use Rattle.dn_lists.specs.InOrder.{put_in_order, in_order}
use Rattle.dn_lists.proofs.Lists.{by_test, Pairs, all_weaker, pairs_filter}

abbrev pub one_if : Bool → ℕ
one_if b = cond b 1 0

module _ {X : Type 0} where
  -- how many elements pass p
  abbrev pub count : (X → Bool) → List X → ℕ
  count p [] = 0
  count p (x ∷ xs) = cond (p x) 1 0 + count p xs

  pub count_is_sum : (p : X → Bool) (xs : List X) → count p xs ≡ sum_by (λ x. cond (p x) 1 0) xs
  count_is_sum p [] = refl
  count_is_sum p (x ∷ xs) = ap (λ n. cond (p x) 1 0 + n) (count_is_sum p xs) ∙ sym (sum_by-cons (λ x. cond (p x) 1 0) x xs)

  pub count_permutation : (p : X → Bool) (xs ys : List X) → IsPermutation xs ys → count p ys ≡ count p xs
  count_permutation p xs ys h =
      count_is_sum p ys ∙ sum_by-IsPermutation (λ x. cond (p x) 1 0) xs ys h ∙ sym (count_is_sum p xs)

  pub count_none : (p : X → Bool) (xs : List X) → AllByRecursion (λ x. p x ≡ false) xs → count p xs ≡ 0
  count_none p [] a = refl
  count_none p (x ∷ xs) a = let h = a.0 in simp h (let ih = count_none p xs a.1 in omega arith)

  pub count_filter : (p q : X → Bool) (xs : List X) → count p (filter q xs) ≡ count (λ x. q x && p x) xs
  count_filter p q [] = refl
  count_filter p q (x ∷ xs) =
      let ih = count_filter p q xs in
      by_test (q x) (λ h. simp h (ap (λ n. cond (p x) 1 0 + n) ih)) (λ h. simp h (let e : count p (filter q xs) ≡ 0 + count (λ x. q x && p x) xs = omega arith in e))

  pub count_append : (p : X → Bool) (xs ys : List X) → count p (xs ++ ys) ≡ count p xs + count p ys
  count_append p [] ys = omega arith
  count_append p (x ∷ xs) ys = omega (arith, count_append p xs ys)

  -- what passes q and what passes r are apart, and together pass s
  pub count_split : (p q r s : X → Bool) (xs : List X) → ((x : X) → q x ≡ true → (s x ≡ true) × (r x ≡ false)) → ((x : X) → q x ≡ false → r x ≡ s x) → count p (filter q xs) + count p (filter r xs) ≡ count p (filter s xs)
  count_split p q r s [] hi lo = refl
  count_split p q r s (x ∷ xs) hi lo =
      let ih = count_split p q r s xs hi lo in
      by_test (q x)
      (λ a. let b : s x ≡ true = (hi x a).0 in let c : r x ≡ false = (hi x a).1 in simp (a, b, c) (omega (arith, ih)))
      (λ a. let e : r x ≡ s x = lo x a in rw e (by_test (s x) (λ b. simp (a, b) (omega (arith, ih))) (λ b. simp (a, b) (omega (arith, ih)))))

  pub all_put : (cmp : X → X → Ordering) (P : X → Type 0) (x : X) (ys : List X) → P x → AllByRecursion P ys → AllByRecursion P (put_in_order cmp x ys)
  all_put cmp P x [] h a = (h, tt)
  all_put cmp P x (y ∷ ys) h a = by_test (is_gt (cmp x y)) (λ g. rw g (a.0, all_put cmp P x ys h a.1)) (λ g. rw g (h, a))

  pub all_in_order : (cmp : X → X → Ordering) (P : X → Type 0) (xs : List X) → AllByRecursion P xs → AllByRecursion P (in_order cmp xs)
  all_in_order cmp P [] a = tt
  all_in_order cmp P (x ∷ xs) a = all_put cmp P x (in_order cmp xs) a.0 (all_in_order cmp P xs a.1)

  pub permutation_put : (cmp : X → X → Ordering) (x : X) (ys : List X) → IsPermutation (x ∷ ys) (put_in_order cmp x ys)
  permutation_put cmp x [] = IsPermutation-refl (x ∷ [])
  permutation_put cmp x (y ∷ ys) =
      by_test (is_gt (cmp x y))
      (λ g.
      rw g
      (IsPermutation-trans (x ∷ y ∷ ys) (y ∷ x ∷ ys) (y ∷ put_in_order cmp x ys)
      (IsPermutation-sym (y ∷ x ∷ ys) (x ∷ y ∷ ys) (IsPermutation-middle (y ∷ []) x ys))
      (IsPermutation-cons y (x ∷ ys) (put_in_order cmp x ys) (permutation_put cmp x ys))))
      (λ g. rw g (IsPermutation-refl (x ∷ y ∷ ys)))

  -- a sort only moves elements
  pub permutation_in_order : (cmp : X → X → Ordering) (xs : List X) → IsPermutation xs (in_order cmp xs)
  permutation_in_order cmp [] = IsPermutation-refl []
  permutation_in_order cmp (x ∷ xs) =
      IsPermutation-trans (x ∷ xs) (x ∷ in_order cmp xs) (put_in_order cmp x (in_order cmp xs))
      (IsPermutation-cons x xs (in_order cmp xs) (permutation_in_order cmp xs)) (permutation_put cmp x (in_order cmp xs))

turned : (r : Ordering) → is_gt (ordering_reverse r) ≡ is_lt r
turned Less = refl
turned Equal = refl
turned Greater = refl

not_both : (r : Ordering) → is_gt r ≡ true → is_lt r ≡ false
not_both Less h = absurd (false≢true h)
not_both Equal h = refl
not_both Greater h = refl

pub equal_from : (r : Ordering) → is_gt r ≡ false → is_lt r ≡ false → r ≡ Equal
equal_from Less h k = absurd (false≢true (sym k))
equal_from Equal h k = refl
equal_from Greater h k = absurd (false≢true (sym h))

module _ {X : Type 0} (cmp : X → X → Ordering) where
  -- no element is greater than a later one
  abbrev pub Rises : List X → Type 0
  Rises xs = Pairs (λ x y. is_gt (cmp x y) ≡ false) xs

  module _ (o : IsTotalOrder cmp) where
    pub turn : (x y : X) → is_gt (cmp y x) ≡ is_lt (cmp x y)
    turn x y = ap is_gt (o.antisymm y x) ∙ turned (cmp x y)

    rises_put : (x : X) (ys : List X) → Rises ys → Rises (put_in_order cmp x ys)
    rises_put x [] r = (tt, tt)
    rises_put x (y ∷ ys) r =
        by_test (is_gt (cmp x y))
        (λ g. rw g (all_put cmp (λ z. is_gt (cmp y z) ≡ false) x ys (turn x y ∙ not_both (cmp x y) g) r.0, rises_put x ys r.1))
        (λ g. rw g ((g, all_weaker (λ z. is_gt (cmp y z) ≡ false) (λ z. is_gt (cmp x z) ≡ false) ys (λ z k. upto o x y z g k) r.0), r))

    pub rises_in_order : (xs : List X) → Rises (in_order cmp xs)
    rises_in_order [] = tt
    rises_in_order (x ∷ xs) = rises_put x (in_order cmp xs) (rises_in_order xs)

    pub rises_from_sorted : (xs : List X) → IsSorted cmp xs → Rises xs
    rises_from_sorted [] s = tt
    rises_from_sorted (x ∷ []) s = (tt, tt)
    rises_from_sorted (x ∷ y ∷ ys) s =
        let first : is_lt (cmp y x) ≡ false = s 0 x (omega arith) (omega arith) in
        let le : is_gt (cmp x y) ≡ false = turn y x ∙ first in
        let rest = rises_from_sorted (y ∷ ys) (λ k d a b. rest_of x y ys s k d b) in
        ((le, all_weaker (λ z. is_gt (cmp y z) ≡ false) (λ z. is_gt (cmp x z) ≡ false) ys (λ z k. upto o x y z le k) rest.0), rest)
      where
        rest_of : (x y : X) (ys : List X) → IsSorted cmp (x ∷ y ∷ ys) → (k : ℕ) (d : X) → k + 1 < length (y ∷ ys) → is_lt (cmp (get_or (y ∷ ys) (k + 1) d) (get_or (y ∷ ys) k d)) ≡ false
        rest_of x y ys s k d b =
            let h = s (suc k) d (omega arith) (omega arith) in
            let e : suc k + 1 ≡ suc (k + 1) = omega arith in
            let P : ℕ → Type 0 = λ n. is_lt (cmp (get_or (x ∷ y ∷ ys) n d) (get_or (y ∷ ys) k d)) ≡ false in
            subst P e h

    rises_at : (xs : List X) → Rises xs → (k : ℕ) (d : X) → suc k < length xs → is_lt (cmp (get_or xs (suc k) d) (get_or xs k d)) ≡ false
    rises_at [] r k d h = absurd (omega arith)
    rises_at (x ∷ []) r k d h = absurd (omega arith)
    rises_at (x ∷ y ∷ ys) r zero d h = sym (turn y x) ∙ r.0.0
    rises_at (x ∷ y ∷ ys) r (suc k) d h = rises_at (y ∷ ys) r.1 k d (omega arith)

    pub sorted_from_rises : (xs : List X) → Rises xs → IsSorted cmp xs
    sorted_from_rises xs r = λ k d a b. rw add-one (rises_at xs r k d (omega arith))

    module _ (same : IsAntisymmetric cmp) where
      above_too : (x y z : X) → is_gt (cmp x y) ≡ true → is_gt (cmp x z) ≡ false → is_gt (cmp z y) ≡ true
      above_too x y z g h = by_test (is_gt (cmp z y)) (λ k. k) (λ k. absurd (both_ways (is_gt (cmp x y)) (upto o x z y h k) g))

      -- a list with y has no least element above y
      not_above : (x y : X) (xs ys : List X) → Rises (x ∷ xs) → ((p : X → Bool) → count p (x ∷ xs) ≡ count p (y ∷ ys)) → is_gt (cmp x y) ≡ false
      not_above x y xs ys r c =
          by_test (is_gt (cmp x y))
          (λ g.
          let p : X → Bool = λ z. not (is_gt (cmp z y)) in
          let none = count_none p (x ∷ xs) (ap not g, all_weaker (λ z. is_gt (cmp x z) ≡ false) (λ z. p z ≡ false) xs (λ z h. ap not (above_too x y z g h)) r.0) in
          let here : one_if (p y) ≡ 1 = ap (λ r. one_if (not (is_gt r))) (tied_itself o y) in
          absurd (omega (arith, none, here, c p)))
          (λ g. g)

      -- two rising lists with the same elements are the same
      pub rises_same : (xs ys : List X) → Rises xs → Rises ys → ((p : X → Bool) → count p xs ≡ count p ys) → xs ≡ ys
      rises_same [] [] r s c = refl
      rises_same [] (y ∷ ys) r s c = absurd (omega (arith, c (λ _. true)))
      rises_same (x ∷ xs) [] r s c = absurd (omega (arith, c (λ _. true)))
      rises_same (x ∷ xs) (y ∷ ys) r s c =
          let a = not_above x y xs ys r c in
          let b = not_above y x ys xs s (λ p. sym (c p)) in
          let e : x ≡ y = same x y (equal_from (cmp x y) a (sym (turn x y) ∙ b)) in
          let rest : xs ≡ ys = rises_same xs ys r.1 s.1 (λ p. let h : one_if (p x) ≡ one_if (p y) = ap (λ z. one_if (p z)) e in omega (arith, c p, h)) in
          λ i. e i ∷ rest i

      pub count_in_order : (p : X → Bool) (xs : List X) → count p (in_order cmp xs) ≡ count p xs
      count_in_order p xs = count_permutation p xs (in_order cmp xs) (permutation_in_order cmp xs)

      -- the sort of a list is its one rising rearrangement
      pub in_order_is : (xs ys : List X) → IsPermutation xs ys → Rises ys → ys ≡ in_order cmp xs
      in_order_is xs ys h r =
          rises_same ys (in_order cmp xs) r (rises_in_order xs) (λ p. count_permutation p xs ys h ∙ sym (count_in_order p xs))

      pub filter_in_order : (q : X → Bool) (xs : List X) → filter q (in_order cmp xs) ≡ in_order cmp (filter q xs)
      filter_in_order q xs =
          rises_same (filter q (in_order cmp xs)) (in_order cmp (filter q xs))
          (pairs_filter (λ x y. is_gt (cmp x y) ≡ false) q (in_order cmp xs) (rises_in_order xs))
          (rises_in_order (filter q xs))
          (λ p.
          count_filter p q (in_order cmp xs) ∙ count_in_order (λ x. q x && p x) xs ∙ sym (count_filter p q xs) ∙ sym (count_in_order p (filter q xs)))

      -- lists with the same counts have the same elements
      pub permutation_from_counts : (xs ys : List X) → ((p : X → Bool) → count p xs ≡ count p ys) → IsPermutation xs ys
      permutation_from_counts xs ys c =
          let e : in_order cmp xs ≡ in_order cmp ys = rises_same (in_order cmp xs) (in_order cmp ys) (rises_in_order xs) (rises_in_order ys) (λ p. count_in_order p xs ∙ c p ∙ sym (count_in_order p ys)) in
          let to : IsPermutation xs (in_order cmp ys) = subst (IsPermutation xs) e (permutation_in_order cmp xs) in
          IsPermutation-trans xs (in_order cmp ys) ys to (IsPermutation-sym ys (in_order cmp ys) (permutation_in_order cmp ys))
