-- Entries in ascending order of their places.
use Rattle.std.proofs.Common.{◌≡◌, ℕ, suc, ◌<◌, ◌≤◌, true, false, [], ◌∷◌, ◌++◌, length, max, refl, sym, ap, ◌∙◌, subst, arith}
use Rattle.std.specs.Prelude.{nat_le, nat_lt, Some, slice_get}
use Rattle.std.specs.List.{All, AllByRecursion}
use Rattle.std.specs.List.Sorted.{IsStrictlySortedBy}
use Rattle.std.specs.Ordering.{nat_cmp, is_lt, is_gt, is_eq}
use Rattle.std.specs.declared.cmp.Ordering.{Ordering}
use Rattle.std.specs.declared.cmp.Ordering.TheVariants.{Less, Equal, Greater}
use Rattle.std.specs.declared.ops.Bound.TheVariants.{Included, Unbounded}
use Rattle.std.specs.BTreeMap.Range.{range_contains, entries_between}
use Rattle.std.specs.Cmp.{ranked}
use Rattle.std.specs.Map.{keys_of}
use Rattle.std.proofs.lemmas.Bool.{ltb-false, leb-true, leb-false, false≢true}
use Rattle.std.proofs.lemmas.Map.Keys.{le_from_not_gt, ge_from_not_lt}
use Rattle.std.specs.Ordering.{MatchOrdering}
use Rattle.dn_guest.specs.declared.node.Node.{Node}
use Rattle.dn_lists.proofs.Lists.{by_test, Pairs, all_weaker, filter_same, filter_all, pairs_filter}
use Rattle.dn_ckpt.specs.Shelves.{Kept, kept_at, kept_up_to, kept_from, base_place}

-- ---- tests of numbers

pub le_is : (n m : ℕ) → n ≤ m → nat_le n m ≡ true
le_is n m h = by_test (nat_le n m) (λ g. g) (λ g. absurd (let k = leb-false n m g in omega (arith, k, h)))

pub not_le : (n m : ℕ) → m < n → nat_le n m ≡ false
not_le n m h = by_test (nat_le n m) (λ g. absurd (let k = leb-true n m g in omega (arith, k, h))) (λ g. g)

below_is : (n m : ℕ) → is_lt (nat_cmp n m) ≡ true → n < m
below_is n m h = from_test (nat_cmp n m) (ranked n m (nat_cmp n m) refl) h
  where
    from_test : (r : Ordering) → MatchOrdering r (n < m) (n ≡ m) (m < n) → is_lt r ≡ true → n < m
    from_test Less k e = k
    from_test Equal k e = absurd (false≢true e)
    from_test Greater k e = absurd (false≢true e)

less_is : (a b : ℕ) → nat_cmp a b ≡ Less → a < b
less_is a b h = from_less (nat_cmp a b) (ranked a b (nat_cmp a b) refl) h
  where
    from_less : (r : Ordering) → MatchOrdering r (a < b) (a ≡ b) (b < a) → r ≡ Less → a < b
    from_less Less m e = m
    from_less Equal m e = absurd (cc)
    from_less Greater m e = absurd (cc)

equal_is : (n m : ℕ) → is_eq (nat_cmp n m) ≡ true → n ≡ m
equal_is n m h = from_test (nat_cmp n m) (ranked n m (nat_cmp n m) refl) h
  where
    from_test : (r : Ordering) → MatchOrdering r (n < m) (n ≡ m) (m < n) → is_eq r ≡ true → n ≡ m
    from_test Less k e = absurd (false≢true e)
    from_test Equal k e = k
    from_test Greater k e = absurd (false≢true e)

-- ---- all of them

module _ {S : Type 0} where
  from_all : (P : ℕ → Type 0) (es : Kept S) → All P (keys_of es) → AllByRecursion (λ e. P e.0) es
  from_all P [] h = tt
  from_all P (e ∷ es) h = (h 0 e.0 (omega arith), from_all P es (λ k d l. h (suc k) d (omega (arith, l))))

  pub all_up_to : (place at : ℕ) (es : Kept S) → nat_lt place at ≡ false → All (λ q. is_lt (nat_cmp at q) ≡ false) (keys_of es) → kept_up_to place es ≡ es
  all_up_to place at es l h =
      let m = ltb-false place at l in
      filter_all (λ e. nat_le e.0 place) es
      (all_weaker (λ e. is_lt (nat_cmp at e.0) ≡ false) (λ e. nat_le e.0 place ≡ true) es (λ e g. let k = ge_from_not_lt at e.0 g in le_is e.0 place (omega (arith, k, m))) (from_all (λ q. is_lt (nat_cmp at q) ≡ false) es h))

  pub all_from : (place at : ℕ) (es : Kept S) → nat_lt at place ≡ false → All (λ q. is_gt (nat_cmp at q) ≡ false) (keys_of es) → kept_from place es ≡ es
  all_from place at es l h =
      let m = ltb-false at place l in
      filter_all (λ e. nat_le place e.0) es
      (all_weaker (λ e. is_gt (nat_cmp at e.0) ≡ false) (λ e. nat_le place e.0 ≡ true) es (λ e g. let k = le_from_not_gt at e.0 g in le_is place e.0 (omega (arith, k, m))) (from_all (λ q. is_gt (nat_cmp at q) ≡ false) es h))

  -- ---- the base

  abbrev Ascends : Kept S → Type 0
  Ascends es = Pairs (λ x y. x.0 < y.0) es

  ascend : (es : Kept S) → IsStrictlySortedBy nat_cmp (keys_of es) → Ascends es
  unfolding IsStrictlySortedBy
  ascend [] s = tt
  ascend (e ∷ es) s = (first es s.0, ascend es s.1)
    where
      first : (xs : Kept S) → AllByRecursion (λ k. nat_cmp e.0 k ≡ Less) (keys_of xs) → AllByRecursion (λ y. e.0 < y.0) xs
      first [] a = tt
      first (x ∷ xs) a = (less_is e.0 x.0 a.0, first xs a.1)

  base_kept : (place : ℕ) (es : Kept S) → base_place place (kept_up_to place es) ≡ base_place place es
  unfolding base_place
  base_kept place [] = refl
  base_kept place (e ∷ es) =
      by_test (nat_le e.0 place) (λ g. simp (g, g) (ap (max e.0) (base_kept place es))) (λ g. simp g (base_kept place es))

  base_last : (place : ℕ) (es : Kept S) (e : ℕ × Node S) → AllByRecursion (λ x. nat_le x.0 place ≡ true) (es ++ e ∷ []) → Ascends (es ++ e ∷ []) → base_place place (es ++ e ∷ []) ≡ e.0
  unfolding base_place
  base_last place [] e a s = let g = a.0 in simp g (omega arith)
  base_last place (x ∷ xs) e a s =
      let g = a.0 in
      let ih = base_last place xs e a.1 s.1 in
      let l = last_of (λ y. x.0 < y.0) xs e s.0 in
      simp g (ap (max x.0) ih ∙ (let m : max x.0 e.0 ≡ e.0 = omega (arith, l) in m))
    where
      last_of : (P : ℕ × Node S → Type 0) (ys : Kept S) (y : ℕ × Node S) → AllByRecursion P (ys ++ y ∷ []) → P y
      last_of P [] y a = a.0
      last_of P (z ∷ zs) y a = last_of P zs y a.1

  all_kept : (place : ℕ) (es : Kept S) → AllByRecursion (λ x. nat_le x.0 place ≡ true) (kept_up_to place es)
  all_kept place [] = tt
  all_kept place (e ∷ es) = by_test (nat_le e.0 place) (λ g. simp g (refl, all_kept place es)) (λ g. simp g (all_kept place es))

  between_is : (place : ℕ) (es : Kept S) → entries_between nat_cmp Unbounded (Included place) es ≡ kept_up_to place es
  between_is place es = filter_same (λ e. range_contains nat_cmp Unbounded (Included place) e.0) (λ e. nat_le e.0 place) es (each es)
    where
      each : (xs : Kept S) → AllByRecursion (λ e. range_contains nat_cmp Unbounded (Included place) e.0 ≡ nat_le e.0 place) xs
      each [] = tt
      each (x ∷ xs) = (
        by_test (is_lt (nat_cmp place x.0))
            (λ g. simp g (sym (not_le x.0 place (below_is place x.0 g))))
            (λ g. simp g (sym (le_is x.0 place (ge_from_not_lt place x.0 g)))),
        each xs,
      )

  pub base_is : (place : ℕ) (es others : Kept S) (e : ℕ × Node S) (range : Kept S) → IsStrictlySortedBy nat_cmp (keys_of es) → range ≡ entries_between nat_cmp Unbounded (Included place) es → range ≡ others ++ e ∷ [] → e.0 ≡ base_place place es
  base_is place es others e range s b r =
      let is : kept_up_to place es ≡ others ++ e ∷ [] = sym (between_is place es) ∙ sym b ∙ r in
      let all = subst (AllByRecursion (λ x. nat_le x.0 place ≡ true)) is (all_kept place es) in
      let up = subst Ascends is (pairs_filter (λ x y. x.0 < y.0) (λ x. nat_le x.0 place) es (ascend es s)) in
      sym (base_last place others e all up) ∙ ap (base_place place) (sym is) ∙ base_kept place es

  -- where there is a base, some entry isn't past the place
  pub none_up_to : (place : ℕ) (es range : Kept S) → range ≡ entries_between nat_cmp Unbounded (Included place) es → range ≡ [] → 0 < length (kept_up_to place es) → ⊥
  none_up_to place es range b r h =
      let is : kept_up_to place es ≡ [] = sym (between_is place es) ∙ sym b ∙ r in
      let none = ap length is in
      omega (arith, none, h)

  -- ---- the least place

  pub has_base : (place at : ℕ) (es : Kept S) (node : Node S) → slice_get es 0 ≡ Some (at, node) → at ≤ place → 0 < length (kept_up_to place es)
  has_base place at [] node got l = absurd (cc)
  has_base place at (e ∷ es) node got l =
      let same : e ≡ (at, node) = cc in
      let here : e.0 ≡ at = ap (λ x. x.0) same in
      let g : nat_le e.0 place ≡ true = ap (λ n. nat_le n place) here ∙ le_is at place l in
      simp g (omega arith)

  pub least_is : (at : ℕ) (es : Kept S) (node : Node S) → slice_get es 0 ≡ Some (at, node) → slice_get (keys_of es) 0 ≡ Some at
  least_is at [] node got = absurd (cc)
  least_is at (e ∷ es) node got = let same : e ≡ (at, node) = cc in ap (λ x. Some x.0) same

  -- what is kept from a kept place on
  pub some_from : (base : ℕ) (es : Kept S) (node : Node S) → kept_at es base ≡ Some node → 0 < length (kept_from base es)
  some_from base [] node h = absurd (cc)
  some_from base (e ∷ es) node h =
      by_test (nat_le base e.0)
      (λ g. simp g (omega arith))
      (λ g.
      let past = leb-false base e.0 g in
      let other : is_eq (nat_cmp base e.0) ≡ false = by_test (is_eq (nat_cmp base e.0)) (λ k. absurd (let same = equal_is base e.0 k in omega (arith, same, past))) (λ k. k) in
      let rest : kept_at es base ≡ Some node = simp other at h in
      simp g (some_from base es node rest))
