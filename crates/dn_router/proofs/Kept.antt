-- The nodes that are kept from a place on.
use Rattle.std.proofs.Common.{◌≡◌, ℕ, ◌<◌, ◌≤◌, [], ◌∷◌, refl, sym, ap, arith}
use Rattle.std.specs.Prelude.{nat_le, Some}
use Rattle.std.specs.Ordering.{nat_cmp}
use Rattle.std.specs.declared.cmp.Ordering.TheVariants.{Less, Equal, Greater}
use Rattle.std.specs.Cmp.{nat_cmp_is}
use Rattle.std.proofs.lemmas.Bool.{leb-true, leb-false}
use Rattle.dn_guest.specs.declared.node.Node.{Node}
use Rattle.dn_lists.proofs.Lists.{by_test, filter_inner}
use Rattle.dn_ckpt.specs.Shelves.{Kept, kept_at, kept_from, kept_up_to, with_kept, base_place, HasBase}
use Rattle.dn_ckpt.proofs.Entries.{le_is}

cmp_before : (n m : ℕ) → n < m → nat_cmp n m ≡ Less
cmp_before n m h = sym (nat_cmp_is n m Less h)

pub cmp_same : (n m : ℕ) → n ≡ m → nat_cmp n m ≡ Equal
cmp_same n m h = sym (nat_cmp_is n m Equal h)

pub cmp_past : (n m : ℕ) → m < n → nat_cmp n m ≡ Greater
cmp_past n m h = sym (nat_cmp_is n m Greater h)

module _ {S : Type 0} where
  -- ---- a place at which a node is kept

  -- it has a base, as have those past it
  pub has_at : (q p : ℕ) (es : Kept S) (node : Node S) → kept_at es q ≡ Some node → q ≤ p → HasBase p es
  has_at q p [] node h l = absurd (cc)
  has_at q p (e ∷ es) node h l =
      by_test (nat_le e.0 p)
      (λ g. simp g (omega arith))
      (λ g.
      let past = leb-false e.0 p g in
      let k = cmp_before q e.0 (omega (arith, past, l)) in
      let rest : kept_at es q ≡ Some node = simp k at h in
      simp g (has_at q p es node rest l))

  base_within : (p : ℕ) (es : Kept S) → base_place p es ≤ p
  unfolding base_place
  base_within p [] = omega arith
  base_within p (e ∷ es) =
      let ih = base_within p es in
      by_test (nat_le e.0 p) (λ g. let l = leb-true e.0 p g in simp g (omega (arith, l, ih))) (λ g. simp g ih)

  -- it is its own base
  pub base_at : (p : ℕ) (es : Kept S) (node : Node S) → kept_at es p ≡ Some node → base_place p es ≡ p
  unfolding base_place
  base_at p [] node h = absurd (cc)
  base_at p (e ∷ es) node h =
      by_test (nat_le e.0 p)
      (λ g.
      let l = leb-true e.0 p g in
      by_test (nat_le p e.0)
      (λ k. let m = leb-true p e.0 k in let w = base_within p es in simp g (omega (arith, l, m, w)))
      (λ k.
      let m = leb-false p e.0 k in
      let past = cmp_past p e.0 m in
      let rest : kept_at es p ≡ Some node = simp past at h in
      let ih = base_at p es node rest in
      simp g (omega (arith, l, ih))))
      (λ g.
      let before = cmp_before p e.0 (leb-false e.0 p g) in
      let rest : kept_at es p ≡ Some node = simp before at h in
      simp g (base_at p es node rest))

  -- ---- what is kept from a place on

  pub at_from : (f p : ℕ) (es : Kept S) → f ≤ p → kept_at (kept_from f es) p ≡ kept_at es p
  at_from f p [] h = refl
  at_from f p (e ∷ es) h =
      let ih = at_from f p es h in
      by_test (nat_le f e.0)
      (λ g. simp (g, ih))
      (λ g.
      let l = leb-false f e.0 g in
      let k = cmp_past p e.0 (omega (arith, l, h)) in
      simp (g, k) ih)

  -- with one more
  pub with_from : (f p : ℕ) (node : Node S) (es : Kept S) → f ≤ p → with_kept (kept_from f es) p node ≡ kept_from f (with_kept es p node)
  with_from f p node [] h = let g = le_is f p h in simp g
  with_from f p node (e ∷ es) h =
      let ih = with_from f p node es h in
      let at = le_is f p h in
      by_test (nat_le f e.0)
      (λ g.
      by_test (nat_le e.0 p)
      (λ m.
      by_test (nat_le p e.0)
      (λ n. let a = leb-true e.0 p m in let b = leb-true p e.0 n in let k = cmp_same p e.0 (omega (arith, a, b)) in simp (g, k))
      (λ n. let k = cmp_past p e.0 (leb-false p e.0 n) in simp (g, k) (ap (λ l. e ∷ l) ih)))
      (λ m. let k = cmp_before p e.0 (leb-false e.0 p m) in simp (g, k, at)))
      (λ g.
      let l = leb-false f e.0 g in
      let k = cmp_past p e.0 (omega (arith, l, h)) in
      simp (g, k) ih)

  -- cut off at a place
  pub cut_from : (f p : ℕ) (es : Kept S) → kept_up_to p (kept_from f es) ≡ kept_from f (kept_up_to p es)
  cut_from f p [] = refl
  cut_from f p (e ∷ es) =
      let ih = cut_from f p es in
      by_test (nat_le f e.0)
      (λ g. by_test (nat_le e.0 p) (λ k. simp (g, k) (ap (λ l. e ∷ l) ih)) (λ k. simp (g, k) ih))
      (λ g. by_test (nat_le e.0 p) (λ k. simp (g, k) ih) (λ k. simp (g, k) ih))

  -- from a later place on
  pub from_from : (f b : ℕ) (es : Kept S) → f ≤ b → kept_from b (kept_from f es) ≡ kept_from b es
  from_from f b es h =
      filter_inner (λ e. nat_le b e.0) (λ e. nat_le f e.0) es (λ e k. le_is f e.0 (let l = leb-true b e.0 k in omega (arith, l, h)))
