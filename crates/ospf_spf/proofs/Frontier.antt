-- The set of what waits, after a vertex got a cost.
use Rattle.std.proofs.Common.{◌≡◌, ℕ, ◌<◌, ◌≤◌, ◌≢◌, Bool, true, false, cond, Option, Some, None, List, [], ◌∷◌, refl, sym, ap, ◌∙◌, inl, inr, arith, length}
use Rattle.std.specs.Ordering.{nat_cmp, ordering_then, is_eq, is_gt}
use Rattle.std.specs.declared.cmp.Ordering.{Ordering}
use Rattle.std.specs.declared.cmp.Ordering.TheVariants.{Less, Equal, Greater}
use Rattle.std.specs.BTreeSet.{BTreeSet, Updates}
use Rattle.std.proofs.lemmas.Bool.{cases_eq, false_from_ne_true, both_ways, false≢true}
use Rattle.std.proofs.lemmas.Map.Lookups.{exact_unsigned, exact_pairs}
use Rattle.std.proofs.lemmas.Cmp.{nat_cmp_total, on_total, then_total, tied_itself}
use Rattle.std.specs.Cmp.{IsTotalOrder}
use Rattle.std.specs.List.{list_any}
use Rattle.std.proofs.lemmas.Map.Keys.{le_from_not_gt}
use Rattle.ospf_spf.specs.Search.{IsExact, pair_cmp, inside}

pub pair_total : IsTotalOrder pair_cmp
pair_total = then_total (on_total (λ p. p.0) nat_cmp_total) (on_total (λ p. p.1) nat_cmp_total)

-- an answer that is_eq takes
is_eq_equal : (o : Ordering) → is_eq o ≡ true → o ≡ Equal
is_eq_equal Less h = cc
is_eq_equal Equal h = refl
is_eq_equal Greater h = cc

pub tied : (a b : ℕ) → is_eq (pair_cmp (a, b) (a, b)) ≡ true
tied a b = ap is_eq (tied_itself pair_total (a, b))

pub one_pair : (p q : ℕ × ℕ) → is_eq (pair_cmp p q) ≡ true → p ≡ q
one_pair p q h = exact_pairs nat_cmp nat_cmp exact_unsigned exact_unsigned p q (is_eq_equal _ h)

pub apart : (a b c d : ℕ) → (a ≡ c → b ≡ d → ⊥) → is_eq (pair_cmp (a, b) (c, d)) ≡ false
apart a b c d h = false_from_ne_true _ (λ e. let p = one_pair (a, b) (c, d) e in h (ap (λ (p : ℕ × ℕ). p.0) p) (ap (λ (p : ℕ × ℕ). p.1) p))

-- w gets the cost n
pub exact_after : (L M : ℕ → Option ℕ) (D : ℕ → Bool) (F G : ℕ → ℕ → Bool) (w n : ℕ) → IsExact L D F → D w ≡ false → M w ≡ Some n → ((v : ℕ) → v ≢ w → M v ≡ L v) → G n w ≡ true → ((c v : ℕ) → v ≢ w → G c v ≡ F c v) → ((c : ℕ) → G c w ≡ true → c ≡ n) → IsExact M D G
exact_after L M D F G w n x d m ms g gs only = record {
  todo = λ c v h. elim (cases_eq v w) [ inl e ↦ ap D e ∙ d | inr ne ↦ x.todo c v (sym (gs c v ne) ∙ h) ];
  cost = λ c v h. elim (cases_eq v w) [ inl e ↦ ap M e ∙ m ∙ ap (λ k. Some k) (sym (only c (sym (ap (λ u. G c u) e) ∙ h))) | inr ne ↦ ms v ne ∙ x.cost c v (sym (gs c v ne) ∙ h) ];
  waits = λ c v h k. elim (cases_eq v w) [ inl e ↦ (let q : Some n ≡ Some c = sym m ∙ sym (ap M e) ∙ k in let r : n ≡ c = cc in ap (λ u. G c u) e ∙ ap (λ i. G i w) (sym r) ∙ g) | inr ne ↦ gs c v ne ∙ x.waits c v h (sym (ms v ne) ∙ k) ];
}

-- the vertex had no cost
pub exact_new : (L M : ℕ → Option ℕ) (D : ℕ → Bool) (s t : BTreeSet (ℕ × ℕ)) (w n : ℕ) → IsExact L D (inside s) → D w ≡ false → L w ≡ None → M w ≡ Some n → ((v : ℕ) → v ≢ w → M v ≡ L v) → Updates pair_cmp s t (n, w) true → IsExact M D (inside t)
exact_new L M D s t w n x d l m ms u =
    exact_after L M D (inside s) (inside t) w n x d m ms
    (u.0 (n, w) ∙ ap (λ b. cond b true (inside s n w)) (tied n w))
    (λ c v ne. u.0 (c, v) ∙ ap (λ b. cond b true (inside s c v)) (apart n w c v (λ _ e. ne (sym e))))
    (λ c h. elim (cases_eq n c) [
      | inl e ↦ sym e
      | inr ne ↦
          (let k : inside s c w ≡ true = sym (u.0 (c, w) ∙ ap (λ b. cond b true (inside s c w)) (apart n w c w (λ e _. ne e))) ∙ h in
          let q : None ≡ Some c = sym l ∙ x.cost c w k in cc)
    ])

-- the vertex had the cost o
pub exact_lower : (L M : ℕ → Option ℕ) (D : ℕ → Bool) (s r t : BTreeSet (ℕ × ℕ)) (w o n : ℕ) → IsExact L D (inside s) → D w ≡ false → L w ≡ Some o → M w ≡ Some n → ((v : ℕ) → v ≢ w → M v ≡ L v) → Updates pair_cmp s r (o, w) false → Updates pair_cmp r t (n, w) true → IsExact M D (inside t)
exact_lower L M D s r t w o n x d l m ms u v =
    exact_after L M D (inside s) (inside t) w n x d m ms
    (v.0 (n, w) ∙ ap (λ b. cond b true (inside r n w)) (tied n w))
    (λ c z ne.
    v.0 (c, z) ∙ ap (λ b. cond b true (inside r c z)) (apart n w c z (λ _ e. ne (sym e)))
    ∙ u.0 (c, z) ∙ ap (λ b. cond b false (inside s c z)) (apart o w c z (λ _ e. ne (sym e))))
    (λ c h. elim (cases_eq n c) [
      | inl e ↦ sym e
      | inr ne ↦
          (let k : inside r c w ≡ true = sym (v.0 (c, w) ∙ ap (λ b. cond b true (inside r c w)) (apart n w c w (λ e _. ne e))) ∙ h in
          elim (cases_eq o c) [
            | inl e ↦ (let z : inside r c w ≡ false = u.0 (c, w) ∙ ap (λ b. cond b false (inside s c w)) (ap (λ i. is_eq (pair_cmp (i, w) (c, w))) e ∙ tied c w) in absurd (both_ways _ z k))
            | inr ne2 ↦
                (let z : inside s c w ≡ true = sym (u.0 (c, w) ∙ ap (λ b. cond b false (inside s c w)) (apart o w c w (λ e _. ne2 e))) ∙ k in
                let q : Some o ≡ Some c = sym l ∙ x.cost c w z in
                let e : o ≡ c = cc in absurd (ne2 e))
          ])
    ])

then_gt : (o p : Ordering) → is_gt (ordering_then o p) ≡ false → is_gt o ≡ false
then_gt Less p h = refl
then_gt Equal p h = refl
then_gt Greater p h = h

-- the first pair has the least cost
pub least_cost : (a b c d : ℕ) → is_gt (pair_cmp (a, b) (c, d)) ≡ false → a ≤ c
least_cost a b c d h = le_from_not_gt a c (then_gt (nat_cmp a c) (nat_cmp b d) h)

-- w was taken, at its cost n
pub exact_popped : (L : ℕ → Option ℕ) (D E : ℕ → Bool) (s t : BTreeSet (ℕ × ℕ)) (w n : ℕ) → IsExact L D (inside s) → L w ≡ Some n → E w ≡ true → ((v : ℕ) → v ≢ w → E v ≡ D v) → Updates pair_cmp s t (n, w) false → IsExact L E (inside t)
exact_popped L D E s t w n x l ew es u =
    let same : (c v : ℕ) → v ≢ w → inside t c v ≡ inside s c v = λ c v ne. u.0 (c, v) ∙ ap (λ b. cond b false (inside s c v)) (apart n w c v (λ _ e. ne (sym e))) in
    let gone : (c : ℕ) → inside t c w ≡ true → ⊥ = λ c h.
    elim (cases_eq n c) [
      | inl e ↦ (let z : inside t c w ≡ false = u.0 (c, w) ∙ ap (λ b. cond b false (inside s c w)) (ap (λ i. is_eq (pair_cmp (i, w) (c, w))) e ∙ tied c w) in both_ways _ z h)
      | inr ne ↦
          (let z : inside s c w ≡ true = sym (u.0 (c, w) ∙ ap (λ b. cond b false (inside s c w)) (apart n w c w (λ e _. ne e))) ∙ h in
          let q : Some n ≡ Some c = sym l ∙ x.cost c w z in
          let e : n ≡ c = cc in ne e)
    ] in
    record {
      todo = λ c v h. elim (cases_eq v w) [ inl e ↦ absurd (gone c (sym (ap (λ i. inside t c i) e) ∙ h)) | inr ne ↦ es v ne ∙ x.todo c v (sym (same c v ne) ∙ h) ];
      cost = λ c v h. elim (cases_eq v w) [ inl e ↦ absurd (gone c (sym (ap (λ i. inside t c i) e) ∙ h)) | inr ne ↦ x.cost c v (sym (same c v ne) ∙ h) ];
      waits = λ c v h k. elim (cases_eq v w) [ inl e ↦ absurd (both_ways (E w) (sym (ap E e) ∙ h) ew) | inr ne ↦ same c v ne ∙ x.waits c v (sym (es v ne) ∙ h) k ];
    }

pub none_inside : (s : BTreeSet (ℕ × ℕ)) (c v : ℕ) → s.keys ≡ [] → inside s c v ≡ false
none_inside s c v e = ap (λ ks. list_any (λ k. is_eq (pair_cmp (c, v) k)) ks) e

pub exact_none : (L : ℕ → Option ℕ) (D : ℕ → Bool) (s : BTreeSet (ℕ × ℕ)) → s.keys ≡ [] → ((v : ℕ) → L v ≡ None) → IsExact L D (inside s)
exact_none L D s e l = record {
  todo = λ c v h. absurd (both_ways _ (none_inside s c v e) h);
  cost = λ c v h. absurd (both_ways _ (none_inside s c v e) h);
  waits = λ c v h k. absurd (let q : None ≡ Some c = sym (l v) ∙ k in cc);
}

some_key : (ks : List (ℕ × ℕ)) (p : ℕ × ℕ → Bool) → list_any p ks ≡ true → 0 < length ks
some_key [] p h = absurd (false≢true h)
some_key (k ∷ ks) p h = omega arith

pub some_inside : (s : BTreeSet (ℕ × ℕ)) (c v : ℕ) → inside s c v ≡ true → 0 < length s.keys
some_inside s c v h = some_key s.keys (λ k. is_eq (pair_cmp (c, v) k)) h
