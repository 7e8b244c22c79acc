-- What stands at a place of a list.
use Rattle.std.proofs.Common.{◌≡◌, ℕ, zero, suc, ◌<◌, ◌≤◌, Some, List, [], ◌∷◌, ◌++◌, length, take, drop, refl, ap, ◌∙◌, arith}
use Rattle.std.specs.Prelude.{slice_get, slice_set}
use Rattle.std.proofs.lemmas.List.{take-append-le, take_all}

module _ {X : Type 0} where
  pub get_front : (xs ys : List X) (i : ℕ) → i < length xs → slice_get (xs ++ ys) i ≡ slice_get xs i
  get_front [] ys i l = absurd (omega arith)
  get_front (x ∷ xs) ys zero l = refl
  get_front (x ∷ xs) ys (suc i) l = get_front xs ys i (omega arith)

  pub get_last : (xs : List X) (y : X) (i : ℕ) → length xs ≡ i → slice_get (xs ++ y ∷ []) i ≡ Some y
  get_last [] y zero e = refl
  get_last [] y (suc i) e = absurd (omega arith)
  get_last (x ∷ xs) y zero e = absurd (omega arith)
  get_last (x ∷ xs) y (suc i) e = get_last xs y i (omega arith)

  pub get_set_same : (xs : List X) (i : ℕ) (y : X) → i < length xs → slice_get (slice_set xs i y) i ≡ Some y
  get_set_same [] i y l = absurd (omega arith)
  get_set_same (x ∷ xs) zero y l = refl
  get_set_same (x ∷ xs) (suc i) y l = get_set_same xs i y (omega arith)

  pub get_set_other : (xs : List X) (i j : ℕ) (y : X) → (i ≡ j → ⊥) → slice_get (slice_set xs i y) j ≡ slice_get xs j
  get_set_other [] i j y ne = refl
  get_set_other (x ∷ xs) zero zero y ne = absurd (ne refl)
  get_set_other (x ∷ xs) zero (suc j) y ne = refl
  get_set_other (x ∷ xs) (suc i) zero y ne = refl
  get_set_other (x ∷ xs) (suc i) (suc j) y ne = get_set_other xs i j y (λ e. ne (ap suc e))

  -- a list that goes on behind its first n elements with x
  pub record GoesOn (xs : List X) (n : ℕ) (x : X) : Type 0 where
    pub more : n < length xs
    pub next : slice_get xs n ≡ Some x
    pub front : take (suc n) xs ≡ take n xs ++ x ∷ []

  pub goes_on : (xs : List X) (n : ℕ) (x : X) (rest : List X) → n ≤ length xs → (take n xs ++ x ∷ []) ++ rest ≡ xs → GoesOn xs n x
  goes_on [] zero x rest l e = absurd (cc)
  goes_on (y ∷ ys) zero x rest l e =
      let same : y ≡ x = cc in
      record { more = omega arith; next = ap (λ z. Some z) same; front = λ i. same i ∷ [] }
  goes_on [] (suc n) x rest l e = absurd (omega arith)
  goes_on (y ∷ ys) (suc n) x rest l e =
      let tail : (take n ys ++ x ∷ []) ++ rest ≡ ys = cc in
      let ih = goes_on ys n x rest (omega arith) tail in
      record { more = omega (arith, ih.more); next = ih.next; front = ap (λ l. y ∷ l) ih.front }

  -- what stands behind a whole list isn't taken
  pub kept_items : (n : ℕ) (xs ys : List X) → n ≡ length xs → take n (xs ++ drop (length xs) ys) ≡ xs
  kept_items n xs ys e =
      let whole : take n xs ≡ xs = take_all n xs (omega (arith, e)) in
      take-append-le n xs (drop (length xs) ys) (omega (arith, e)) ∙ whole

  pub no_items : (xs : List X) → length xs ≡ 0 → xs ≡ []
  no_items [] none = refl
  no_items (x ∷ xs) none = absurd (omega (arith, none))
