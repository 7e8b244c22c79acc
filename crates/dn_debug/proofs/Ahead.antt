-- Places of lists: the rows ahead, and the last ones.
use Rattle.std.proofs.Common.{◌≡◌, ℕ, zero, suc, ◌+◌, ◌-◌, ◌<◌, ◌≤◌, ◌⊎◌, inl, inr, Bool, true, false, cond, List, [], ◌∷◌, ◌++◌, length, length-append, length-drop, take, drop, Some, refl, sym, ap, ◌∙◌, subst, arith}
use Rattle.std.specs.Prelude.{slice_get}
use Rattle.std.specs.List.{AllByRecursion, take_while}
use Rattle.std.proofs.lemmas.List.Sums.{take_while-cons}
use Rattle.circular_buffer.specs.Buffer.{keep_last}

either : (a b : ℕ) → (a < b) ⊎ (b ≤ a)
either zero zero = inr (omega arith)
either zero (suc b) = inl (omega arith)
either (suc a) zero = inr (omega arith)
either (suc a) (suc b) = elim (either a b) [ inl below ↦ inl (omega arith) | inr above ↦ inr (omega arith) ]

module _ {X : Type 0} where
  pub drop_none : (n : ℕ) → drop {A = X} n [] ≡ []
  drop_none zero = refl
  drop_none (suc n) = refl

  pub take_none : (n : ℕ) → take {A = X} n [] ≡ []
  take_none zero = refl
  take_none (suc n) = refl

  -- the element at a place below the limit is the first of those ahead
  pub first_ahead : (xs : List X) (place limit : ℕ) (x : X) → place < limit → slice_get xs place ≡ Some x → drop place (take limit xs) ≡ x ∷ drop (suc place) (take limit xs)
  first_ahead [] place limit x below is = cc
  first_ahead (y ∷ ys) place zero x below is = absurd (omega arith)
  first_ahead (y ∷ ys) zero (suc limit) x below is = let e : y ≡ x = cc in ap (λ (z : X). z ∷ take limit ys) e
  first_ahead (y ∷ ys) (suc place) (suc limit) x below is = first_ahead ys place limit x (omega arith) is

  -- none is ahead at the end, and at the limit
  pub none_behind : (xs : List X) (n : ℕ) → length xs ≤ n → drop n xs ≡ []
  none_behind [] n h = drop_none n
  none_behind (x ∷ xs) zero h = absurd (omega arith)
  none_behind (x ∷ xs) (suc n) h = none_behind xs n (omega arith)

  front_length : (xs : List X) (n : ℕ) → (length (take n xs) ≤ n) × (length (take n xs) ≤ length xs)
  front_length [] zero = (omega arith, omega arith)
  front_length [] (suc n) = (omega arith, omega arith)
  front_length (x ∷ xs) zero = (omega arith, omega arith)
  front_length (x ∷ xs) (suc n) = let h = front_length xs n in (omega (arith, h.0), omega (arith, h.1))

  pub none_at_end : (xs : List X) (place limit : ℕ) → place ≡ length xs → drop place (take limit xs) ≡ []
  none_at_end xs place limit is = none_behind (take limit xs) place (omega (arith, (front_length xs limit).1))

  pub none_at_limit : (xs : List X) (place limit : ℕ) → place ≡ limit → drop place (take limit xs) ≡ []
  none_at_limit xs place limit is = none_behind (take limit xs) place (omega (arith, (front_length xs limit).0))

  -- none is taken where the first one fails the test
  pub first_fails : (p : X → Bool) (xs : List X) (place limit : ℕ) (x : X) → slice_get xs place ≡ Some x → p x ≡ false → take_while p (drop place (take limit xs)) ≡ []
  first_fails p [] place limit x is fails = cc
  first_fails p (y ∷ ys) place zero x is fails = ap (take_while p) (drop_none place)
  first_fails p (y ∷ ys) zero (suc limit) x is fails =
      let e : x ≡ y = cc in
      take_while-cons p y (take limit ys) ∙ ap (λ (b : Bool). cond b (y ∷ take_while p (take limit ys)) []) (ap p (sym e) ∙ fails)
  first_fails p (y ∷ ys) (suc place) (suc limit) x is fails = first_fails p ys place limit x is fails

  -- one is taken where the first one passes
  pub first_passes : (p : X → Bool) (xs : List X) (place limit most : ℕ) (x : X) → place < limit → slice_get xs place ≡ Some x → p x ≡ true → take (suc most) (take_while p (drop place (take limit xs))) ≡ x ∷ take most (take_while p (drop (suc place) (take limit xs)))
  first_passes p xs place limit most x below is passes =
      let rest = drop (suc place) (take limit xs) in
      let a : take (suc most) (take_while p (drop place (take limit xs))) ≡ take (suc most) (take_while p (x ∷ rest)) = ap (λ ys. take (suc most) (take_while p ys)) (first_ahead xs place limit x below is) in
      let b : take (suc most) (take_while p (x ∷ rest)) ≡ take (suc most) (cond (p x) (x ∷ take_while p rest) []) = ap (take (suc most)) (take_while-cons p x rest) in
      let d : take (suc most) (cond (p x) (x ∷ take_while p rest) []) ≡ x ∷ take most (take_while p rest) = ap (λ (t : Bool). take (suc most) (cond t (x ∷ take_while p rest) [])) passes in
      a ∙ (b ∙ d)

  pub get_dropped : (n : ℕ) (xs : List X) (i : ℕ) → slice_get (drop n xs) i ≡ slice_get xs (n + i)
  get_dropped zero xs i = ap (slice_get xs) (omega arith)
  get_dropped (suc n) [] i = refl
  get_dropped (suc n) (x ∷ xs) i = get_dropped n xs i ∙ let e : suc n + i ≡ suc (n + i) = omega arith in ap (slice_get (x ∷ xs)) (sym e)

  pub taken_more : (xs : List X) (k : ℕ) (x : X) → slice_get xs k ≡ Some x → take (k + 1) xs ≡ take k xs ++ x ∷ []
  taken_more [] k x is = cc
  taken_more (y ∷ ys) zero x is = let e : y ≡ x = cc in ap (λ (z : X). z ∷ []) e
  taken_more (y ∷ ys) (suc k) x is =
      let e : suc k + 1 ≡ suc (k + 1) = omega arith in
      ap (λ n. take n (y ∷ ys)) e ∙ ap (λ zs. y ∷ zs) (taken_more ys k x is)

  pub of_all : (P : X → Type 0) (xs ys : List X) (i : ℕ) (x : X) → AllByRecursion P (take i xs ++ ys) → (j : ℕ) → j < i → slice_get xs j ≡ Some x → P x
  of_all P [] ys i x all j below is = absurd (cc)
  of_all P (z ∷ zs) ys zero x all j below is = absurd (omega arith)
  of_all P (z ∷ zs) ys (suc i) x all zero below is = let e : z ≡ x = cc in subst P e all.0
  of_all P (z ∷ zs) ys (suc i) x all (suc j) below is = of_all P zs ys i x all.1 j (omega arith) is

  pub some_at : (xs : List X) (i : ℕ) → i < length xs → (x : X) × (slice_get xs i ≡ Some x)
  some_at [] i below = absurd (omega arith)
  some_at (x ∷ xs) zero below = (x, refl)
  some_at (x ∷ xs) (suc i) below = some_at xs i (omega arith)

  one_less : (d : ℕ) (xs : List X) (y : X) → d < length xs → drop 1 (drop d xs ++ y ∷ []) ≡ drop (d + 1) (xs ++ y ∷ [])
  one_less d [] y below = absurd (omega arith)
  one_less zero (x ∷ xs) y below = refl
  one_less (suc d) (x ∷ xs) y below = let e : suc d + 1 ≡ suc (d + 1) = omega arith in one_less d xs y (omega arith) ∙ ap (λ n. drop n (x ∷ (xs ++ y ∷ []))) (sym e)

  fewer_kept : (n : ℕ) (xs : List X) (y : X) → length xs < n → keep_last n (keep_last n xs ++ y ∷ []) ≡ keep_last n (xs ++ y ∷ [])
  fewer_kept n xs y fewer =
      let e : length xs - n ≡ 0 = omega arith in
      ap (λ d. keep_last n (drop d xs ++ y ∷ [])) e

  more_kept : (n : ℕ) (xs : List X) (y : X) → 0 < n → n ≤ length xs → keep_last n (keep_last n xs ++ y ∷ []) ≡ keep_last n (xs ++ y ∷ [])
  more_kept n xs y some enough =
      let zs = keep_last n xs in
      let one : length (zs ++ y ∷ []) ≡ length zs + 1 = length-append zs (y ∷ []) in
      let all : length (xs ++ y ∷ []) ≡ length xs + 1 = length-append xs (y ∷ []) in
      let size : length zs ≡ length xs - (length xs - n) = length-drop (length xs - n) xs in
      let a : length (zs ++ y ∷ []) - n ≡ 1 = omega (arith, one, size) in
      let b : length xs - n + 1 ≡ length (xs ++ y ∷ []) - n = omega (arith, all) in
      ap (λ d. drop d (zs ++ y ∷ [])) a ∙ (one_less (length xs - n) xs y (omega arith) ∙ ap (λ d. drop d (xs ++ y ∷ [])) b)

  -- to keep the last n, then add one and keep the last n is to keep the last n of all
  pub kept_more : (n : ℕ) (xs : List X) (y : X) → 0 < n → keep_last n (keep_last n xs ++ y ∷ []) ≡ keep_last n (xs ++ y ∷ [])
  kept_more n xs y some =
      elim (either (length xs) n) [ inl fewer ↦ fewer_kept n xs y fewer | inr enough ↦ more_kept n xs y some enough ]

  pub kept_none : (n place : ℕ) (xs : List X) → place ≡ 0 → [] ≡ keep_last n (take place xs)
  kept_none n place xs none =
      let P : ℕ → Type 0 = λ k. [] ≡ keep_last n (take k xs) in
      subst P (sym none) (sym (drop_none (0 - n)))
