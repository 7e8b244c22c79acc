-- The length of a mask is its number of leading ones, if the mask is contiguous.
use Rattle.std.proofs.Common.{◌≡◌, ℕ, zero, suc, ◌+◌, ◌-◌, ◌<◌, ◌≤◌, ◌==◌, ◌&&◌, ◌||◌, Bool, true, false, cond, List, [], ◌∷◌, Option, Some, None, refl, sym, ap, ◌∙◌, arith}
use Rattle.std.specs.Prelude.{find}
use Rattle.std.specs.List.{range_with_len, list_any, AllByRecursion}
use Rattle.std.specs.Int.{w32, leading_ones}
use Rattle.std.proofs.lemmas.Bool.{eqb-true, eq-eqb, both_ways}
use Rattle.std.proofs.lemmas.Nat.{leading_le}
use Rattle.dn_net.specs.Networks.{mask_of, mask_len}

ones : ℕ → ℕ
ones mask = leading_ones w32 mask

-- the length is the number of leading ones of its mask
abbrev IsLength : ℕ → Type 0
IsLength k = ones (mask_of k) ≡ k

lengths : AllByRecursion IsLength (range_with_len 0 33)
unfolding ones lib.Count.count_leading_zeros
lengths = search arith

-- the number is in the range
in_head : (b : Bool) (n from x : ℕ) → (x == from) ≡ b → from ≤ x → x < from + suc n
    → (from + 1 ≤ x → x < from + 1 + n → list_any (λ k. x == k) (range_with_len (from + 1) n) ≡ true)
    → (b || list_any (λ k. x == k) (range_with_len (from + 1) n)) ≡ true
in_head true n from x t low high rest = refl
in_head false n from x t low high rest =
    let other : x ≡ from → ⊥ = λ e. both_ways (x == from) t (eq-eqb x from e) in
    rest (omega arith) (omega arith)

in_range : (n from x : ℕ) → from ≤ x → x < from + n → list_any (λ k. x == k) (range_with_len from n) ≡ true
in_range zero from x low high = absurd (omega arith)
in_range (suc n) from x low high = in_head (x == from) n from x refl low high (in_range n (from + 1) x)

abbrev by_ones : ℕ → List ℕ → Option ℕ
by_ones m ks = cond (mask_of (ones m) == m && list_any (λ k. ones m == k) ks) (Some (ones m)) None

found_here : (k m : ℕ) (ks : List ℕ) → (mask_of k == m) ≡ true → IsLength k → Some k ≡ by_ones m (k ∷ ks)
found_here k m ks t len =
    let x : ones m ≡ k = ap ones (sym (eqb-true (mask_of k) m t)) ∙ len in
    rw (x, t, eq-eqb k k refl) refl

apart : (d : Bool) (k m : ℕ) (ks : List ℕ) → (ones m == k) ≡ d → (mask_of (ones m) == m) ≡ true → (mask_of k == m) ≡ false
    → cond (list_any (λ j. ones m == j) ks) (Some (ones m)) None ≡ cond (d || list_any (λ j. ones m == j) ks) (Some (ones m)) None
apart false k m ks s u t = refl
apart true k m ks s u t =
    let same : mask_of (ones m) ≡ mask_of k = ap mask_of (eqb-true (ones m) k s) in
    absurd (both_ways (mask_of k == m) t (eq-eqb (mask_of k) m (sym same ∙ eqb-true (mask_of (ones m)) m u)))

later : (c : Bool) (k m : ℕ) (ks : List ℕ) → (mask_of (ones m) == m) ≡ c → (mask_of k == m) ≡ false
    → cond (c && list_any (λ j. ones m == j) ks) (Some (ones m)) None ≡ cond (c && (ones m == k || list_any (λ j. ones m == j) ks)) (Some (ones m)) None
later false k m ks u t = refl
later true k m ks u t = apart (ones m == k) k m ks refl u t

none_found : (c : Bool) (m : ℕ) → None ≡ cond (c && false) (Some (ones m)) None
none_found true m = refl
none_found false m = refl

found_by : (b : Bool) (k m : ℕ) (ks : List ℕ) → (mask_of k == m) ≡ b → IsLength k → find (λ j. mask_of j == m) ks ≡ by_ones m ks
    → cond b (Some k) (find (λ j. mask_of j == m) ks) ≡ by_ones m (k ∷ ks)
found_by true k m ks t len rest = found_here k m ks t len
found_by false k m ks t len rest = rest ∙ later (mask_of (ones m) == m) k m ks refl t

found_in : (m : ℕ) (ks : List ℕ) → AllByRecursion IsLength ks → find (λ k. mask_of k == m) ks ≡ by_ones m ks
found_in m [] lens = none_found (mask_of (ones m) == m) m
found_in m (k ∷ ks) lens = found_by (mask_of k == m) k m ks refl lens.0 (found_in m ks lens.1)

whole : (c d : Bool) (x : ℕ) → d ≡ true → cond (c && d) (Some x) None ≡ cond c (Some x) None
whole true d x t = rw t refl
whole false d x t = refl

-- the number of leading ones is the length, if it has this mask
pub len_is : (m : ℕ) → mask_len m ≡ cond (mask_of (leading_ones w32 m) == m) (Some (leading_ones w32 m)) None
unfolding mask_len ones
len_is m =
    let member = in_range 33 0 (ones m) (omega arith) (omega (arith, leading_le 32 (4294967295 - m))) in
    found_in m (range_with_len 0 33) lengths ∙ whole (mask_of (ones m) == m) (list_any (λ k. ones m == k) (range_with_len 0 33)) (ones m) member
