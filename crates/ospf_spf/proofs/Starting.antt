-- The lists of the search, and how it begins.
use Rattle.std.proofs.Common.{◌≡◌, ℕ, zero, suc, ◌+◌, ◌<◌, ◌≤◌, ◌≢◌, Bool, true, false, Option, Some, None, List, [], ◌∷◌, ◌++◌, refl, sym, ap, ◌∙◌, inl, inr, arith, length, get_or, set, take, replicate}
use Rattle.std.specs.Global.{Vec}
use Rattle.std.proofs.lemmas.Bool.{cases_eq, both_ways}
use Rattle.std.proofs.lemmas.List.{take-append-le, take_all}
use Rattle.ospf_spf.specs.declared.graph.Hop.{Hop}
use Rattle.ospf_spf.specs.Search.{row, label, flag, marked, IsSearch}

pub label_in : (xs : List (Option ℕ)) (v c : ℕ) → label xs v ≡ Some c → v < length xs
label_in [] v c h = absurd (let q : None ≡ Some c = h in cc)
label_in (x ∷ xs) zero c h = omega arith
label_in (x ∷ xs) (suc v) c h = let ih = label_in xs v c h in omega arith

pub flag_none : (n v : ℕ) → flag (replicate n false) v ≡ false
flag_none zero v = refl
flag_none (suc n) zero = refl
flag_none (suc n) (suc v) = flag_none n v

pub label_none : (n v : ℕ) → label (replicate n None) v ≡ None
label_none zero v = refl
label_none (suc n) zero = refl
label_none (suc n) (suc v) = label_none n v

pub marked_none : (n : ℕ) → marked (replicate n false) ≡ 0
marked_none zero = refl
marked_none (suc n) = let ih = marked_none n in omega arith

pub marked_le : (bs : List Bool) → marked bs ≤ length bs
marked_le [] = omega arith
marked_le (true ∷ bs) = let ih = marked_le bs in omega arith
marked_le (false ∷ bs) = let ih = marked_le bs in omega arith

pub marked_lt : (bs : List Bool) (v : ℕ) → v < length bs → flag bs v ≡ false → marked bs < length bs
marked_lt [] v l h = absurd (omega arith)
marked_lt (true ∷ bs) zero l h = absurd (both_ways true h refl)
marked_lt (false ∷ bs) zero l h = let m = marked_le bs in omega arith
marked_lt (true ∷ bs) (suc v) l h = let k : v < length bs = omega arith in let ih = marked_lt bs v k h in omega arith
marked_lt (false ∷ bs) (suc v) l h = let k : v < length bs = omega arith in let ih = marked_lt bs v k h in omega arith

pub marked_set : (bs : List Bool) (v : ℕ) → v < length bs → flag bs v ≡ false → marked (set bs v true) ≡ marked bs + 1
marked_set [] v l h = absurd (omega arith)
marked_set (true ∷ bs) zero l h = absurd (both_ways true h refl)
marked_set (false ∷ bs) zero l h = omega arith
marked_set (b ∷ bs) (suc v) l h = let k : v < length bs = omega arith in let ih = marked_set bs v k h in omega arith

pub row_is : (H : List (Vec Hop)) (v : ℕ) (d : Vec Hop) → v < length H → row H v ≡ (get_or H v d).items
row_is [] v d l = absurd (omega arith)
row_is (r ∷ rs) zero d l = refl
row_is (r ∷ rs) (suc v) d l = row_is rs v d (let k : v < length rs = omega arith in k)

-- a slice that is written back whole
pub written : {X : Type 0} (n : ℕ) (xs ys : List X) → length xs ≡ n → take n (xs ++ ys) ≡ xs
written n xs ys e = let a : n ≤ length xs = omega arith in let b : length xs ≤ n = omega arith in take-append-le n xs ys a ∙ take_all n xs b

pub start : (H : List (Vec Hop)) (root n : ℕ) (L : ℕ → Option ℕ) (D : ℕ → Bool) → L root ≡ Some 0 → ((v : ℕ) → v ≢ root → L v ≡ None) → ((v : ℕ) → D v ≡ false) → IsSearch H root L D [] 0 n
start H root n L D lr ls d =
    let only : (v c : ℕ) → L v ≡ Some c → (v ≡ root) × (c ≡ 0) = λ v c l.
    elim (cases_eq v root) [
      | inl e ↦ (e, (let q : Some c ≡ Some 0 = sym l ∙ ap L e ∙ lr in let z : c ≡ 0 = cc in z))
      | inr ne ↦ absurd (let q : None ≡ Some c = sym (ls v ne) ∙ l in cc)
    ] in
    record {
      walk = λ v c l. (0, None, ((only v c l).0, (only v c l).1, refl));
      start = lr;
      settled = λ v e. absurd (both_ways (D v) (d v) e);
      below = λ u v a b e f x y. absurd (both_ways (D u) (d u) e);
      small = λ v c l. (let z = (only v c l).1 in omega arith);
      relaxed = λ u c h e l i. absurd (both_ways (D u) (d u) e);
      listed = λ v e. absurd (both_ways (D v) (d v) e);
      only = λ v i. absurd (let k : i.0 < 0 = i.1 in omega arith);
      rising = λ i j a b ij jl x y. absurd (let k : j < 0 = jl in omega arith);
    }

pub at_default : {X : Type 0} (xs : List X) (i : ℕ) (d e : X) → i < length xs → get_or xs i d ≡ get_or xs i e
at_default [] i d e l = absurd (omega arith)
at_default (x ∷ xs) zero d e l = refl
at_default (x ∷ xs) (suc i) d e l = at_default xs i d e (let k : i < length xs = omega arith in k)

pub zeros : (n w : ℕ) → ◌≡◌ {A = ℕ} (get_or (replicate n 0) w 0) 0
zeros zero w = refl
zeros (suc n) zero = refl
zeros (suc n) (suc w) = zeros n w
