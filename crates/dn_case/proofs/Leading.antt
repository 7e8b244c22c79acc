-- Lines that lead from one standing to another.
use Rattle.std.proofs.Common.{◌≡◌, ℕ, ◌≤◌, suc, zero, List, [], ◌∷◌, ◌++◌, take, Some, None, Result, Ok, refl, sym, ap, subst, ◌∙◌, arith}
use Rattle.std.specs.Prelude.{slice_get}
use Rattle.dn_case.specs.declared.standing.Standing.{Standing}
use Rattle.dn_case.specs.declared.cause.Cause.{Cause}
use Rattle.dn_case.specs.Standings.{read_line}
use Rattle.dn_case.specs.Reading.{Leads}

abbrev Outcome : Type 0
Outcome = Result Standing Cause

pub ok_same : (r : Outcome) (s t : Standing) → r ≡ Ok s → r ≡ Ok t → s ≡ t
ok_same r s t p q = let e : ◌≡◌ {A = Outcome} (Ok s) (Ok t) = sym p ∙ q in cc

pub leads_split : (xs ys : List (List ℕ)) (s u : Standing) → Leads s (xs ++ ys) u → (t : Standing) × Leads s xs t × Leads t ys u
leads_split [] ys s u h = (s, refl, h)
leads_split (x ∷ xs) ys s u h =
    let rest = leads_split xs ys h.0 u h.2 in
    (rest.0, (h.0, h.1, rest.1), rest.2)

pub leads_join : (xs ys : List (List ℕ)) (s t u : Standing) → Leads s xs t → Leads t ys u → Leads s (xs ++ ys) u
leads_join [] ys s t u h k = subst (λ (v : Standing). Leads v ys u) (sym h) k
leads_join (x ∷ xs) ys s t u h k = (h.0, h.1, leads_join xs ys h.0 t u h.2 k)

pub leads_same : (xs : List (List ℕ)) (s t u : Standing) → Leads s xs t → Leads s xs u → t ≡ u
leads_same [] s t u h k = sym h ∙ k
leads_same (x ∷ xs) s t u h k =
    let same = ok_same (read_line s x) h.0 k.0 h.1 k.1 in
    leads_same xs k.0 t u (subst (λ (v : Standing). Leads v xs t) same h.2) k.2

-- a shorter front begins a longer one
pub front_of : (k n : ℕ) (ls : List (List ℕ)) → k ≤ n → (rest : List (List ℕ)) × (take n ls ≡ take k ls ++ rest)
front_of zero n ls h = (take n ls, refl)
front_of (suc k) zero ls h = absurd (omega arith)
front_of (suc k) (suc n) [] h = ([], refl)
front_of (suc k) (suc n) (l ∷ ls) h =
    let p = front_of k n ls (omega arith) in
    (p.0, ap (λ (x : List (List ℕ)). l ∷ x) p.1)

-- one line more
pub front_next : (n : ℕ) (ls : List (List ℕ)) (text : List ℕ) → slice_get ls n ≡ Some text → take (suc n) ls ≡ take n ls ++ text ∷ []
front_next n [] text is = absurd cc
front_next zero (l ∷ ls) text is = let same : l ≡ text = cc in ap (λ (x : List ℕ). x ∷ []) same
front_next (suc n) (l ∷ ls) text is = ap (λ (x : List (List ℕ)). l ∷ x) (front_next n ls text is)

-- no line more
pub front_all : (n k : ℕ) (ls : List (List ℕ)) → slice_get ls n ≡ None → n ≤ k → take k ls ≡ take n ls
front_all zero zero [] is le = refl
front_all zero (suc k) [] is le = refl
front_all (suc n) zero [] is le = refl
front_all (suc n) (suc k) [] is le = refl
front_all zero k (l ∷ ls) is le = absurd cc
front_all (suc n) zero (l ∷ ls) is le = absurd (omega arith)
front_all (suc n) (suc k) (l ∷ ls) is le = ap (λ (x : List (List ℕ)). l ∷ x) (front_all n k ls is (omega arith))
