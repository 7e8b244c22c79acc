-- A text has at most one case at its front.
use Rattle.std.proofs.Common.{◌≡◌, ℕ, ◌-◌, ◌<◌, ◌≤◌, Option, Some, None, Result, Err, List, [], ◌∷◌, ◌++◌, take, refl, sym, ap, subst, ◌∙◌, arith, inl, inr}
use Rattle.std.proofs.lemmas.List.{append-nil}
use Rattle.std.proofs.lemmas.Bool.{cases_lt}
use Rattle.std.specs.Prelude.{slice_get}
use Rattle.dn_case.specs.declared.standing.Standing.{Standing}
use Rattle.dn_case.specs.declared.cause.Cause.{Cause}
use Rattle.dn_case.specs.declared.place.Place.TheVariants as place
use Rattle.dn_model.specs.Cases.{Recording}
use Rattle.dn_case.specs.Standings.{start, place_of}
use Rattle.dn_case.specs.Reading.{Leads, case_of, IsCaseText, IsCause, IsFirstBad}
use Rattle.dn_case.proofs.Leading.{leads_split, leads_same, front_of}
use Rattle.dn_case.proofs.Taken.{is_taken}
use Rattle.dn_case.proofs.Judging.{end_last}

stays : (rest : List (List ℕ)) (u t : Standing) → Leads u rest t → u.place ≡ place.End → (rest ≡ []) × (u ≡ t)
stays [] u t leads e = (refl, leads)
stays (x ∷ rest) u t leads e = (let k = is_taken u x leads.0 leads.1 in absurd (end_last u.place (place_of k.line) e k.follows))

shorter : (ls : List (List ℕ)) (j k : ℕ) (c d : Recording) → j ≤ k → IsCaseText (take j ls) c → IsCaseText (take k ls) d → (take j ls ≡ take k ls) × (c ≡ d)
shorter ls j k c d le p q =
    let front = front_of j k ls le in
    let parts = leads_split (take j ls) front.0 start q.last (subst (λ (x : List (List ℕ)). Leads start x q.last) front.1 q.leads) in
    let same = leads_same (take j ls) start p.last parts.0 p.leads parts.1 in
    let stay = stays front.0 parts.0 q.last parts.2 (subst (λ (v : Standing). v.place ≡ place.End) same p.ends) in
    (sym (front.1 ∙ ap (λ (x : List (List ℕ)). take j ls ++ x) stay.0 ∙ append-nil (take j ls)), sym p.says ∙ ap case_of (same ∙ stay.1) ∙ q.says)

pub one_case : (ls : List (List ℕ)) (j k : ℕ) (c d : Recording) → IsCaseText (take j ls) c → IsCaseText (take k ls) d → (take j ls ≡ take k ls) × (c ≡ d)
one_case ls j k c d p q =
    elim (cases_lt j k) [
      | inl lt ↦ shorter ls j k c d (omega arith) p q
      | inr le ↦ (let r = shorter ls k j d c le q p in (sym r.0, sym r.1))
    ]

-- ---- one first bad line

not_before : (ls : List (List ℕ)) (m n : ℕ) (c d : Cause) → IsFirstBad ls m c → IsFirstBad ls n d → m < n → ⊥
not_before ls m n c d p q less = p.bad (omega (arith, less, q.counted.1)) (q.before m less)

one_cause : (s : Standing) (o : Option (List ℕ)) (c d : Cause) → IsCause s o c → IsCause s o d → c ≡ d
one_cause s None c d p q = p ∙ sym q
one_cause s (Some text) c d p q = (let same : ◌≡◌ {A = Result Standing Cause} (Err c) (Err d) = sym p ∙ q in cc)

one_place : (ls : List (List ℕ)) (n : ℕ) (c d : Cause) → IsFirstBad ls n c → IsFirstBad ls n d → c ≡ d
one_place ls n c d p q =
    let same = leads_same (take (n - 1) ls) start p.last q.last p.leads q.leads in
    one_cause q.last (slice_get ls (n - 1)) c d (subst (λ (s : Standing). IsCause s (slice_get ls (n - 1)) c) same p.holds) q.holds

pub one_first_bad : (ls : List (List ℕ)) (m n : ℕ) (c d : Cause) → IsFirstBad ls m c → IsFirstBad ls n d → (m ≡ n) × (c ≡ d)
one_first_bad ls m n c d p q =
    elim (cases_lt m n) [
      | inl less ↦ absurd (not_before ls m n c d p q less)
      | inr le ↦ elim (cases_lt n m) [
        | inl less ↦ absurd (not_before ls n m d c q p less)
        | inr ge ↦ (
            let same : m ≡ n = omega arith in
            (same, one_place ls n c d (subst (λ (k : ℕ). IsFirstBad ls k c) same p) q))
      ]
    ]
