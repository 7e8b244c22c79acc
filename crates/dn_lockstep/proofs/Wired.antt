-- The far ends of a router's ports, found in the list of all.
use Rattle.std.proofs.Common.{◌≡◌, ℕ, zero, suc, ◌<◌, Some, List, [], ◌∷◌, ◌++◌, length, refl, sym, ◌∙◌, subst, arith, length-append, eqb}
use Rattle.std.specs.Prelude.{slice_get}
use Rattle.std.proofs.lemmas.Bool.{eqb-true, eqb-false}
use Rattle.dn_model.specs.declared.link.Link.{Link}
use Rattle.dn_model.specs.Links.{ends}
use Rattle.dn_lists.proofs.Lists.{by_test}
use Rattle.dn_lockstep.specs.Wirings.{all_ends}
use Rattle.dn_lockstep.proofs.Places.{get_front, get_last}

pub ends_count : (links : List Link) (n : ℕ) → length (all_ends links n) ≡ n
unfolding all_ends
ends_count links zero = refl
ends_count links (suc n) =
    let a = length-append (all_ends links n) (ends links n ∷ []) in
    let b = ends_count links n in
    omega (arith, a, b)

pub ends_at : (links : List Link) (n r : ℕ) → r < n → slice_get (all_ends links n) r ≡ Some (ends links r)
unfolding all_ends
ends_at links zero r l = absurd (omega arith)
ends_at links (suc n) r l =
    let count = ends_count links n in
    by_test (eqb r n)
    (λ h.
    let same : r ≡ n = eqb-true r n h in
    let last = get_last (all_ends links n) (ends links n) n count in
    subst (λ (k : ℕ). slice_get (all_ends links n ++ ends links n ∷ []) k ≡ Some (ends links k)) (sym same) last)
    (λ h.
    let ne = eqb-false r n h in
    let lt : r < n = omega (arith, l, ne) in
    get_front (all_ends links n) (ends links n ∷ []) r (omega (arith, lt, count)) ∙ ends_at links n r lt)
