-- Feeds and their first externals.
use Rattle.std.proofs.Common.{◌≡◌, ℕ, zero, suc, ◌+◌, ◌<◌, List, [], ◌∷◌, ◌++◌, length, take, get_or, ap, sym, subst, ◌∙◌, arith}
use Rattle.dn_model.specs.Cases.{Heading, IsExternal, AreExternals}
use Rattle.dn_model.specs.declared.feed.External.{External}
use Rattle.dn_record.specs.Feeding.{last_group}

-- each external of a feed meets the rules behind those before it
pub each_external : (h : Heading) (low : ℕ) (xs : List External) (place : ℕ) (x : External) → AreExternals h low xs → place < length xs → x ≡ get_or xs place x → IsExternal h (last_group low (take place xs)) x
each_external h low [] place x are l e = absurd (omega arith)
each_external h low (y ∷ ys) zero x are l e = subst (λ z. IsExternal h low z) (sym e) are.0
each_external h low (y ∷ ys) (suc place) x are l e = each_external h y.group ys place x are.1 (omega arith) e

-- one more of the first externals
more : {A : Type 0} (xs : List A) (place : ℕ) (x : A) → place < length xs → x ≡ get_or xs place x → take (suc place) xs ≡ take place xs ++ x ∷ []
more [] place x l e = absurd (omega arith)
more (y ∷ ys) zero x l e = ap (λ z. z ∷ []) (sym e)
more (y ∷ ys) (suc place) x l e = ap (λ l. y ∷ l) (more ys place x (omega arith) e)

pub take_more : {A : Type 0} (xs : List A) (place : ℕ) (x : A) → place < length xs → x ≡ get_or xs place x → take (place + 1) xs ≡ take place xs ++ x ∷ []
take_more xs place x l e = let next : place + 1 ≡ suc place = omega arith in ap (λ n. take n xs) next ∙ more xs place x l e
