-- What stands at the front of a text stays there, call after call.
use Rattle.std.proofs.Common.{◌≡◌, ℕ, List, [], ◌∷◌, length, take, refl, ap, ◌∙◌}
use Rattle.dn_guest.specs.KeepsFront.{KeepsFront}

same_parts : (x y : ℕ) (xs ys : List ℕ) → x ∷ xs ≡ y ∷ ys → (x ≡ y) × (xs ≡ ys)
same_parts x y xs ys e = (cc, cc)

pub keeps_then : (a b c : List ℕ) → KeepsFront a b → KeepsFront b c → KeepsFront a c
keeps_then [] b c h k = refl
keeps_then (x ∷ a) [] c h k = absurd cc
keeps_then (x ∷ a) (y ∷ b) [] h k = absurd cc
keeps_then (x ∷ a) (y ∷ b) (z ∷ c) h k =
    let first = same_parts y x (take (length a) b) a h in
    let second = same_parts z y (take (length b) c) b k in
    ap (λ (n : ℕ). n ∷ take (length a) c) (second.0 ∙ first.0) ∙ ap (λ (l : List ℕ). x ∷ l) (keeps_then a b c first.1 second.1)
