-- What a loop has read, and what it still reads.
use Rattle.std.proofs.Common.{◌≡◌, List, [], ◌∷◌, ◌++◌, Option, Some, None, refl, sym, ap, append_assoc}
use Rattle.std.specs.Prelude.{option_map}

-- what was read before, and what is still read
abbrev pub with_front : {X : Type 0} → List X → Option (List X) → Option (List X)
with_front {X} front read = option_map (λ (xs : List X). front ++ xs) read

pub regroup : {X : Type 0} (front : List X) (x : X) (read : Option (List X)) → with_front front (option_map (λ xs. x ∷ xs) read) ≡ with_front (front ++ x ∷ []) read
regroup front x None = refl
regroup {X} front x (Some xs) = ap (λ (all : List X). Some all) (sym (append_assoc front (x ∷ []) xs))
