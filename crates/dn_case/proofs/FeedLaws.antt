-- The group of the last external.
use Rattle.std.proofs.Common.{◌≡◌, ℕ, ◌-◌, suc, List, [], ◌∷◌, ◌++◌, length, refl, sym, ap, ◌∙◌, arith}
use Rattle.std.specs.Prelude.{slice_get}
use Rattle.std.specs.Option.{option_map_or}
use Rattle.dn_model.specs.declared.feed.External.{External}
use Rattle.dn_case.specs.Standings.{last_group}

pub last_group-append : (low : ℕ) (xs : List External) (x : External) → last_group low (xs ++ x ∷ []) ≡ x.group
last_group-append low [] x = refl
last_group-append low (y ∷ xs) x = last_group-append y.group xs x

at_last : (y : External) (xs : List External) → last_group y.group xs ≡ option_map_or (λ x. x.group) (slice_get (y ∷ xs) (length xs)) 0
at_last y [] = refl
at_last y (x ∷ xs) = at_last x xs

less : (n : ℕ) → suc n - 1 ≡ n
less n = omega arith

pub last_group_is : (xs : List External) → last_group 0 xs ≡ option_map_or (λ x. x.group) (slice_get xs (length xs - 1)) 0
last_group_is [] = refl
last_group_is (x ∷ xs) = at_last x xs ∙ ap (λ (n : ℕ). option_map_or (λ x. x.group) (slice_get (x ∷ xs) n) 0) (sym (less (length xs)))
