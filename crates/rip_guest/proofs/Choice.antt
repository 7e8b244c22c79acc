-- What holds of both of two values holds of the one that is chosen.
use Rattle.std.proofs.Common.{◌≡◌, Bool, true, false, cond, refl}

pub choose : {A : Type 0} (P : A → Type 0) (b : Bool) (x y : A) → (b ≡ true → P x) → (b ≡ false → P y) → P (cond b x y)
choose P true x y f g = f refl
choose P false x y f g = g refl
