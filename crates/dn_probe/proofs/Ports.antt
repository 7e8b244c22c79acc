-- The lesser of ports.
use Rattle.std.proofs.Common.{◌≡◌, ℕ, Option, Some, None, refl, arith}
use Rattle.dn_probe.specs.Routes.{lesser}

pub lesser_none : (a : Option ℕ) → lesser a None ≡ a
lesser_none None = refl
lesser_none (Some a) = refl

pub lesser_moves : (a b c : Option ℕ) → lesser (lesser a b) c ≡ lesser a (lesser b c)
lesser_moves None b c = refl
lesser_moves (Some a) None c = refl
lesser_moves (Some a) (Some b) None = refl
lesser_moves (Some a) (Some b) (Some c) = grind arith
