-- The signs with which events fly.
use Rattle.std.specs.Prelude.{Bool, true, false}
use Rattle.dn_fabric.specs.declared.flight.Sign.{Sign}
use Rattle.dn_fabric.specs.declared.flight.Sign.TheVariants.{Plus, Minus}

-- messages fly as plus
abbrev pub is_plus : Sign → Bool
is_plus Plus = true
is_plus Minus = false
