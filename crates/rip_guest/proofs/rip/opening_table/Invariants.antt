use Rattle.std.proofs.Common.{◌≡◌, drop, []}
use Rattle.std.specs.Prelude.{fold, min}
use Rattle.rip_wire.specs.Constants.{infinity}
use Rattle.rip_table.specs.Own.{with_own}
use Rattle.rip_guest.proofs.rip.opening_table.Given as goal

abbrev pub invariant-loop-prefix : goal.invariant-loop-prefix
invariant-loop-prefix l =
    fold (λ routes p. with_own routes p.0 p.1 (min infinity p.2) 0) l.table (drop l.prefix-index l.prefixes) ≡ fold (λ routes p. with_own routes p.0 p.1 (min infinity p.2) 0) [] l.prefixes
