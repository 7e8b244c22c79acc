use Rattle.std.proofs.Common.{◌≡◌, map}
use Rattle.std.specs.List.{range_with_len}
use Rattle.guest_any.specs.Openings.{opening_guest}
use Rattle.dn_top.proofs.written.made_guests.Given as goal

abbrev pub invariant-loop-router : goal.invariant-loop-router
invariant-loop-router l = l.guests.items ≡ map (λ r. opening_guest l.header r) (range_with_len 0 l.router)
