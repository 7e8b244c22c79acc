-- The network of a fabric's header and openings.
use Rattle.std.proofs.Common.{◌≡◌, ℕ, zero, suc, ◌<◌, ◌≤◌, List, [], ◌∷◌, length, get_or, refl, arith}
use Rattle.std.specs.Prelude.{Some, slice_get}
use Rattle.dn_guest.specs.Meaning.{Meaning}
use Rattle.dn_model.specs.Cases.{Heading}
use Rattle.dn_model.specs.Network.{Network, routers}
use Rattle.dn_fabric.specs.Fabrics.{IsNetworkOf}

get_some : {S : Type 0} (xs : List S) (d : S) (r : ℕ) → r < length xs → slice_get xs r ≡ Some (get_or xs r d)
get_some [] d r l = absurd (omega (arith, l))
get_some (x ∷ xs) d zero l = refl
get_some (x ∷ xs) d (suc r) l = get_some xs d r (omega (arith, l))

-- a header with a router, and an opening for each of its routers, are those of a network
pub some_network : {S : Type 0} (guests : Meaning S) (h : Heading) (openings : List S) → 1 ≤ length h.routers → length openings ≡ length h.routers → (net : Network S) × IsNetworkOf net guests h openings
unfolding routers
some_network guests h [] some count = absurd (omega (arith, count, some))
some_network guests h (s ∷ ss) some count = (
  record { header = h; guests = guests; opening = λ r. get_or (s ∷ ss) r s },
  record { header = refl; guests = refl; openings = λ r l. get_some (s ∷ ss) s r (omega (arith, l, count)) },
)
