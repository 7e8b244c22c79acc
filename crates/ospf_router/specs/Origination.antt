-- The end of a step: the router's own LSA is originated anew where it has to be, and what is gone is removed (RFC 2328
-- sections 12.4 and 14).
use Rattle.std.specs.Prelude.{ℕ, ◌+◌, ◌&&◌, ◌||◌, Bool, true, not, nat_le, if◌then◌else◌, List, [], ◌∷◌, ◌++◌, map, fold, Option, Some, None, is_some, nat_eq}
use Rattle.std.specs.Cmp.Lexicographic.{pointwise}
use Rattle.dn_guest.specs.Ports.{is_up}
use Rattle.ospf_wire.specs.declared.router_lsa.RouterLink.{RouterLink}
use Rattle.ospf_wire.specs.RouterLsas.{router_body_bytes}
use Rattle.ospf_wire.specs.Constants.{LSRefreshTime, MinLSInterval, PointToPoint, StubNetwork}
use Rattle.ospf_lsdb.specs.declared.key.LsaKey.{LsaKey}
use Rattle.ospf_lsdb.specs.declared.kept.Kept.{Kept}
use Rattle.ospf_lsdb.specs.Keys.{own_key}
use Rattle.ospf_lsdb.specs.Kept.{age_of}
use Rattle.ospf_lsdb.specs.Database.{Database, max_age_lsas, kept_at, originated, next_sequence_number, without}
use Rattle.ospf_flood.specs.Retransmission.{without_lsa_anywhere}
use Rattle.ospf_router.specs.declared.neighbour.Neighbour.{Neighbour}
use Rattle.ospf_router.specs.declared.neighbour.Neighbour.TheVariants.{Down, Init, Full}
use Rattle.ospf_router.specs.declared.interfaces.Port.{Port}
use Rattle.ospf_router.specs.declared.router.Router.{Router}
use Rattle.ospf_router.specs.Interfaces.{AtPorts, full_mask, is_listed}
use Rattle.dn_net.specs.Networks.{Network, mask_of}
use Rattle.ospf_router.specs.State.{id_of}
use Rattle.ospf_router.specs.Flooding.{flood_lsa}

-- ---- the wanted body (section 12.4.1)

-- the link to a Full neighbour: type 1, the neighbour's id, the port's number plus 1, the port's cost
abbrev pub link_to : ℕ → ℕ → Neighbour → List RouterLink
link_to port cost Down = []
link_to port cost (Init h) = []
link_to port cost (Full h) = record { id = h.id; «data» = port + 1; kind = PointToPoint; metric = cost } ∷ []

-- those of the up ports from p on
abbrev pub links_from : ℕ → ℕ → List Port → List RouterLink
links_from p ports [] = []
links_from p ports (x ∷ xs) =
    (if is_up ports p then link_to p x.cost x.neighbour else []) ++ links_from (p + 1) ports xs

-- the stub link of a network: type 3, the address, the mask, the cost
abbrev pub stub_of : Network × ℕ → RouterLink
stub_of e = record { id = e.0.0; «data» = mask_of e.0.1; kind = StubNetwork; metric = e.1 }

-- the links to the Full neighbours of the up ports, then the networks
unfoldable pub wanted_links : ℕ → Router → List RouterLink
wanted_links ports r = links_from 0 ports r.interfaces.ports ++ map stub_of r.prefixes

unfoldable pub wanted_body : ℕ → Router → List ℕ
wanted_body ports r = router_body_bytes (wanted_links ports r)

-- ---- whether the own LSA is to be originated

-- there was no origination, or the last was MinLSInterval or more ticks ago (section 12.4)
abbrev pub may_originate : ℕ → Option ℕ → Bool
may_originate now None = true
may_originate now (Some tick) = nat_le (tick + MinLSInterval) now

-- it is missing, a received instance (section 13.4), LSRefreshTime or older (section 12.4), or of another body
abbrev pub is_outdated : ℕ → List ℕ → Option Kept → Bool
is_outdated now wanted None = true
is_outdated now wanted (Some k) =
    k.foreign || nat_le LSRefreshTime (age_of now k) || not (pointwise nat_eq k.lsa.body wanted)

-- it isn't at MaxSequenceNumber, behind which there is none
abbrev pub has_next_sequence_number : Option Kept → Bool
has_next_sequence_number own = is_some (next_sequence_number own)

-- The old instance leaves all lists, the new one is installed, not by flooding, and flooded on all ports.
unfoldable pub originate_own_lsa : ℕ → List ℕ → Router → Router
originate_own_lsa full wanted r =
    flood_lsa full (own_key (id_of r)) (record r {
      originated = Some r.tick;
      interfaces = record r.interfaces { lists = without_lsa_anywhere (own_key (id_of r)) r.interfaces.lists };
      db = originated r.db (id_of r) wanted r.tick;
    })

unfoldable pub originate_if_needed : ℕ → Router → Router
originate_if_needed ports r =
    let own = kept_at r.db (own_key (id_of r)) in
    let wanted = wanted_body ports r in
    if may_originate r.tick r.originated && is_outdated r.tick wanted own && has_next_sequence_number own
    then originate_own_lsa (full_mask ports r.interfaces) wanted r else r

-- ---- what is gone

-- an LSA that stands on no list is removed
abbrev pub remove_max_age_lsa : AtPorts → Database → LsaKey → Database
remove_max_age_lsa a db key = if is_listed key a then db else without db key

unfoldable pub remove_max_age_lsas : Router → Router
remove_max_age_lsas r = record r { db = fold (remove_max_age_lsa r.interfaces) r.db (max_age_lsas r.tick r.db) }

-- the end of every step
unfoldable pub finish_step : ℕ → Router → Router
finish_step ports r = remove_max_age_lsas (originate_if_needed ports r)
