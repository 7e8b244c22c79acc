-- What a router keeps at its ports: the cost, the neighbour, and the link state retransmission list
-- (RFC 2328 sections 9 and 10).
use Rattle.std.specs.Prelude.{◌+◌, ◌&&◌, ℕ, Bool, nat_lt, if◌then◌else◌, List, [], ◌∷◌, length, map, replicate, slice_set, slice_index_or, is_some}
use Rattle.std.specs.List.{list_any}
use Rattle.dn_guest.specs.Ports.{is_up, with_up}
use Rattle.ospf_lsdb.specs.declared.key.LsaKey.{LsaKey}
use Rattle.ospf_flood.specs.Retransmission.{OnPort, OnPorts, list_of, without_lsa, last_sent, with_lsa}
use Rattle.ospf_router.specs.declared.neighbour.Neighbour.{Neighbour}
use Rattle.ospf_router.specs.declared.neighbour.Neighbour.TheVariants.{Down}
use Rattle.ospf_router.specs.declared.interfaces.Port.{Port}
use Rattle.ospf_router.specs.Neighbours.{is_full}

pub record AtPorts : Type 0 where
  pub ports : List Port
  pub lists : OnPorts

abbrev pub at_ports : List Port → OnPorts → AtPorts
at_ports ports lists = record { ports = ports; lists = lists }

-- a port of this cost, with no neighbour
abbrev pub opening_port : ℕ → Port
opening_port cost = record { cost = cost; neighbour = Down }

-- ports of these costs, each with no neighbour and an empty list
abbrev pub opening_ports : List ℕ → AtPorts
opening_ports costs = at_ports (map opening_port costs) (replicate (length costs) [])

-- the router has this port
abbrev pub has_port : AtPorts → ℕ → Bool
has_port a p = nat_lt p (length a.ports)

-- what is kept at a port; there is no neighbour at a port that the router hasn't
abbrev pub port_at : AtPorts → ℕ → Port
port_at a p = slice_index_or a.ports p (record { cost = 0; neighbour = Down })

abbrev pub neighbour_at : AtPorts → ℕ → Neighbour
neighbour_at a p = (port_at a p).neighbour

-- the neighbour at a port is this one now
unfoldable pub with_neighbour : ℕ → Neighbour → AtPorts → AtPorts
with_neighbour p n a = record a { ports = slice_set a.ports p (record (port_at a p) { neighbour = n }) }

-- the port's list is empty
unfoldable pub emptied : ℕ → AtPorts → AtPorts
emptied p a = record a { lists = slice_set a.lists p [] }

-- the neighbour goes Down, and the port's list is emptied (section 10.3)
unfoldable pub neighbour_down : ℕ → AtPorts → AtPorts
neighbour_down p a = emptied p (with_neighbour p Down a)

-- the LSA stands on the port's list, last sent at this tick
unfoldable pub listed : ℕ → LsaKey → ℕ → AtPorts → AtPorts
listed p key tick a = record a { lists = slice_set a.lists p (with_lsa (list_of a.lists p) key tick) }

-- the LSA is off the port's list
unfoldable pub unlisted : ℕ → LsaKey → AtPorts → AtPorts
unlisted p key a = record a { lists = slice_set a.lists p (without_lsa key (list_of a.lists p)) }

-- the LSA stands on some list
unfoldable pub is_listed : LsaKey → AtPorts → Bool
is_listed key a = list_any (λ (l : OnPort). is_some (last_sent l key)) a.lists

-- the mask of the up ports with a Full neighbour, from port p on
abbrev pub full_from : ℕ → ℕ → List Port → ℕ
full_from p ports [] = 0
full_from p ports (x ∷ xs) =
    if is_up ports p && is_full x.neighbour then with_up (full_from (p + 1) ports xs) p else full_from (p + 1) ports xs

-- the mask of the up ports with a Full neighbour, `ports` being the mask of the up ports
unfoldable pub full_mask : ℕ → AtPorts → ℕ
full_mask ports a = full_from 0 ports a.ports
