-- Which ports have something on their retransmission lists (RFC 2328 sections 10 and 13.3).
use Rattle.std.specs.Prelude.{◌≡◌, ℕ, false, []}
use Rattle.ospf_flood.specs.Retransmission.{list_of}
use Rattle.ospf_router.specs.Interfaces.{AtPorts, neighbour_at}
use Rattle.ospf_router.specs.Neighbours.{is_full}

-- the list of each port whose neighbour isn't Full is empty
abbrev pub AreOfFull : AtPorts → Type 0
AreOfFull a = (port : ℕ) → is_full (neighbour_at a port) ≡ false → list_of a.lists port ≡ []
