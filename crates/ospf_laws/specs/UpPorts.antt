-- A router in its node, which keeps the mask of the ports that are up.
use Rattle.std.specs.Prelude.{◌≡◌, ◌&&◌, ℕ, false, List, [], fold}
use Rattle.dn_guest.specs.declared.input.Input.{Input}
use Rattle.dn_guest.specs.declared.node.Node.{Node}
use Rattle.dn_guest.specs.Node.{node_after}
use Rattle.dn_guest.specs.Ports.{is_up}
use Rattle.ospf_flood.specs.Retransmission.{list_of}
use Rattle.ospf_guest.specs.Ospf.{ospf}
use Rattle.ospf_router.specs.Interfaces.{neighbour_at}
use Rattle.ospf_router.specs.Neighbours.{is_full}
use Rattle.ospf_router.specs.State.{OspfState, Prefix, opening}

-- the node at the start, with this mask
abbrev pub opening_node : ℕ → List ℕ → List Prefix → ℕ → Node OspfState
opening_node number costs prefixes ports = record { guest = opening number costs prefixes; ports = ports; sends = 0 }

-- the node after these inputs
abbrev pub node_run : Node OspfState → List Input → Node OspfState
node_run node inputs = fold (node_after ospf) node inputs

-- the list of each port is empty, but where the port is up and its neighbour is Full
abbrev pub AreOfUpPorts : Node OspfState → Type 0
AreOfUpPorts node =
    (port : ℕ) → (is_up node.ports port && is_full (neighbour_at node.guest.interfaces port)) ≡ false
    → list_of node.guest.interfaces.lists port ≡ []
