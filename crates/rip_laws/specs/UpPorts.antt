-- A router in its node, which keeps the mask of the ports that are up.
use Rattle.std.specs.Prelude.{◌≡◌, ◌<◌, ℕ, true, List, fold, Some, IfSome}
use Rattle.dn_guest.specs.declared.input.Input.{Input}
use Rattle.dn_guest.specs.declared.node.Node.{Node}
use Rattle.dn_guest.specs.Node.{node_after}
use Rattle.dn_guest.specs.Ports.{is_up}
use Rattle.dn_net.specs.Networks.{Network}
use Rattle.rip_wire.specs.Constants.{infinity}
use Rattle.rip_table.specs.Routes.{held_at}
use Rattle.rip_guest.specs.Rip.{rip}
use Rattle.rip_guest.specs.State.{Prefix, RipState, opening}

-- the node at the start, with this mask
abbrev pub opening_node : ℕ → List ℕ → List Prefix → ℕ → Node RipState
opening_node number costs prefixes ports = record { guest = opening number costs prefixes; ports = ports; sends = 0 }

-- the node after these inputs
abbrev pub node_run : Node RipState → List Input → Node RipState
node_run node inputs = fold (node_after rip) node inputs

-- each route that was learnt, and can be reached, goes by a port that is up
abbrev pub AreByUpPorts : Node RipState → Type 0
AreByUpPorts node =
    (n : Network) → IfSome (held_at node.guest.routes n)
    (λ h. h.metric < infinity → (port : ℕ) → h.via ≡ Some port → is_up node.ports port ≡ true)
