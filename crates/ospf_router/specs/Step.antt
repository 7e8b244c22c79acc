-- The step of the OSPF guest, by cases on the state and the input.
use Rattle.std.specs.Prelude.{ℕ, ⊤, ◌≤◌, ◌==◌, ◌||◌, Bool, false, nat_lt, if◌then◌else◌, List, Option, Some, None}
use Rattle.dn_guest.specs.declared.input.Input.{Input}
use Rattle.dn_guest.specs.declared.input.Input.TheVariants.{Tick, Cmd, Down, Up, Msg}
use Rattle.dn_guest.specs.declared.outbox.Output.{Output}
use Rattle.ospf_wire.specs.declared.packet.Body.{Body}
use Rattle.ospf_wire.specs.declared.packet.Body.TheVariants as body
use Rattle.ospf_wire.specs.declared.packet.Packet.{Packet}
use Rattle.ospf_wire.specs.Reading.{packet_at}
use Rattle.ospf_wire.specs.Constants.{Backbone}
use Rattle.ospf_router.specs.declared.router.Router.{Router}
use Rattle.ospf_router.specs.Neighbours.{is_full_of}
use Rattle.ospf_router.specs.Interfaces.{full_mask, has_port, neighbour_down, neighbour_at}
use Rattle.ospf_router.specs.State.{OspfState, router_of, state_of}
use Rattle.ospf_router.specs.Hellos.{receive_hello}
use Rattle.ospf_router.specs.ReceiveUpdate.{receive_update}
use Rattle.ospf_router.specs.ReceiveAcknowledgement.{receive_acknowledgement}
use Rattle.ospf_router.specs.Ticks.{ticked}
use Rattle.ospf_router.specs.Origination.{finish_step}
use Rattle.ospf_router.specs.Commands.{commanded}

-- the packet is from the Full neighbour at the port
abbrev pub is_from_full : ℕ → ℕ → Router → Bool
is_from_full port from r = is_full_of from (neighbour_at r.interfaces port)

-- a body of area 0, by its type (section 8.2); Updates and Acknowledgements count from a Full neighbour alone
unfoldable pub receive_body : ℕ → ℕ → ℕ → Body → Router → Router
receive_body ports port from (body.Hello h) r = receive_hello port from h r
receive_body ports port from (body.Update ls) r =
    if is_from_full port from r then receive_update (full_mask ports r.interfaces) port ls r else r
receive_body ports port from (body.Ack hs) r = if is_from_full port from r then receive_acknowledgement port hs r else r

-- a packet of another area, and bytes that are no packet, do nothing
abbrev pub receive_packet : ℕ → ℕ → Option Packet → Router → Router
receive_packet ports port None r = r
receive_packet ports port (Some p) r =
    if p.area == Backbone then receive_body ports port p.router p.body r else r

unfoldable pub receive_message : ℕ → ℕ → List ℕ → Router → Router
receive_message ports port bytes r =
    if has_port r.interfaces port then receive_packet ports port (packet_at bytes) r else r

-- the neighbour at a port that goes down is Down (section 10.3, LLDown)
unfoldable pub port_down : ℕ → Router → Router
port_down port r = if has_port r.interfaces port then record r { interfaces = neighbour_down port r.interfaces } else r

-- what an input does before the end of the step, `ports` being the mask of the up ports
unfoldable pub handled : ℕ → Input → Router → Router
handled ports (Tick group) r = ticked ports group r
handled ports (Cmd bytes) r = record r { prefixes = commanded bytes r.prefixes }
handled ports (Down port) r = port_down port r
handled ports (Up port) r = r
handled ports (Msg port bytes) r = receive_message ports port bytes r

-- a tick before the last one, or past 65,535, does nothing at all
abbrev pub is_passed_over : ℕ → Input → Bool
is_passed_over tick (Tick group) = nat_lt group tick || nat_lt 65535 group
is_passed_over tick (Cmd bytes) = false
is_passed_over tick (Down port) = false
is_passed_over tick (Up port) = false
is_passed_over tick (Msg port bytes) = false

-- a tick up to 65,535, or another input
abbrev pub IsTaken : Input → Type 0
IsTaken (Tick group) = group ≤ 65535
IsTaken (Cmd bytes) = ⊤
IsTaken (Down port) = ⊤
IsTaken (Up port) = ⊤
IsTaken (Msg port bytes) = ⊤

-- a step
unfoldable pub stepped : ℕ → Input → Router → Router
stepped ports input r = finish_step ports (handled ports input r)

-- a step, but for a tick that is passed over
unfoldable pub next : ℕ → Input → Router → Router
next ports input r = if is_passed_over r.tick input then r else stepped ports input r

unfoldable pub ospf_after : OspfState → ℕ → Input → OspfState
ospf_after s ports input = state_of (next ports input (router_of s))

unfoldable pub ospf_outs : OspfState → ℕ → Input → List Output
ospf_outs s ports input = (next ports input (router_of s)).out
