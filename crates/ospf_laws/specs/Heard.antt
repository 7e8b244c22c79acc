-- The Hello that is due on a port (RFC 2328 sections 9.5 and 10.2).
use Rattle.std.specs.Prelude.{ℕ, if◌then◌else◌}
use Rattle.dn_guest.specs.declared.outbox.Output.{Output}
use Rattle.ospf_wire.specs.declared.packet.Body.TheVariants as body
use Rattle.ospf_router.specs.declared.neighbour.Neighbour.{Neighbour}
use Rattle.ospf_router.specs.declared.neighbour.Neighbour.TheVariants.{Down}
use Rattle.ospf_router.specs.BuildUpdates.{packet_of}
use Rattle.ospf_router.specs.Hellos.{hello_to}
use Rattle.ospf_router.specs.Interfaces.{neighbour_at}
use Rattle.ospf_router.specs.Neighbours.{is_dead}
use Rattle.ospf_router.specs.State.{OspfState}

-- the neighbour, if it was heard fewer than RouterDeadInterval ticks ago, and no neighbour otherwise
abbrev pub heard_at : ℕ → Neighbour → Neighbour
heard_at now n = if is_dead now n then Down else n

-- the Hello on a port at a tick: it lists the neighbour that was heard there
abbrev pub hello_on : OspfState → ℕ → ℕ → Output
hello_on s now port =
    record { port = port; body = packet_of s.number (body.Hello (hello_to (heard_at now (neighbour_at s.interfaces port)))) }
