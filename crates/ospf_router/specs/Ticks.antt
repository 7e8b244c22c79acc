-- A tick: silent neighbours, aging, Hellos, retransmission (RFC 2328 sections 9.5, 10.2, 13.6 and 14).
use Rattle.std.specs.Prelude.{ℕ, ◌%◌, ◌==◌, if◌then◌else◌, List, length, fold}
use Rattle.std.specs.List.{range_with_len}
use Rattle.dn_guest.specs.Ports.{is_up}
use Rattle.ospf_wire.specs.declared.packet.Body.TheVariants as body
use Rattle.ospf_wire.specs.Constants.{HelloInterval}
use Rattle.ospf_lsdb.specs.Database.{aged, reaching_max_age}
use Rattle.ospf_flood.specs.Retransmission.{due, list_of}
use Rattle.ospf_router.specs.declared.router.Router.{Router}
use Rattle.ospf_router.specs.Neighbours.{is_dead}
use Rattle.ospf_router.specs.Interfaces.{AtPorts, full_mask, neighbour_down, neighbour_at}
use Rattle.ospf_router.specs.Hellos.{hello_to}
use Rattle.ospf_router.specs.Flooding.{flood_next_lsa, send_lsas, send_packet}

-- the router's ports, in ascending order
abbrev pub ports_of : AtPorts → List ℕ
ports_of a = range_with_len 0 (length a.ports)

-- 1. a neighbour that was last heard RouterDeadInterval or more ticks ago goes Down (section 10.2)
abbrev pub check_dead_neighbour : ℕ → AtPorts → ℕ → AtPorts
check_dead_neighbour now a port = if is_dead now (neighbour_at a port) then neighbour_down port a else a

unfoldable pub check_dead_neighbours : Router → Router
check_dead_neighbours r = record r { interfaces = fold (check_dead_neighbour r.tick) r.interfaces (ports_of r.interfaces) }

-- 2. in order, each LSA that reaches MaxAge is set to it and flooded on all ports (section 14)
unfoldable pub age_lsas : ℕ → Router → Router
age_lsas full r = fold (flood_next_lsa full) (record r { db = aged r.tick r.db }) (reaching_max_age r.tick r.db)

-- 3. at every tick that HelloInterval divides a Hello goes out on each up port (section 9.5)
unfoldable pub send_hello : ℕ → Router → ℕ → Router
send_hello ports r port =
    if is_up ports port then send_packet port (body.Hello (hello_to (neighbour_at r.interfaces port))) r else r

unfoldable pub send_hellos : ℕ → Router → Router
send_hellos ports r = if r.tick % HelloInterval == 0 then fold (send_hello ports) r (ports_of r.interfaces) else r

-- 4. on each up port with a Full neighbour, what was last sent there RxmtInterval or more ticks ago is sent again
-- (section 13.6)
unfoldable pub retransmit_on : ℕ → Router → ℕ → Router
retransmit_on full r port =
    if is_up full port then send_lsas port (due r.tick (list_of r.interfaces.lists port)) r else r

unfoldable pub retransmit : ℕ → Router → Router
retransmit full r = fold (retransmit_on full) r (ports_of r.interfaces)

-- 2. to 4.
unfoldable pub run_timers : ℕ → Router → Router
run_timers ports r =
    let full = full_mask ports r.interfaces in
    retransmit full (send_hellos ports (age_lsas full r))

-- the router after the tick of this group
unfoldable pub ticked : ℕ → ℕ → Router → Router
ticked ports group r = run_timers ports (check_dead_neighbours (record r { tick = group }))
