-- Hellos (RFC 2328 sections 9.5 and 10.5).
use Rattle.std.specs.Prelude.{ℕ, ◌==◌, Bool, not, ◌&&◌, if◌then◌else◌}
use Rattle.std.specs.List.{list_any}
use Rattle.std.specs.Map.{keys_of}
use Rattle.std.specs.Int.{bit_at}
use Rattle.ospf_wire.specs.declared.hello.Hello.{Hello}
use Rattle.ospf_wire.specs.Constants.{EBit, HelloInterval, OwnOptions, RouterDeadInterval}
use Rattle.ospf_router.specs.declared.neighbour.Neighbour.{Neighbour}
use Rattle.ospf_router.specs.declared.neighbour.Neighbour.TheVariants.{Init, Full}
use Rattle.ospf_router.specs.declared.router.Router.{Router}
use Rattle.ospf_router.specs.Neighbours.{heard_now, ids, is_full, is_other}
use Rattle.ospf_router.specs.Interfaces.{AtPorts, emptied, neighbour_down, neighbour_at, with_neighbour}
use Rattle.ospf_router.specs.State.{id_of}
use Rattle.ospf_router.specs.Flooding.{send_lsas}

-- the Hello that goes out if this is the neighbour (section 9.5)
abbrev pub hello_to : Neighbour → Hello
hello_to n = record {
  mask = 0;
  interval = HelloInterval;
  options = OwnOptions;
  priority = 0;
  dead = RouterDeadInterval;
  dr = 0;
  bdr = 0;
  neighbours = ids n;
}

-- it is from another router, and agrees on the two intervals and the E bit; all else isn't looked at (section 10.5)
abbrev pub accepts_hello : Router → ℕ → Hello → Bool
accepts_hello r from h =
    not (from == 0) && not (from == id_of r) && h.interval == HelloInterval && h.dead == RouterDeadInterval && bit_at h.options EBit == 1

-- another neighbour than the one before: that one goes Down first
unfoldable pub replace_neighbour : ℕ → ℕ → AtPorts → AtPorts
replace_neighbour port from a = if is_other from (neighbour_at a port) then neighbour_down port a else a

-- the neighbour is Full now, heard now
abbrev pub neighbour_full : ℕ → ℕ → Router → Router
neighbour_full port from r = record r { interfaces = with_neighbour port (Full (heard_now from r.tick)) r.interfaces }

-- it lists this router (the event 2-WayReceived, section 10.2): it is Full, and if it wasn't the whole database is
-- sent to it
unfoldable pub two_way_received : ℕ → ℕ → Router → Router
two_way_received port from r =
    if is_full (neighbour_at r.interfaces port) then neighbour_full port from r
    else send_lsas port (keys_of r.db) (neighbour_full port from r)

-- it doesn't list this router (the event 1-WayReceived, section 10.2): it is Init, and the port's list is emptied
unfoldable pub one_way_received : ℕ → ℕ → Router → Router
one_way_received port from r =
    record r { interfaces = emptied port (with_neighbour port (Init (heard_now from r.tick)) r.interfaces) }

-- the router after a Hello of area 0 from this router id
unfoldable pub receive_hello : ℕ → ℕ → Hello → Router → Router
receive_hello port from h r =
    if accepts_hello r from h
    then (let s : Router = record r { interfaces = replace_neighbour port from r.interfaces } in
    if list_any (λ id. id == id_of r) h.neighbours then two_way_received port from s else one_way_received port from s)
    else r
