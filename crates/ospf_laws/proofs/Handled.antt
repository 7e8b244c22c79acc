-- What an input does before the end of the step leaves the tick of the last origination as it was.
use Rattle.std.proofs.Common.{◌≡◌, ℕ, cond, ◌%◌, List, [], ◌∷◌, refl}
use Rattle.std.specs.Prelude.{◌==◌, fold, Option, Some, None}
use Rattle.std.specs.List.{list_any}
use Rattle.std.specs.Map.{keys_of}
use Rattle.dn_guest.specs.declared.input.Input.{Input}
use Rattle.dn_guest.specs.declared.input.Input.TheVariants as input
use Rattle.dn_guest.specs.Ports.{is_up}
use Rattle.ospf_wire.specs.declared.lsa.Lsa.{Lsa}
use Rattle.ospf_wire.specs.declared.lsa.LsaHeader.{LsaHeader}
use Rattle.ospf_wire.specs.declared.hello.Hello.{Hello}
use Rattle.ospf_wire.specs.declared.packet.Body.{Body}
use Rattle.ospf_wire.specs.declared.packet.Body.TheVariants as body
use Rattle.ospf_wire.specs.declared.packet.Packet.{Packet}
use Rattle.ospf_wire.specs.Reading.{packet_at}
use Rattle.ospf_lsdb.specs.declared.key.LsaKey.{LsaKey}
use Rattle.ospf_lsdb.specs.Keys.{key_of}
use Rattle.ospf_lsdb.specs.Database.{aged, reaching_max_age, kept_at}
use Rattle.ospf_flood.specs.Retransmission.{due, list_of}
use Rattle.ospf_router.specs.declared.router.Router.{Router}
use Rattle.ospf_router.specs.State.{id_of}
use Rattle.ospf_router.specs.Interfaces.{full_mask, has_port, neighbour_at, neighbour_down, unlisted}
use Rattle.ospf_router.specs.Neighbours.{is_full}
use Rattle.ospf_router.specs.BuildUpdates.{updates_on}
use Rattle.ospf_router.specs.Flooding.{flood_next_lsa, flood_lsa, list_as_sent, send_lsas, send_packet, putting}
use Rattle.ospf_router.specs.Ticks.{age_lsas, check_dead_neighbours, ports_of, retransmit, retransmit_on, run_timers, send_hello, send_hellos, ticked}
use Rattle.ospf_router.specs.Hellos.{accepts_hello, hello_to, neighbour_full, one_way_received, receive_hello, replace_neighbour, two_way_received}
use Rattle.ospf_router.specs.ReceiveUpdate.{Taken, answered, kept_by, receive_lsa, receive_update, send_acknowledgement, taken_of}
use Rattle.ospf_router.specs.ReceiveAcknowledgement.{is_copy, receive_acknowledgement, receive_header}
use Rattle.ospf_router.specs.Step.{handled, is_from_full, port_down, receive_body, receive_message, receive_packet}
use Rattle.ospf_laws.proofs.Choice.{choose, folded}

-- the router has this number, and originated its LSA last then
abbrev pub IsOf : ℕ → Option ℕ → Router → Type 0
IsOf number o r = (r.number ≡ number) × (r.originated ≡ o)

-- ---- sending

of-flood_lsa : (n : ℕ) (o : Option ℕ) (mask : ℕ) (key : LsaKey) (r : Router) → IsOf n o r → IsOf n o (flood_lsa mask key r)
unfolding flood_lsa
of-flood_lsa n o mask key r h = h

of-send_packet : (n : ℕ) (o : Option ℕ) (port : ℕ) (b : Body) (r : Router) → IsOf n o r → IsOf n o (send_packet port b r)
unfolding send_packet
of-send_packet n o port b r h = h

of-list_as_sent : (n : ℕ) (o : Option ℕ) (port : ℕ) (r : Router) (key : LsaKey) → IsOf n o r → IsOf n o (list_as_sent port r key)
unfolding list_as_sent
of-list_as_sent n o port r key h = h

of-send_lsas : (n : ℕ) (o : Option ℕ) (port : ℕ) (ks : List LsaKey) (r : Router) → IsOf n o r → IsOf n o (send_lsas port ks r)
unfolding send_lsas
of-send_lsas n o port ks r h = folded (IsOf n o) (list_as_sent port) (of-list_as_sent n o port) ks (putting (updates_on port r.number r.tick r.db ks) r) h

-- ---- a tick

of-check_dead_neighbours : (n : ℕ) (o : Option ℕ) (r : Router) → IsOf n o r → IsOf n o (check_dead_neighbours r)
unfolding check_dead_neighbours
of-check_dead_neighbours n o r h = h

of-age_lsas : (n : ℕ) (o : Option ℕ) (full : ℕ) (r : Router) → IsOf n o r → IsOf n o (age_lsas full r)
unfolding age_lsas
of-age_lsas n o full r h =
    folded (IsOf n o) (flood_next_lsa full) (λ t key g. of-flood_lsa n o full key t g) (reaching_max_age r.tick r.db) (record r { db = aged r.tick r.db }) h

of-send_hello : (n : ℕ) (o : Option ℕ) (ports : ℕ) (r : Router) (port : ℕ) → IsOf n o r → IsOf n o (send_hello ports r port)
unfolding send_hello
of-send_hello n o ports r port h =
    let b = body.Hello (hello_to (neighbour_at r.interfaces port)) in
    choose (IsOf n o) (is_up ports port) (send_packet port b r) r (λ _. of-send_packet n o port b r h) (λ _. h)

of-send_hellos : (n : ℕ) (o : Option ℕ) (ports : ℕ) (r : Router) → IsOf n o r → IsOf n o (send_hellos ports r)
unfolding send_hellos
of-send_hellos n o ports r h =
    choose (IsOf n o) (r.tick % 10 == 0) (fold (send_hello ports) r (ports_of r.interfaces)) r
    (λ _. folded (IsOf n o) (send_hello ports) (of-send_hello n o ports) (ports_of r.interfaces) r h) (λ _. h)

of-retransmit_on : (n : ℕ) (o : Option ℕ) (full : ℕ) (r : Router) (port : ℕ) → IsOf n o r → IsOf n o (retransmit_on full r port)
unfolding retransmit_on
of-retransmit_on n o full r port h =
    let ks = due r.tick (list_of r.interfaces.lists port) in
    choose (IsOf n o) (is_up full port) (send_lsas port ks r) r (λ _. of-send_lsas n o port ks r h) (λ _. h)

of-retransmit : (n : ℕ) (o : Option ℕ) (full : ℕ) (r : Router) → IsOf n o r → IsOf n o (retransmit full r)
unfolding retransmit
of-retransmit n o full r h = folded (IsOf n o) (retransmit_on full) (of-retransmit_on n o full) (ports_of r.interfaces) r h

of-run_timers : (n : ℕ) (o : Option ℕ) (ports : ℕ) (r : Router) → IsOf n o r → IsOf n o (run_timers ports r)
unfolding run_timers
of-run_timers n o ports r h =
    let full = full_mask ports r.interfaces in
    of-retransmit n o full (send_hellos ports (age_lsas full r)) (of-send_hellos n o ports (age_lsas full r) (of-age_lsas n o full r h))

of-ticked : (n : ℕ) (o : Option ℕ) (ports group : ℕ) (r : Router) → IsOf n o r → IsOf n o (ticked ports group r)
unfolding ticked
of-ticked n o ports group r h = of-run_timers n o ports (check_dead_neighbours (record r { tick = group })) (of-check_dead_neighbours n o (record r { tick = group }) h)

-- ---- a message

of-two_way_received : (n : ℕ) (o : Option ℕ) (port from : ℕ) (r : Router) → IsOf n o r → IsOf n o (two_way_received port from r)
unfolding two_way_received
of-two_way_received n o port from r h =
    choose (IsOf n o) (is_full (neighbour_at r.interfaces port)) (neighbour_full port from r) (send_lsas port (keys_of r.db) (neighbour_full port from r))
    (λ _. h) (λ _. of-send_lsas n o port (keys_of r.db) (neighbour_full port from r) h)

of-one_way_received : (n : ℕ) (o : Option ℕ) (port from : ℕ) (r : Router) → IsOf n o r → IsOf n o (one_way_received port from r)
unfolding one_way_received
of-one_way_received n o port from r h = h

without_other : ℕ → ℕ → Router → Router
without_other port from r = record r { interfaces = replace_neighbour port from r.interfaces }

of-receive_hello : (n : ℕ) (o : Option ℕ) (port from : ℕ) (hello : Hello) (r : Router) → IsOf n o r → IsOf n o (receive_hello port from hello r)
unfolding receive_hello without_other
of-receive_hello n o port from hello r h =
    let s : Router = without_other port from r in
    choose (IsOf n o) (accepts_hello r from hello) (cond (list_any (λ id. id == id_of r) hello.neighbours) (two_way_received port from s) (one_way_received port from s)) r
    (λ _. choose (IsOf n o) (list_any (λ id. id == id_of r) hello.neighbours) (two_way_received port from s) (one_way_received port from s)
    (λ _. of-two_way_received n o port from s h) (λ _. of-one_way_received n o port from s h))
    (λ _. h)

of-receive_lsa : (n : ℕ) (o : Option ℕ) (full port : ℕ) (t : Taken) (l : Lsa) → IsOf n o t.router → IsOf n o (receive_lsa full port t l).router
unfolding receive_lsa answered kept_by
of-receive_lsa n o full port t l h = h

of-send_acknowledgement : (n : ℕ) (o : Option ℕ) (port : ℕ) (hs : List LsaHeader) (r : Router) → IsOf n o r → IsOf n o (send_acknowledgement port hs r)
unfolding send_acknowledgement
of-send_acknowledgement n o port [] r h = h
of-send_acknowledgement n o port (x ∷ hs) r h = of-send_packet n o port (body.Ack (x ∷ hs)) r h

of-receive_update : (n : ℕ) (o : Option ℕ) (full port : ℕ) (ls : List Lsa) (r : Router) → IsOf n o r → IsOf n o (receive_update full port ls r)
unfolding receive_update
of-receive_update n o full port ls r h =
    let t = fold (receive_lsa full port) (taken_of r []) ls in
    of-send_acknowledgement n o port t.acks t.router
    (folded (λ (x : Taken). IsOf n o x.router) (receive_lsa full port) (of-receive_lsa n o full port) ls (taken_of r []) h)

of-receive_header : (n : ℕ) (o : Option ℕ) (port : ℕ) (r : Router) (x : LsaHeader) → IsOf n o r → IsOf n o (receive_header port r x)
unfolding receive_header
of-receive_header n o port r x h =
    choose (IsOf n o) (is_copy r.tick x (kept_at r.db (key_of x))) (record r { interfaces = unlisted port (key_of x) r.interfaces }) r (λ _. h) (λ _. h)

of-receive_acknowledgement : (n : ℕ) (o : Option ℕ) (port : ℕ) (hs : List LsaHeader) (r : Router) → IsOf n o r → IsOf n o (receive_acknowledgement port hs r)
unfolding receive_acknowledgement
of-receive_acknowledgement n o port hs r h = folded (IsOf n o) (receive_header port) (of-receive_header n o port) hs r h

of-receive_body : (n : ℕ) (o : Option ℕ) (ports port from : ℕ) (b : Body) (r : Router) → IsOf n o r → IsOf n o (receive_body ports port from b r)
unfolding receive_body
of-receive_body n o ports port from (body.Hello x) r h = of-receive_hello n o port from x r h
of-receive_body n o ports port from (body.Update ls) r h =
    choose (IsOf n o) (is_from_full port from r) (receive_update (full_mask ports r.interfaces) port ls r) r
    (λ _. of-receive_update n o (full_mask ports r.interfaces) port ls r h) (λ _. h)
of-receive_body n o ports port from (body.Ack hs) r h =
    choose (IsOf n o) (is_from_full port from r) (receive_acknowledgement port hs r) r (λ _. of-receive_acknowledgement n o port hs r h) (λ _. h)

of-receive_packet : (n : ℕ) (o : Option ℕ) (ports port : ℕ) (found : Option Packet) (r : Router) → IsOf n o r → IsOf n o (receive_packet ports port found r)
of-receive_packet n o ports port None r h = h
of-receive_packet n o ports port (Some p) r h =
    choose (IsOf n o) (p.area == 0) (receive_body ports port p.router p.body r) r (λ _. of-receive_body n o ports port p.router p.body r h) (λ _. h)

of-receive_message : (n : ℕ) (o : Option ℕ) (ports port : ℕ) (bytes : List ℕ) (r : Router) → IsOf n o r → IsOf n o (receive_message ports port bytes r)
unfolding receive_message
of-receive_message n o ports port bytes r h =
    choose (IsOf n o) (has_port r.interfaces port) (receive_packet ports port (packet_at bytes) r) r (λ _. of-receive_packet n o ports port (packet_at bytes) r h) (λ _. h)

-- ---- an input

of-port_down : (n : ℕ) (o : Option ℕ) (port : ℕ) (r : Router) → IsOf n o r → IsOf n o (port_down port r)
unfolding port_down
of-port_down n o port r h =
    choose (IsOf n o) (has_port r.interfaces port) (record r { interfaces = neighbour_down port r.interfaces }) r (λ _. h) (λ _. h)

of-handled : (n : ℕ) (o : Option ℕ) (ports : ℕ) (i : Input) (r : Router) → IsOf n o r → IsOf n o (handled ports i r)
unfolding handled
of-handled n o ports (input.Tick group) r h = of-ticked n o ports group r h
of-handled n o ports (input.Cmd bytes) r h = h
of-handled n o ports (input.Down port) r h = of-port_down n o port r h
of-handled n o ports (input.Up port) r h = h
of-handled n o ports (input.Msg port bytes) r h = of-receive_message n o ports port bytes r h

pub originated-handled : (ports : ℕ) (i : Input) (r : Router) → (handled ports i r).originated ≡ r.originated
originated-handled ports i r = (of-handled r.number r.originated ports i r (refl, refl)).1

pub number-handled : (ports : ℕ) (i : Input) (r : Router) → (handled ports i r).number ≡ r.number
number-handled ports i r = (of-handled r.number r.originated ports i r (refl, refl)).0
