-- A neighbour gets Full only on a port that a message comes on, and one is Full only on a port that is up.
use Rattle.std.proofs.Common.{◌≡◌, ◌≢◌, inl, inr, ℕ, zero, suc, true, false, cond, ◌%◌, List, [], ◌∷◌, refl, sym, ap, subst, ◌∙◌, arith}
use Rattle.std.specs.Prelude.{◌==◌, fold, slice_set, Option, Some, None}
use Rattle.std.specs.List.{list_any}
use Rattle.std.specs.Map.{keys_of}
use Rattle.dn_guest.specs.Ports.{is_up}
use Rattle.ospf_wire.specs.declared.lsa.Lsa.{Lsa}
use Rattle.ospf_wire.specs.declared.lsa.LsaHeader.{LsaHeader}
use Rattle.ospf_wire.specs.declared.hello.Hello.{Hello}
use Rattle.ospf_wire.specs.declared.packet.Body.{Body}
use Rattle.ospf_wire.specs.declared.packet.Body.TheVariants as body
use Rattle.ospf_wire.specs.declared.packet.Packet.{Packet}
use Rattle.ospf_wire.specs.Reading.{packet_at}
use Rattle.ospf_lsdb.specs.declared.key.LsaKey.{LsaKey}
use Rattle.ospf_lsdb.specs.Keys.{key_of}
use Rattle.ospf_lsdb.specs.Database.{aged, reaching_max_age, kept_at}
use Rattle.ospf_flood.specs.Retransmission.{due, list_of}
use Rattle.ospf_router.specs.declared.router.Router.{Router}
use Rattle.ospf_router.specs.declared.neighbour.Neighbour.TheVariants.{Down, Init, Full}
use Rattle.ospf_router.specs.declared.interfaces.Port.{Port}
use Rattle.ospf_router.specs.State.{id_of}
use Rattle.ospf_router.specs.Interfaces.{AtPorts, emptied, full_mask, has_port, listed, neighbour_at, neighbour_down, port_at, unlisted, with_neighbour}
use Rattle.ospf_router.specs.Neighbours.{heard_now, is_dead, is_full, is_other}
use Rattle.ospf_router.specs.BuildUpdates.{updates_on}
use Rattle.ospf_router.specs.Flooding.{flood_next_lsa, flood_lsa, list_as_sent, send_lsas, send_packet, putting}
use Rattle.ospf_router.specs.Ticks.{age_lsas, check_dead_neighbour, check_dead_neighbours, ports_of, retransmit, retransmit_on, run_timers, send_hello, send_hellos, ticked}
use Rattle.ospf_router.specs.Hellos.{accepts_hello, hello_to, neighbour_full, one_way_received, receive_hello, replace_neighbour, two_way_received}
use Rattle.ospf_router.specs.ReceiveUpdate.{Taken, answered, kept_by, receive_lsa, receive_update, send_acknowledgement, taken_of}
use Rattle.ospf_router.specs.ReceiveAcknowledgement.{is_copy, receive_acknowledgement, receive_header}
use Rattle.ospf_router.specs.Step.{is_from_full, receive_body, receive_message, receive_packet}
use Rattle.ospf_laws.proofs.Choice.{choose, folded}
use Rattle.ospf_laws.proofs.Masks.{FullAt, first_or}

-- what holds of each port with a Full neighbour
abbrev pub WithinAt : (ℕ → Type 0) → AtPorts → Type 0
WithinAt U a = (p : ℕ) → FullAt a.ports p → U p

abbrev pub Within : (ℕ → Type 0) → Router → Type 0
Within U r = WithinAt U r.interfaces

-- ---- neighbours

pub past : (p : ℕ) → FullAt [] p → ⊥
past p full = absurd cc

-- a port whose neighbour isn't Full any more
pub was_full : (xs : List Port) (port : ℕ) (x : Port) (p : ℕ) → is_full x.neighbour ≡ false → FullAt (slice_set xs port x) p → (port ≢ p) × FullAt xs p
was_full [] port x p not full = (λ e. past p full, full)
was_full (y ∷ xs) zero x zero not full = let both : true ≡ false = sym full ∙ not in absurd cc
was_full (y ∷ xs) zero x (suc p) not full = (λ e. omega (arith, e), full)
was_full (y ∷ xs) (suc port) x zero not full = (λ e. omega (arith, e), full)
was_full (y ∷ xs) (suc port) x (suc p) not full =
    let rest = was_full xs port x p not full in
    (λ e. rest.0 (omega (arith, e)), rest.1)

-- another neighbour at the port leaves the others
was_full_elsewhere : (xs : List Port) (port : ℕ) (x : Port) (p : ℕ) → port ≢ p → FullAt (slice_set xs port x) p → FullAt xs p
was_full_elsewhere [] port x p differ full = full
was_full_elsewhere (y ∷ xs) zero x zero differ full = absurd (differ refl)
was_full_elsewhere (y ∷ xs) zero x (suc p) differ full = full
was_full_elsewhere (y ∷ xs) (suc port) x zero differ full = full
was_full_elsewhere (y ∷ xs) (suc port) x (suc p) differ full = was_full_elsewhere xs port x p (λ e. differ (ap (λ (k : ℕ). suc k) e)) full

at-down : (U : ℕ → Type 0) (port : ℕ) (a : AtPorts) → WithinAt U a → WithinAt U (neighbour_down port a)
unfolding neighbour_down emptied with_neighbour
at-down U port a within p full = within p (was_full a.ports port (record (port_at a port) { neighbour = Down }) p refl full).1

in-neighbour_full : (U : ℕ → Type 0) (port from : ℕ) (r : Router) → U port → Within U r → Within U (neighbour_full port from r)
unfolding with_neighbour
in-neighbour_full U port from r here within p full = elim (first_or port p) [
  | inl same ↦ subst U same here
  | inr differ ↦ within p (was_full_elsewhere r.interfaces.ports port (record (port_at r.interfaces port) { neighbour = Full (heard_now from r.tick) }) p differ full)
]

at-replace_neighbour : (U : ℕ → Type 0) (port from : ℕ) (a : AtPorts) → WithinAt U a → WithinAt U (replace_neighbour port from a)
unfolding replace_neighbour
at-replace_neighbour U port from a within =
    choose (WithinAt U) (is_other from (neighbour_at a port)) (neighbour_down port a) a (λ _. at-down U port a within) (λ _. within)

-- ---- sending

in-flood_lsa : (U : ℕ → Type 0) (mask : ℕ) (key : LsaKey) (r : Router) → Within U r → Within U (flood_lsa mask key r)
unfolding flood_lsa
in-flood_lsa U mask key r h = h

in-send_packet : (U : ℕ → Type 0) (port : ℕ) (b : Body) (r : Router) → Within U r → Within U (send_packet port b r)
unfolding send_packet
in-send_packet U port b r h = h

in-list_as_sent : (U : ℕ → Type 0) (port : ℕ) (r : Router) (key : LsaKey) → Within U r → Within U (list_as_sent port r key)
unfolding list_as_sent listed
in-list_as_sent U port r key h = h

in-send_lsas : (U : ℕ → Type 0) (port : ℕ) (ks : List LsaKey) (r : Router) → Within U r → Within U (send_lsas port ks r)
unfolding send_lsas
in-send_lsas U port ks r h = folded (Within U) (list_as_sent port) (in-list_as_sent U port) ks (putting (updates_on port r.number r.tick r.db ks) r) h

-- ---- a tick

in-check_dead_neighbours : (U : ℕ → Type 0) (r : Router) → Within U r → Within U (check_dead_neighbours r)
unfolding check_dead_neighbours
in-check_dead_neighbours U r h =
    folded (WithinAt U) (check_dead_neighbour r.tick)
    (λ a p g. choose (WithinAt U) (is_dead r.tick (neighbour_at a p)) (neighbour_down p a) a (λ _. at-down U p a g) (λ _. g))
    (ports_of r.interfaces) r.interfaces h

in-age_lsas : (U : ℕ → Type 0) (full : ℕ) (r : Router) → Within U r → Within U (age_lsas full r)
unfolding age_lsas
in-age_lsas U full r h =
    folded (Within U) (flood_next_lsa full) (λ t key g. in-flood_lsa U full key t g) (reaching_max_age r.tick r.db) (record r { db = aged r.tick r.db }) h

in-send_hello : (U : ℕ → Type 0) (ports : ℕ) (r : Router) (port : ℕ) → Within U r → Within U (send_hello ports r port)
unfolding send_hello
in-send_hello U ports r port h =
    let b = body.Hello (hello_to (neighbour_at r.interfaces port)) in
    choose (Within U) (is_up ports port) (send_packet port b r) r (λ _. in-send_packet U port b r h) (λ _. h)

in-send_hellos : (U : ℕ → Type 0) (ports : ℕ) (r : Router) → Within U r → Within U (send_hellos ports r)
unfolding send_hellos
in-send_hellos U ports r h =
    choose (Within U) (r.tick % 10 == 0) (fold (send_hello ports) r (ports_of r.interfaces)) r
    (λ _. folded (Within U) (send_hello ports) (in-send_hello U ports) (ports_of r.interfaces) r h) (λ _. h)

in-retransmit_on : (U : ℕ → Type 0) (full : ℕ) (r : Router) (port : ℕ) → Within U r → Within U (retransmit_on full r port)
unfolding retransmit_on
in-retransmit_on U full r port h =
    let ks = due r.tick (list_of r.interfaces.lists port) in
    choose (Within U) (is_up full port) (send_lsas port ks r) r (λ _. in-send_lsas U port ks r h) (λ _. h)

in-retransmit : (U : ℕ → Type 0) (full : ℕ) (r : Router) → Within U r → Within U (retransmit full r)
unfolding retransmit
in-retransmit U full r h = folded (Within U) (retransmit_on full) (in-retransmit_on U full) (ports_of r.interfaces) r h

in-run_timers : (U : ℕ → Type 0) (ports : ℕ) (r : Router) → Within U r → Within U (run_timers ports r)
unfolding run_timers
in-run_timers U ports r h =
    let full = full_mask ports r.interfaces in
    in-retransmit U full (send_hellos ports (age_lsas full r)) (in-send_hellos U ports (age_lsas full r) (in-age_lsas U full r h))

pub in-ticked : (U : ℕ → Type 0) (ports group : ℕ) (r : Router) → Within U r → Within U (ticked ports group r)
unfolding ticked
in-ticked U ports group r h = in-run_timers U ports (check_dead_neighbours (record r { tick = group })) (in-check_dead_neighbours U (record r { tick = group }) h)

-- ---- a message

in-two_way_received : (U : ℕ → Type 0) (port from : ℕ) (r : Router) → U port → Within U r → Within U (two_way_received port from r)
unfolding two_way_received
in-two_way_received U port from r here h =
    choose (Within U) (is_full (neighbour_at r.interfaces port)) (neighbour_full port from r) (send_lsas port (keys_of r.db) (neighbour_full port from r))
    (λ _. in-neighbour_full U port from r here h) (λ _. in-send_lsas U port (keys_of r.db) (neighbour_full port from r) (in-neighbour_full U port from r here h))

in-one_way_received : (U : ℕ → Type 0) (port from : ℕ) (r : Router) → Within U r → Within U (one_way_received port from r)
unfolding one_way_received emptied with_neighbour
in-one_way_received U port from r h p full = h p (was_full r.interfaces.ports port (record (port_at r.interfaces port) { neighbour = Init (heard_now from r.tick) }) p refl full).1

without_other : ℕ → ℕ → Router → Router
without_other port from r = record r { interfaces = replace_neighbour port from r.interfaces }

in-receive_hello : (U : ℕ → Type 0) (port from : ℕ) (hello : Hello) (r : Router) → U port → Within U r → Within U (receive_hello port from hello r)
unfolding receive_hello without_other
in-receive_hello U port from hello r here h =
    let s : Router = without_other port from r in
    let other = at-replace_neighbour U port from r.interfaces h in
    choose (Within U) (accepts_hello r from hello) (cond (list_any (λ id. id == id_of r) hello.neighbours) (two_way_received port from s) (one_way_received port from s)) r
    (λ _. choose (Within U) (list_any (λ id. id == id_of r) hello.neighbours) (two_way_received port from s) (one_way_received port from s)
    (λ _. in-two_way_received U port from s here other) (λ _. in-one_way_received U port from s other))
    (λ _. h)

in-receive_lsa : (U : ℕ → Type 0) (full port : ℕ) (t : Taken) (l : Lsa) → Within U t.router → Within U (receive_lsa full port t l).router
unfolding receive_lsa answered kept_by
in-receive_lsa U full port t l h = h

in-send_acknowledgement : (U : ℕ → Type 0) (port : ℕ) (hs : List LsaHeader) (r : Router) → Within U r → Within U (send_acknowledgement port hs r)
unfolding send_acknowledgement
in-send_acknowledgement U port [] r h = h
in-send_acknowledgement U port (x ∷ hs) r h = in-send_packet U port (body.Ack (x ∷ hs)) r h

in-receive_update : (U : ℕ → Type 0) (full port : ℕ) (ls : List Lsa) (r : Router) → Within U r → Within U (receive_update full port ls r)
unfolding receive_update
in-receive_update U full port ls r h =
    let t = fold (receive_lsa full port) (taken_of r []) ls in
    in-send_acknowledgement U port t.acks t.router
    (folded (λ (x : Taken). Within U x.router) (receive_lsa full port) (in-receive_lsa U full port) ls (taken_of r []) h)

in-receive_header : (U : ℕ → Type 0) (port : ℕ) (r : Router) (x : LsaHeader) → Within U r → Within U (receive_header port r x)
unfolding receive_header unlisted
in-receive_header U port r x h =
    choose (Within U) (is_copy r.tick x (kept_at r.db (key_of x))) (record r { interfaces = unlisted port (key_of x) r.interfaces }) r (λ _. h) (λ _. h)

in-receive_acknowledgement : (U : ℕ → Type 0) (port : ℕ) (hs : List LsaHeader) (r : Router) → Within U r → Within U (receive_acknowledgement port hs r)
unfolding receive_acknowledgement
in-receive_acknowledgement U port hs r h = folded (Within U) (receive_header port) (in-receive_header U port) hs r h

in-receive_body : (U : ℕ → Type 0) (ports port from : ℕ) (b : Body) (r : Router) → U port → Within U r → Within U (receive_body ports port from b r)
unfolding receive_body
in-receive_body U ports port from (body.Hello x) r here h = in-receive_hello U port from x r here h
in-receive_body U ports port from (body.Update ls) r here h =
    choose (Within U) (is_from_full port from r) (receive_update (full_mask ports r.interfaces) port ls r) r
    (λ _. in-receive_update U (full_mask ports r.interfaces) port ls r h) (λ _. h)
in-receive_body U ports port from (body.Ack hs) r here h =
    choose (Within U) (is_from_full port from r) (receive_acknowledgement port hs r) r (λ _. in-receive_acknowledgement U port hs r h) (λ _. h)

in-receive_packet : (U : ℕ → Type 0) (ports port : ℕ) (found : Option Packet) (r : Router) → U port → Within U r → Within U (receive_packet ports port found r)
in-receive_packet U ports port None r here h = h
in-receive_packet U ports port (Some p) r here h =
    choose (Within U) (p.area == 0) (receive_body ports port p.router p.body r) r (λ _. in-receive_body U ports port p.router p.body r here h) (λ _. h)

pub in-receive_message : (U : ℕ → Type 0) (ports port : ℕ) (bytes : List ℕ) (r : Router) → U port → Within U r → Within U (receive_message ports port bytes r)
unfolding receive_message
in-receive_message U ports port bytes r here h =
    choose (Within U) (has_port r.interfaces port) (receive_packet ports port (packet_at bytes) r) r (λ _. in-receive_packet U ports port (packet_at bytes) r here h) (λ _. h)
