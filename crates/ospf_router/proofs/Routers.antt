-- Each part of a step leaves a sound router.
use Rattle.std.proofs.Common.{◌≡◌, ℕ, true, cond, ◌+◌, ◌%◌, ◌≤◌, List, [], ◌∷◌, length, sym, ◌∙◌, arith}
use Rattle.std.specs.Prelude.{◌==◌, nat_le, fold, slice_set}
use Rattle.std.specs.List.{AllByRecursion, list_any}
use Rattle.std.specs.Map.{keys_of}
use Rattle.std.proofs.lemmas.List.{length-set}
use Rattle.dn_guest.specs.Ports.{is_up}
use Rattle.ospf_wire.specs.declared.lsa.Lsa.{Lsa}
use Rattle.ospf_wire.specs.declared.lsa.LsaHeader.{LsaHeader}
use Rattle.ospf_wire.specs.declared.hello.Hello.{Hello}
use Rattle.ospf_wire.specs.declared.packet.Body.{Body}
use Rattle.ospf_wire.specs.declared.packet.Body.TheVariants as body
use Rattle.ospf_lsdb.specs.declared.key.LsaKey.{LsaKey}
use Rattle.ospf_lsdb.specs.declared.kept.Kept.{Kept}
use Rattle.ospf_lsdb.specs.Keys.{key_of, own_key}
use Rattle.ospf_lsdb.specs.Kept.{sent_at, reaches_max_age}
use Rattle.ospf_lsdb.specs.Database.{Database, aged, changed, reaching_max_age, kept_at}
use Rattle.ospf_flood.specs.Retransmission.{OnPort, due, list_of, without_lsa, with_lsa}
use Rattle.ospf_flood.specs.Flooding.{State, flooded, state}
use Rattle.ospf_flood.specs.Receiving.{received}
use Rattle.ospf_lsdb.proofs.DatabaseLaws.{key_cmp_total}
use Rattle.ospf_router.specs.declared.neighbour.Neighbour.{Neighbour}
use Rattle.ospf_router.specs.declared.neighbour.Neighbour.TheVariants.{Down, Init, Full}
use Rattle.ospf_router.specs.declared.router.Router.{Router}
use Rattle.ospf_router.specs.State.{id_of, state_of}
use Rattle.ospf_router.specs.Interfaces.{AtPorts, emptied, listed, neighbour_down, neighbour_at, port_at, unlisted, with_neighbour}
use Rattle.ospf_router.specs.Neighbours.{heard_now, is_dead, is_full, is_other}
use Rattle.ospf_router.specs.BuildUpdates.{is_sendable, updates_on}
use Rattle.ospf_router.specs.Flooding.{flood_next_lsa, flood_lsa, list_as_sent, send_lsas, send_packet, putting, with_state}
use Rattle.ospf_router.specs.Ticks.{age_lsas, send_hellos, send_hello, ports_of, retransmit, retransmit_on, ticked, run_timers, check_dead_neighbours, check_dead_neighbour}
use Rattle.ospf_router.specs.Hellos.{receive_hello, hello_to, accepts_hello, neighbour_full, one_way_received, two_way_received, replace_neighbour}
use Rattle.ospf_router.specs.ReceiveUpdate.{Taken, send_acknowledgement, answered, kept_by, taken_of, receive_lsa, receive_update}
use Rattle.ospf_router.specs.ReceiveAcknowledgement.{receive_acknowledgement, receive_header, is_copy}
use Rattle.ospf_router.specs.Interfaces.{full_mask}
use Rattle.ospf_router.specs.declared.interfaces.Port.{Port}
use Rattle.ospf_router.specs.Sound.{IsHeard, IsSoundList, IsSoundState}
use Rattle.ospf_router.proofs.Choice.{choose, folded}
use Rattle.ospf_router.proofs.Rising.{all_more, each-filter, each-set, finds_each}
use Rattle.ospf_router.proofs.Database.{Has, database_later, empty_list, has-kept, keys-aged, keys-changed, list_at, lists_later, lists_more, off_list, past_later, sound-aged, sound-changed, with_list}
use Rattle.ospf_router.proofs.Received.{IsSound, keys-note_flooded, sound-flooded, sound-received, sound-sent_at}

abbrev pub IsSoundRouter : Router → Type 0
IsSoundRouter r = IsSoundState (state_of r)

-- ---- the parts of a router

pub parts : (r : Router) → IsSoundRouter r → IsSound r.tick (own_key (id_of r)) (length r.interfaces.ports) (state r.db r.interfaces.lists)
parts r sound = record { database = sound.database; listed = sound.listed; count = sound.lists }

pub sound-state : (s : State) (r : Router) → IsSound r.tick (own_key (id_of r)) (length r.interfaces.ports) s → IsSoundRouter r → IsSoundRouter (with_state s r)
sound-state s r new sound = record {
  tick = sound.tick;
  originated = sound.originated;
  networks = sound.networks;
  ports = sound.ports;
  heard = sound.heard;
  lists = new.count;
  database = new.database;
  listed = new.listed;
}

-- what a router has at its ports at a tick
pub record IsSoundAt (now : ℕ) (db : Database) (a : AtPorts) : Type 0 where
  pub ports : length a.ports ≤ 16
  pub lists : length a.lists ≡ length a.ports
  pub heard : AllByRecursion (λ p. IsHeard now p.neighbour) a.ports
  pub listed : AllByRecursion (IsSoundList now db) a.lists

pub at_of : (r : Router) → IsSoundRouter r → IsSoundAt r.tick r.db r.interfaces
at_of r sound = record { ports = sound.ports; lists = sound.lists; heard = sound.heard; listed = sound.listed }

pub sound-at : (a : AtPorts) (r : Router) → IsSoundAt r.tick r.db a → IsSoundRouter r → IsSoundRouter (record r { interfaces = a })
sound-at a r new sound = record {
  tick = sound.tick;
  originated = sound.originated;
  networks = sound.networks;
  ports = new.ports;
  lists = new.lists;
  heard = new.heard;
  database = sound.database;
  listed = new.listed;
}

pub at-neighbour : (now : ℕ) (db : Database) (p : ℕ) (n : Neighbour) (a : AtPorts) → IsHeard now n → IsSoundAt now db a → IsSoundAt now db (with_neighbour p n a)
unfolding with_neighbour
at-neighbour now db p n a heard sound =
    let port : Port = record (port_at a p) { neighbour = n } in
    let same = length-set a.ports p port in
    record {
      ports = omega (arith, same, sound.ports);
      lists = sound.lists ∙ sym same;
      heard = each-set (λ (x : Port). IsHeard now x.neighbour) a.ports p port heard sound.heard;
      listed = sound.listed;
    }

at-list : (now : ℕ) (db : Database) (p : ℕ) (l : OnPort) (a : AtPorts) → IsSoundList now db l → IsSoundAt now db a → IsSoundAt now db (record a { lists = slice_set a.lists p l })
at-list now db p l a new sound = record {
  ports = sound.ports;
  lists = length-set a.lists p l ∙ sound.lists;
  heard = sound.heard;
  listed = each-set (IsSoundList now db) a.lists p l new sound.listed;
}

at-emptied : (now : ℕ) (db : Database) (p : ℕ) (a : AtPorts) → IsSoundAt now db a → IsSoundAt now db (emptied p a)
unfolding emptied
at-emptied now db p a sound = at-list now db p [] a (empty_list now db) sound

pub at-neighbour_down : (now : ℕ) (db : Database) (p : ℕ) (a : AtPorts) → IsSoundAt now db a → IsSoundAt now db (neighbour_down p a)
unfolding neighbour_down
at-neighbour_down now db p a sound = at-emptied now db p (with_neighbour p Down a) (at-neighbour now db p Down a tt sound)

-- ---- sending

pub sound-packet : (port : ℕ) (b : Body) (r : Router) → IsSoundRouter r → IsSoundRouter (send_packet port b r)
unfolding send_packet
sound-packet port b r sound = sound

pub sound-flood_lsa : (mask : ℕ) (key : LsaKey) (r : Router) → Has r.db key → IsSoundRouter r → IsSoundRouter (flood_lsa mask key r)
unfolding flood_lsa
sound-flood_lsa mask key r has sound =
    sound-state (flooded mask key r.tick (state r.db r.interfaces.lists)) r
    (sound-flooded (own_key (id_of r)) key (length r.interfaces.ports) mask r.tick (state r.db r.interfaces.lists) has (parts r sound)) sound

keys-flood_lsa : (mask : ℕ) (key : LsaKey) (r : Router) → keys_of (flood_lsa mask key r).db ≡ keys_of r.db
unfolding flood_lsa
keys-flood_lsa mask key r = keys-note_flooded mask r.tick key r.db

flooded_each : (mask : ℕ) (ks : List LsaKey) (r : Router) → AllByRecursion (Has r.db) ks → IsSoundRouter r → IsSoundRouter (fold (flood_next_lsa mask) r ks)
flooded_each mask [] r all sound = sound
flooded_each mask (k ∷ ks) r all sound =
    flooded_each mask ks (flood_lsa mask k r)
    (all_more (Has r.db) (Has (flood_lsa mask k r).db) (λ q h. has-kept (flood_lsa mask k r).db r.db q (keys-flood_lsa mask k r) h) ks all.1)
    (sound-flood_lsa mask k r all.0 sound)

sound-list_as_sent : (port : ℕ) (r : Router) (key : LsaKey) → Has r.db key → IsSoundRouter r → IsSoundRouter (list_as_sent port r key)
unfolding list_as_sent listed
sound-list_as_sent port r key has sound =
    let d = changed key (sent_at r.tick) r.db in
    let kept : (q : LsaKey) → Has r.db q → Has d q = λ q h. has-kept d r.db q (keys-changed key (sent_at r.tick) r.db) h in
    let all : AllByRecursion (IsSoundList r.tick d) r.interfaces.lists = lists_more r.tick r.db d r.interfaces.lists kept sound.listed in
    let l = with_lsa (list_of r.interfaces.lists port) key r.tick in
    record {
      tick = sound.tick;
      originated = sound.originated;
      networks = sound.networks;
      ports = sound.ports;
      heard = sound.heard;
      lists = length-set r.interfaces.lists port l ∙ sound.lists;
      database = sound-changed r.tick (own_key (id_of r)) key (sent_at r.tick) r.db (sound-sent_at r.tick) sound.database;
      listed = each-set (IsSoundList r.tick d) r.interfaces.lists port l (with_list r.tick d (list_of r.interfaces.lists port) key (kept key has) (list_at r.tick d r.interfaces.lists port all)) all;
    }

keys-list_as_sent : (port : ℕ) (r : Router) (key : LsaKey) → keys_of (list_as_sent port r key).db ≡ keys_of r.db
unfolding list_as_sent
keys-list_as_sent port r key = keys-changed key (sent_at r.tick) r.db

noted_each : (port : ℕ) (ks : List LsaKey) (r : Router) → AllByRecursion (Has r.db) ks → IsSoundRouter r → IsSoundRouter (fold (list_as_sent port) r ks)
noted_each port [] r all sound = sound
noted_each port (k ∷ ks) r all sound =
    noted_each port ks (list_as_sent port r k)
    (all_more (Has r.db) (Has (list_as_sent port r k).db) (λ q h. has-kept (list_as_sent port r k).db r.db q (keys-list_as_sent port r k) h) ks all.1)
    (sound-list_as_sent port r k all.0 sound)

pub sound-send_lsas : (port : ℕ) (ks : List LsaKey) (r : Router) → AllByRecursion (Has r.db) ks → IsSoundRouter r → IsSoundRouter (send_lsas port ks r)
unfolding send_lsas
sound-send_lsas port ks r all sound = noted_each port ks (putting (updates_on port r.number r.tick r.db ks) r) all sound

-- ---- a tick

sound-check_dead_neighbours : (r : Router) → IsSoundRouter r → IsSoundRouter (check_dead_neighbours r)
unfolding check_dead_neighbours
sound-check_dead_neighbours r sound =
    sound-at (fold (check_dead_neighbour r.tick) r.interfaces (ports_of r.interfaces)) r
    (folded (IsSoundAt r.tick r.db) (check_dead_neighbour r.tick)
    (λ a p h. choose (IsSoundAt r.tick r.db) (is_dead r.tick (neighbour_at a p)) (neighbour_down p a) a (λ _. at-neighbour_down r.tick r.db p a h) (λ _. h))
    (ports_of r.interfaces) r.interfaces (at_of r sound)) sound

aged_router : Router → Router
aged_router r = record r { db = aged r.tick r.db }

sound-aged_router : (r : Router) → IsSoundRouter r → IsSoundRouter (aged_router r)
unfolding aged_router
sound-aged_router r sound = record {
  tick = sound.tick;
  originated = sound.originated;
  networks = sound.networks;
  ports = sound.ports;
  heard = sound.heard;
  lists = sound.lists;
  database = sound-aged (own_key (id_of r)) r.tick r.db sound.database;
  listed = lists_more r.tick r.db (aged r.tick r.db) r.interfaces.lists (λ q h. has-kept (aged r.tick r.db) r.db q (keys-aged r.tick r.db) h) sound.listed;
}

sound-age_lsas : (full : ℕ) (r : Router) → IsSoundRouter r → IsSoundRouter (age_lsas full r)
unfolding age_lsas aged_router
sound-age_lsas full r sound =
    flooded_each full (reaching_max_age r.tick r.db) (aged_router r)
    (all_more (Has r.db) (Has (aged r.tick r.db)) (λ q h. has-kept (aged r.tick r.db) r.db q (keys-aged r.tick r.db) h) (reaching_max_age r.tick r.db)
    (each-filter (Has r.db) (λ (e : LsaKey × Kept). reaches_max_age r.tick e.1) r.db (finds_each key_cmp_total r.db)))
    (sound-aged_router r sound)

sound-send_hellos : (ports : ℕ) (r : Router) → IsSoundRouter r → IsSoundRouter (send_hellos ports r)
unfolding send_hellos send_hello
sound-send_hellos ports r sound =
    choose IsSoundRouter (r.tick % 10 == 0) (fold (send_hello ports) r (ports_of r.interfaces)) r
    (λ _. folded IsSoundRouter (send_hello ports)
    (λ t p h. choose IsSoundRouter (is_up ports p) (send_packet p (body.Hello (hello_to (neighbour_at t.interfaces p))) t) t (λ _. sound-packet p (body.Hello (hello_to (neighbour_at t.interfaces p))) t h) (λ _. h))
    (ports_of r.interfaces) r sound)
    (λ _. sound)

sound-retransmit_on : (full : ℕ) (r : Router) (port : ℕ) → IsSoundRouter r → IsSoundRouter (retransmit_on full r port)
unfolding retransmit_on
sound-retransmit_on full r port sound =
    let ks = due r.tick (list_of r.interfaces.lists port) in
    choose IsSoundRouter (is_up full port) (send_lsas port ks r) r
    (λ _. sound-send_lsas port ks r (each-filter (Has r.db) (λ (e : LsaKey × ℕ). nat_le (e.1 + 5) r.tick) (list_of r.interfaces.lists port) (list_at r.tick r.db r.interfaces.lists port sound.listed).kept) sound)
    (λ _. sound)

sound-retransmit : (full : ℕ) (r : Router) → IsSoundRouter r → IsSoundRouter (retransmit full r)
unfolding retransmit
sound-retransmit full r sound = folded IsSoundRouter (retransmit_on full) (sound-retransmit_on full) (ports_of r.interfaces) r sound

sound-run_timers : (ports : ℕ) (r : Router) → IsSoundRouter r → IsSoundRouter (run_timers ports r)
unfolding run_timers
sound-run_timers ports r sound =
    let full = full_mask ports r.interfaces in
    sound-retransmit full (send_hellos ports (age_lsas full r)) (sound-send_hellos ports (age_lsas full r) (sound-age_lsas full r sound))

at_tick : ℕ → Router → Router
at_tick group r = record r { tick = group }

heard_later : (now later : ℕ) (n : Neighbour) → now ≤ later → IsHeard now n → IsHeard later n
heard_later now later Down le heard = tt
heard_later now later (Init h) le heard = omega (arith, le, heard)
heard_later now later (Full h) le heard = omega (arith, le, heard)

sound-at_tick : (group : ℕ) (r : Router) → r.tick ≤ group → group ≤ 65535 → IsSoundRouter r → IsSoundRouter (at_tick group r)
unfolding at_tick
sound-at_tick group r later few sound = record {
  tick = few;
  originated = past_later r.tick group r.originated later sound.originated;
  networks = sound.networks;
  ports = sound.ports;
  lists = sound.lists;
  heard = all_more (λ (p : Port). IsHeard r.tick p.neighbour) (λ (p : Port). IsHeard group p.neighbour) (λ p h. heard_later r.tick group p.neighbour later h) r.interfaces.ports sound.heard;
  database = database_later r.tick group (own_key (id_of r)) r.db later sound.database;
  listed = lists_later r.tick group r.db r.interfaces.lists later sound.listed;
}

pub sound-ticked : (ports group : ℕ) (r : Router) → r.tick ≤ group → group ≤ 65535 → IsSoundRouter r → IsSoundRouter (ticked ports group r)
unfolding ticked at_tick
sound-ticked ports group r later few sound = sound-run_timers ports (check_dead_neighbours (at_tick group r)) (sound-check_dead_neighbours (at_tick group r) (sound-at_tick group r later few sound))

-- ---- a Hello

sound-neighbour_full : (port from : ℕ) (r : Router) → IsSoundRouter r → IsSoundRouter (neighbour_full port from r)
sound-neighbour_full port from r sound =
    sound-at (with_neighbour port (Full (heard_now from r.tick)) r.interfaces) r (at-neighbour r.tick r.db port (Full (heard_now from r.tick)) r.interfaces (omega arith) (at_of r sound)) sound

sound-two_way_received : (port from : ℕ) (r : Router) → IsSoundRouter r → IsSoundRouter (two_way_received port from r)
unfolding two_way_received
sound-two_way_received port from r sound =
    choose IsSoundRouter (is_full (neighbour_at r.interfaces port)) (neighbour_full port from r) (send_lsas port (keys_of r.db) (neighbour_full port from r))
    (λ _. sound-neighbour_full port from r sound)
    (λ _. sound-send_lsas port (keys_of r.db) (neighbour_full port from r) (finds_each key_cmp_total r.db) (sound-neighbour_full port from r sound))

sound-one_way_received : (port from : ℕ) (r : Router) → IsSoundRouter r → IsSoundRouter (one_way_received port from r)
unfolding one_way_received
sound-one_way_received port from r sound =
    let a = with_neighbour port (Init (heard_now from r.tick)) r.interfaces in
    sound-at (emptied port a) r (at-emptied r.tick r.db port a (at-neighbour r.tick r.db port (Init (heard_now from r.tick)) r.interfaces (omega arith) (at_of r sound))) sound

at-other : (now : ℕ) (db : Database) (port from : ℕ) (a : AtPorts) → IsSoundAt now db a → IsSoundAt now db (replace_neighbour port from a)
unfolding replace_neighbour
at-other now db port from a sound =
    choose (IsSoundAt now db) (is_other from (neighbour_at a port)) (neighbour_down port a) a (λ _. at-neighbour_down now db port a sound) (λ _. sound)

without_other : ℕ → ℕ → Router → Router
without_other port from r = record r { interfaces = replace_neighbour port from r.interfaces }

pub sound-receive_hello : (port from : ℕ) (h : Hello) (r : Router) → IsSoundRouter r → IsSoundRouter (receive_hello port from h r)
unfolding receive_hello without_other
sound-receive_hello port from h r sound =
    let s : Router = without_other port from r in
    let other : IsSoundRouter s = sound-at (replace_neighbour port from r.interfaces) r (at-other r.tick r.db port from r.interfaces (at_of r sound)) sound in
    choose IsSoundRouter (accepts_hello r from h) (cond (list_any (λ id. id == id_of r) h.neighbours) (two_way_received port from s) (one_way_received port from s)) r
    (λ _. choose IsSoundRouter (list_any (λ id. id == id_of r) h.neighbours) (two_way_received port from s) (one_way_received port from s) (λ _. sound-two_way_received port from s other) (λ _. sound-one_way_received port from s other))
    (λ _. sound)

-- ---- an Update

pub sound-receive_lsa : (full port : ℕ) (t : Taken) (l : Lsa) → is_sendable l ≡ true → IsSoundRouter t.router → IsSoundRouter (receive_lsa full port t l).router
unfolding receive_lsa answered kept_by
sound-receive_lsa full port t l sendable sound =
    let r = t.router in
    let s = state r.db r.interfaces.lists in
    sound-state (received s full port l (id_of r) r.tick) r
    (sound-received (own_key (id_of r)) (length r.interfaces.ports) s full port l (id_of r) r.tick sendable (parts r sound)) sound

took_each : (full port : ℕ) (ls : List Lsa) (t : Taken) → AllByRecursion (λ l. is_sendable l ≡ true) ls → IsSoundRouter t.router → IsSoundRouter (fold (receive_lsa full port) t ls).router
took_each full port [] t all sound = sound
took_each full port (l ∷ ls) t all sound = took_each full port ls (receive_lsa full port t l) all.1 (sound-receive_lsa full port t l all.0 sound)

sound-send_acknowledgement : (port : ℕ) (hs : List LsaHeader) (r : Router) → IsSoundRouter r → IsSoundRouter (send_acknowledgement port hs r)
unfolding send_acknowledgement
sound-send_acknowledgement port [] r sound = sound
sound-send_acknowledgement port (h ∷ hs) r sound = sound-packet port (body.Ack (h ∷ hs)) r sound

pub sound-receive_update : (full port : ℕ) (ls : List Lsa) (r : Router) → AllByRecursion (λ l. is_sendable l ≡ true) ls → IsSoundRouter r → IsSoundRouter (receive_update full port ls r)
unfolding receive_update
sound-receive_update full port ls r all sound =
    let t = fold (receive_lsa full port) (taken_of r []) ls in
    sound-send_acknowledgement port t.acks t.router (took_each full port ls (taken_of r []) all sound)

-- ---- an Acknowledgement

sound-receive_header : (port : ℕ) (r : Router) (h : LsaHeader) → IsSoundRouter r → IsSoundRouter (receive_header port r h)
unfolding receive_header unlisted
sound-receive_header port r h sound =
    let l = without_lsa (key_of h) (list_of r.interfaces.lists port) in
    choose IsSoundRouter (is_copy r.tick h (kept_at r.db (key_of h))) (record r { interfaces = unlisted port (key_of h) r.interfaces }) r
    (λ _. sound-at (unlisted port (key_of h) r.interfaces) r
    (at-list r.tick r.db port l r.interfaces (off_list r.tick r.db (key_of h) (list_of r.interfaces.lists port) (list_at r.tick r.db r.interfaces.lists port sound.listed)) (at_of r sound)) sound)
    (λ _. sound)

pub sound-receive_acknowledgement : (port : ℕ) (hs : List LsaHeader) (r : Router) → IsSoundRouter r → IsSoundRouter (receive_acknowledgement port hs r)
unfolding receive_acknowledgement
sound-receive_acknowledgement port hs r sound = folded IsSoundRouter (receive_header port) (sound-receive_header port) hs r sound
