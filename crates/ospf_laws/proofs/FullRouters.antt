-- No step puts anything on the list of a port whose neighbour isn't Full, and a list is emptied where it goes Down or Init.
use Rattle.std.proofs.Common.{◌≡◌, inl, inr, ℕ, zero, suc, true, false, cond, ◌&&◌, ◌%◌, ◌<◌, List, [], ◌∷◌, length, refl, sym, ap, subst, ◌∙◌, arith}
use Rattle.std.specs.Prelude.{◌==◌, fold, nat_lt, replicate, Option, Some, None}
use Rattle.std.proofs.lemmas.Bool.Decides.{nat_tests}
use Rattle.std.proofs.lemmas.List.{length-set}
use Rattle.std.specs.List.{list_any}
use Rattle.std.specs.Map.{keys_of}
use Rattle.dn_guest.specs.declared.input.Input.{Input}
use Rattle.dn_guest.specs.declared.input.Input.TheVariants as input
use Rattle.dn_guest.specs.Ports.{is_up, with_down}
use Rattle.ospf_wire.specs.declared.lsa.Lsa.{Lsa}
use Rattle.ospf_wire.specs.declared.lsa.LsaHeader.{LsaHeader}
use Rattle.ospf_wire.specs.declared.hello.Hello.{Hello}
use Rattle.ospf_wire.specs.declared.packet.Body.{Body}
use Rattle.ospf_wire.specs.declared.packet.Body.TheVariants as body
use Rattle.ospf_wire.specs.declared.packet.Packet.{Packet}
use Rattle.ospf_wire.specs.Reading.{packet_at}
use Rattle.ospf_lsdb.specs.declared.key.LsaKey.{LsaKey}
use Rattle.ospf_lsdb.specs.Keys.{key_of, own_key}
use Rattle.ospf_lsdb.specs.Database.{aged, reaching_max_age, kept_at}
use Rattle.ospf_flood.specs.Retransmission.{due, list_of, with_lsa, without_lsa, without_lsa_anywhere}
use Rattle.ospf_flood.specs.declared.verdict.Verdict.{Verdict}
use Rattle.ospf_flood.specs.declared.verdict.Verdict.TheVariants.{Discarded, Acked, Installed, SentBack, Implied}
use Rattle.ospf_flood.specs.Flooding.{State, state}
use Rattle.ospf_flood.specs.Receiving.{apply_verdict, flood_received, flushed, is_other_self_originated}
use Rattle.ospf_flood.specs.Verdicts.{verdict_of}
use Rattle.ospf_flood.proofs.FloodLaws.{still_up}
use Rattle.ospf_router.specs.declared.router.Router.{Router}
use Rattle.ospf_router.specs.declared.neighbour.Neighbour.TheVariants.{Down, Init, Full}
use Rattle.ospf_router.specs.declared.interfaces.Port.{Port}
use Rattle.ospf_router.specs.Sound.{ospf_run}
use Rattle.ospf_router.specs.State.{OspfState, Prefix, id_of, opening, router_of}
use Rattle.ospf_router.specs.Origination.{finish_step, has_next_sequence_number, is_outdated, may_originate, originate_if_needed, originate_own_lsa, remove_max_age_lsas, wanted_body}
use Rattle.ospf_router.specs.Interfaces.{AtPorts, emptied, full_mask, has_port, listed, neighbour_at, neighbour_down, port_at, unlisted, with_neighbour}
use Rattle.ospf_router.specs.Neighbours.{heard_now, is_dead, is_full, is_other}
use Rattle.ospf_router.specs.BuildUpdates.{updates_on}
use Rattle.ospf_router.specs.Flooding.{flood_next_lsa, flood_lsa, list_as_sent, send_lsas, send_packet, putting}
use Rattle.ospf_router.specs.Ticks.{age_lsas, check_dead_neighbour, check_dead_neighbours, ports_of, retransmit, retransmit_on, run_timers, send_hello, send_hellos, ticked}
use Rattle.ospf_router.specs.Hellos.{accepts_hello, hello_to, neighbour_full, one_way_received, receive_hello, replace_neighbour, two_way_received}
use Rattle.ospf_router.specs.ReceiveUpdate.{Taken, answered, kept_by, receive_lsa, receive_update, send_acknowledgement, taken_of}
use Rattle.ospf_router.specs.ReceiveAcknowledgement.{is_copy, receive_acknowledgement, receive_header}
use Rattle.ospf_router.specs.Step.{handled, is_from_full, port_down, receive_body, is_passed_over, next, ospf_after, receive_message, receive_packet, stepped}
use Rattle.ospf_laws.proofs.Choice.{choose, folded}
use Rattle.ospf_laws.specs.Lists.{AreOfFull}
use Rattle.ospf_laws.proofs.Masks.{Covers, FullAt, covers-full_mask}
use Rattle.ospf_laws.proofs.FullLists.{Only, full_set, only-emptied, only-full, only-off, only-put, only-set}

-- these are the ports, and each has a Full neighbour or an empty list
abbrev pub IsOn : List Port → Router → Type 0
IsOn xs r = (r.interfaces.ports ≡ xs) × Only xs r.interfaces.lists

abbrev pub OnlyAt : AtPorts → Type 0
OnlyAt a = Only a.ports a.lists

abbrev pub IsOnly : Router → Type 0
IsOnly r = OnlyAt r.interfaces

only_of : (xs : List Port) (r : Router) → IsOn xs r → IsOnly r
only_of xs r on = subst (λ (ys : List Port). Only ys r.interfaces.lists) (sym on.0) on.1

-- ---- sending

on-flood_lsa : (xs : List Port) (mask : ℕ) (key : LsaKey) (r : Router) → Covers mask xs → IsOn xs r → IsOn xs (flood_lsa mask key r)
unfolding flood_lsa
on-flood_lsa xs mask key r covers on = (on.0, only-put xs mask r.tick key r.interfaces.lists covers on.1)

on-send_packet : (xs : List Port) (port : ℕ) (b : Body) (r : Router) → IsOn xs r → IsOn xs (send_packet port b r)
unfolding send_packet
on-send_packet xs port b r on = on

on-list_as_sent : (xs : List Port) (port : ℕ) (r : Router) (key : LsaKey) → FullAt xs port → IsOn xs r → IsOn xs (list_as_sent port r key)
unfolding list_as_sent listed
on-list_as_sent xs port r key full on = (on.0, only-set xs r.interfaces.lists port (with_lsa (list_of r.interfaces.lists port) key r.tick) (inl full) on.1)

on-send_lsas : (xs : List Port) (port : ℕ) (ks : List LsaKey) (r : Router) → FullAt xs port → IsOn xs r → IsOn xs (send_lsas port ks r)
unfolding send_lsas
on-send_lsas xs port ks r full on =
    folded (IsOn xs) (list_as_sent port) (λ t key h. on-list_as_sent xs port t key full h) ks (putting (updates_on port r.number r.tick r.db ks) r) on

-- ---- neighbours

at-neighbour_down : (port : ℕ) (a : AtPorts) → OnlyAt a → OnlyAt (neighbour_down port a)
unfolding neighbour_down emptied with_neighbour
at-neighbour_down port a only = only-emptied a.ports a.lists port (record (port_at a port) { neighbour = Down }) only

-- ---- a tick

only-check_dead_neighbours : (r : Router) → IsOnly r → IsOnly (check_dead_neighbours r)
unfolding check_dead_neighbours
only-check_dead_neighbours r only =
    folded OnlyAt (check_dead_neighbour r.tick)
    (λ a p h. choose OnlyAt (is_dead r.tick (neighbour_at a p)) (neighbour_down p a) a (λ _. at-neighbour_down p a h) (λ _. h))
    (ports_of r.interfaces) r.interfaces only

on-age_lsas : (xs : List Port) (full : ℕ) (r : Router) → Covers full xs → IsOn xs r → IsOn xs (age_lsas full r)
unfolding age_lsas
on-age_lsas xs full r covers on =
    folded (IsOn xs) (flood_next_lsa full) (λ t key h. on-flood_lsa xs full key t covers h) (reaching_max_age r.tick r.db) (record r { db = aged r.tick r.db }) on

on-send_hello : (xs : List Port) (ports : ℕ) (r : Router) (port : ℕ) → IsOn xs r → IsOn xs (send_hello ports r port)
unfolding send_hello
on-send_hello xs ports r port on =
    let b = body.Hello (hello_to (neighbour_at r.interfaces port)) in
    choose (IsOn xs) (is_up ports port) (send_packet port b r) r (λ _. on-send_packet xs port b r on) (λ _. on)

on-send_hellos : (xs : List Port) (ports : ℕ) (r : Router) → IsOn xs r → IsOn xs (send_hellos ports r)
unfolding send_hellos
on-send_hellos xs ports r on =
    choose (IsOn xs) (r.tick % 10 == 0) (fold (send_hello ports) r (ports_of r.interfaces)) r
    (λ _. folded (IsOn xs) (send_hello ports) (on-send_hello xs ports) (ports_of r.interfaces) r on) (λ _. on)

on-retransmit_on : (xs : List Port) (full : ℕ) (r : Router) (port : ℕ) → Covers full xs → IsOn xs r → IsOn xs (retransmit_on full r port)
unfolding retransmit_on
on-retransmit_on xs full r port covers on =
    let ks = due r.tick (list_of r.interfaces.lists port) in
    choose (IsOn xs) (is_up full port) (send_lsas port ks r) r (λ up. on-send_lsas xs port ks r (covers port up) on) (λ _. on)

on-retransmit : (xs : List Port) (full : ℕ) (r : Router) → Covers full xs → IsOn xs r → IsOn xs (retransmit full r)
unfolding retransmit
on-retransmit xs full r covers on = folded (IsOn xs) (retransmit_on full) (λ t p h. on-retransmit_on xs full t p covers h) (ports_of r.interfaces) r on

only-run_timers : (ports : ℕ) (r : Router) → IsOnly r → IsOnly (run_timers ports r)
unfolding run_timers
only-run_timers ports r only =
    let xs = r.interfaces.ports in
    let full = full_mask ports r.interfaces in
    let covers = covers-full_mask ports r.interfaces in
    only_of xs (retransmit full (send_hellos ports (age_lsas full r)))
    (on-retransmit xs full (send_hellos ports (age_lsas full r)) covers
    (on-send_hellos xs ports (age_lsas full r) (on-age_lsas xs full r covers (refl, only))))

only-ticked : (ports group : ℕ) (r : Router) → IsOnly r → IsOnly (ticked ports group r)
unfolding ticked
only-ticked ports group r only =
    only-run_timers ports (check_dead_neighbours (record r { tick = group })) (only-check_dead_neighbours (record r { tick = group }) only)

-- ---- a Hello

there_by : (port ports : ℕ) → nat_lt port ports ≡ true → port < ports
there_by port ports t = grind (arith, nat_tests)

only-neighbour_full : (port from : ℕ) (r : Router) → port < length r.interfaces.ports → IsOnly r → IsOnly (neighbour_full port from r)
unfolding with_neighbour
only-neighbour_full port from r few only =
    only-full r.interfaces.ports r.interfaces.lists port (record (port_at r.interfaces port) { neighbour = Full (heard_now from r.tick) }) few refl only

full_now : (port from : ℕ) (r : Router) → port < length r.interfaces.ports → FullAt (neighbour_full port from r).interfaces.ports port
unfolding with_neighbour
full_now port from r few = full_set r.interfaces.ports port (record (port_at r.interfaces port) { neighbour = Full (heard_now from r.tick) }) few refl

only-two_way_received : (port from : ℕ) (r : Router) → port < length r.interfaces.ports → IsOnly r → IsOnly (two_way_received port from r)
unfolding two_way_received
only-two_way_received port from r few only =
    let t = neighbour_full port from r in
    let after = only-neighbour_full port from r few only in
    choose IsOnly (is_full (neighbour_at r.interfaces port)) t (send_lsas port (keys_of r.db) t) (λ _. after)
    (λ _. only_of t.interfaces.ports (send_lsas port (keys_of r.db) t) (on-send_lsas t.interfaces.ports port (keys_of r.db) t (full_now port from r few) (refl, after)))

only-one_way_received : (port from : ℕ) (r : Router) → IsOnly r → IsOnly (one_way_received port from r)
unfolding one_way_received emptied with_neighbour
only-one_way_received port from r only =
    only-emptied r.interfaces.ports r.interfaces.lists port (record (port_at r.interfaces port) { neighbour = Init (heard_now from r.tick) }) only

at-replace_neighbour : (port from : ℕ) (a : AtPorts) → OnlyAt a → OnlyAt (replace_neighbour port from a)
unfolding replace_neighbour
at-replace_neighbour port from a only =
    choose OnlyAt (is_other from (neighbour_at a port)) (neighbour_down port a) a (λ _. at-neighbour_down port a only) (λ _. only)

few-replace_neighbour : (port from p : ℕ) (a : AtPorts) → p < length a.ports → p < length (replace_neighbour port from a).ports
unfolding replace_neighbour neighbour_down emptied with_neighbour
few-replace_neighbour port from p a few =
    choose (λ (b : AtPorts). p < length b.ports) (is_other from (neighbour_at a port)) (neighbour_down port a) a
    (λ _. omega (arith, few, length-set a.ports port (record (port_at a port) { neighbour = Down }))) (λ _. few)

without_other : ℕ → ℕ → Router → Router
without_other port from r = record r { interfaces = replace_neighbour port from r.interfaces }

only-receive_hello : (port from : ℕ) (hello : Hello) (r : Router) → port < length r.interfaces.ports → IsOnly r → IsOnly (receive_hello port from hello r)
unfolding receive_hello without_other
only-receive_hello port from hello r few only =
    let s : Router = without_other port from r in
    let other : IsOnly s = at-replace_neighbour port from r.interfaces only in
    choose IsOnly (accepts_hello r from hello) (cond (list_any (λ id. id == id_of r) hello.neighbours) (two_way_received port from s) (one_way_received port from s)) r
    (λ _. choose IsOnly (list_any (λ id. id == id_of r) hello.neighbours) (two_way_received port from s) (one_way_received port from s)
    (λ _. only-two_way_received port from s (few-replace_neighbour port from port r.interfaces few) other) (λ _. only-one_way_received port from s other))
    (λ _. only)

-- ---- an Update

covers-down : (full from : ℕ) (xs : List Port) → Covers full xs → Covers (with_down full from) xs
covers-down full from xs covers = λ p up. covers p (still_up full from p up)

only-flood_received : (xs : List Port) (s : State) (full from : ℕ) (l : Lsa) (own now : ℕ) → Covers full xs → Only xs s.lists → Only xs (flood_received s full from l own now).lists
only-flood_received xs s full from l own now covers only =
    only-put xs (with_down full from) now (key_of l.head) (without_lsa_anywhere (key_of l.head) s.lists) (covers-down full from xs covers) (only-off xs (key_of l.head) s.lists only)

only-applied : (v : Verdict) (xs : List Port) (s : State) (full from : ℕ) (l : Lsa) (own now : ℕ) → Covers full xs → Only xs s.lists → Only xs (apply_verdict v s full from l own now).lists
only-applied Discarded xs s full from l own now covers only = only
only-applied Acked xs s full from l own now covers only = only
only-applied SentBack xs s full from l own now covers only = only
only-applied Implied xs s full from l own now covers only =
    only-set xs s.lists from (without_lsa (key_of l.head) (list_of s.lists from)) (inr (λ none. ap (without_lsa (key_of l.head)) none)) only
only-applied Installed xs s full from l own now covers only =
    let put = flood_received s full from l own now in
    choose (λ (t : State). Only xs t.lists) (is_other_self_originated l own) (flushed put full (key_of l.head) now) put
    (λ _. only-put xs full now (key_of l.head) put.lists covers (only-flood_received xs s full from l own now covers only))
    (λ _. only-flood_received xs s full from l own now covers only)

on-receive_lsa : (xs : List Port) (full port : ℕ) (t : Taken) (l : Lsa) → Covers full xs → IsOn xs t.router → IsOn xs (receive_lsa full port t l).router
unfolding receive_lsa answered kept_by
on-receive_lsa xs full port t l covers on =
    let r = t.router in
    (on.0, only-applied (verdict_of r.db (list_of r.interfaces.lists port) l r.tick) xs (state r.db r.interfaces.lists) full port l (id_of r) r.tick covers on.1)

on-send_acknowledgement : (xs : List Port) (port : ℕ) (hs : List LsaHeader) (r : Router) → IsOn xs r → IsOn xs (send_acknowledgement port hs r)
unfolding send_acknowledgement
on-send_acknowledgement xs port [] r on = on
on-send_acknowledgement xs port (x ∷ hs) r on = on-send_packet xs port (body.Ack (x ∷ hs)) r on

only-receive_update : (ports port : ℕ) (ls : List Lsa) (r : Router) → IsOnly r → IsOnly (receive_update (full_mask ports r.interfaces) port ls r)
unfolding receive_update
only-receive_update ports port ls r only =
    let xs = r.interfaces.ports in
    let full = full_mask ports r.interfaces in
    let t = fold (receive_lsa full port) (taken_of r []) ls in
    only_of xs (send_acknowledgement port t.acks t.router)
    (on-send_acknowledgement xs port t.acks t.router
    (folded (λ (x : Taken). IsOn xs x.router) (receive_lsa full port) (λ x l h. on-receive_lsa xs full port x l (covers-full_mask ports r.interfaces) h) ls (taken_of r []) (refl, only)))

-- ---- an Acknowledgement

only-receive_header : (port : ℕ) (r : Router) (x : LsaHeader) → IsOnly r → IsOnly (receive_header port r x)
unfolding receive_header unlisted
only-receive_header port r x only =
    choose IsOnly (is_copy r.tick x (kept_at r.db (key_of x))) (record r { interfaces = unlisted port (key_of x) r.interfaces }) r
    (λ _. only-set r.interfaces.ports r.interfaces.lists port (without_lsa (key_of x) (list_of r.interfaces.lists port)) (inr (λ none. ap (without_lsa (key_of x)) none)) only)
    (λ _. only)

only-receive_acknowledgement : (port : ℕ) (hs : List LsaHeader) (r : Router) → IsOnly r → IsOnly (receive_acknowledgement port hs r)
unfolding receive_acknowledgement
only-receive_acknowledgement port hs r only = folded IsOnly (receive_header port) (only-receive_header port) hs r only

-- ---- a message

only-receive_body : (ports port from : ℕ) (b : Body) (r : Router) → port < length r.interfaces.ports → IsOnly r → IsOnly (receive_body ports port from b r)
unfolding receive_body
only-receive_body ports port from (body.Hello x) r few only = only-receive_hello port from x r few only
only-receive_body ports port from (body.Update ls) r few only =
    choose IsOnly (is_from_full port from r) (receive_update (full_mask ports r.interfaces) port ls r) r (λ _. only-receive_update ports port ls r only) (λ _. only)
only-receive_body ports port from (body.Ack hs) r few only =
    choose IsOnly (is_from_full port from r) (receive_acknowledgement port hs r) r (λ _. only-receive_acknowledgement port hs r only) (λ _. only)

only-receive_packet : (ports port : ℕ) (found : Option Packet) (r : Router) → port < length r.interfaces.ports → IsOnly r → IsOnly (receive_packet ports port found r)
only-receive_packet ports port None r few only = only
only-receive_packet ports port (Some p) r few only =
    choose IsOnly (p.area == 0) (receive_body ports port p.router p.body r) r (λ _. only-receive_body ports port p.router p.body r few only) (λ _. only)

only-receive_message : (ports port : ℕ) (bytes : List ℕ) (r : Router) → IsOnly r → IsOnly (receive_message ports port bytes r)
unfolding receive_message
only-receive_message ports port bytes r only =
    choose IsOnly (has_port r.interfaces port) (receive_packet ports port (packet_at bytes) r) r
    (λ t. only-receive_packet ports port (packet_at bytes) r (there_by port (length r.interfaces.ports) t) only) (λ _. only)

-- ---- a step

only-port_down : (port : ℕ) (r : Router) → IsOnly r → IsOnly (port_down port r)
unfolding port_down
only-port_down port r only =
    choose IsOnly (has_port r.interfaces port) (record r { interfaces = neighbour_down port r.interfaces }) r (λ _. at-neighbour_down port r.interfaces only) (λ _. only)

only-handled : (ports : ℕ) (i : Input) (r : Router) → IsOnly r → IsOnly (handled ports i r)
unfolding handled
only-handled ports (input.Tick group) r only = only-ticked ports group r only
only-handled ports (input.Cmd bytes) r only = only
only-handled ports (input.Down port) r only = only-port_down port r only
only-handled ports (input.Up port) r only = only
only-handled ports (input.Msg port bytes) r only = only-receive_message ports port bytes r only

only-originate : (ports : ℕ) (wanted : List ℕ) (r : Router) → IsOnly r → IsOnly (originate_own_lsa (full_mask ports r.interfaces) wanted r)
unfolding originate_own_lsa flood_lsa
only-originate ports wanted r only =
    let xs = r.interfaces.ports in
    let key = own_key (id_of r) in
    only-put xs (full_mask ports r.interfaces) r.tick key (without_lsa_anywhere key r.interfaces.lists) (covers-full_mask ports r.interfaces) (only-off xs key r.interfaces.lists only)

only-finish_step : (ports : ℕ) (r : Router) → IsOnly r → IsOnly (finish_step ports r)
unfolding finish_step originate_if_needed remove_max_age_lsas
only-finish_step ports r only =
    let own = kept_at r.db (own_key (id_of r)) in
    let wanted = wanted_body ports r in
    choose IsOnly (may_originate r.tick r.originated && is_outdated r.tick wanted own && has_next_sequence_number own)
    (originate_own_lsa (full_mask ports r.interfaces) wanted r) r (λ _. only-originate ports wanted r only) (λ _. only)

pub only-step : (s : OspfState) (ports : ℕ) (i : Input) → OnlyAt s.interfaces → OnlyAt (ospf_after s ports i).interfaces
unfolding ospf_after next stepped
only-step s ports i only =
    choose IsOnly (is_passed_over s.tick i) (router_of s) (finish_step ports (handled ports i (router_of s))) (λ _. only)
    (λ _. only-finish_step ports (handled ports i (router_of s)) (only-handled ports i (router_of s) only))

only-run : (s : OspfState) (es : List (ℕ × Input)) → OnlyAt s.interfaces → OnlyAt (ospf_run s es).interfaces
only-run s [] only = only
only-run s (e ∷ es) only = only-run (ospf_after s e.0 e.1) es (only-step s e.0 e.1 only)

pub none_at_start : (n p : ℕ) → list_of (replicate n []) p ≡ []
none_at_start zero p = refl
none_at_start (suc n) zero = refl
none_at_start (suc n) (suc p) = none_at_start n p

of_full : (a : AtPorts) → OnlyAt a → AreOfFull a
of_full a only = λ p not. elim (only p) [
  | inl full ↦ let both : true ≡ false = sym full ∙ not in absurd cc
  | inr none ↦ none
]

pub run_of_full : (number : ℕ) (costs : List ℕ) (prefixes : List Prefix) (es : List (ℕ × Input)) → AreOfFull (ospf_run (opening number costs prefixes) es).interfaces
run_of_full number costs prefixes es =
    of_full (ospf_run (opening number costs prefixes) es).interfaces (only-run (opening number costs prefixes) es (λ p. inr (none_at_start (length costs) p)))
