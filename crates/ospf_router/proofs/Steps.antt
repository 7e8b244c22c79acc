-- A step leaves a sound state, and the state at the start is one.
use Rattle.std.proofs.Common.{◌≡◌, ℕ, Bool, true, false, cond, ◌&&◌, ◌||◌, ◌+◌, ◌^◌, ◌≤◌, ◌<◌, zero, suc, List, [], ◌∷◌, ◌++◌, length, map, get_or, refl, sym, ◌∙◌, arith, length-append}
use Rattle.std.specs.Prelude.{All, Option, Some, None, IfSome, is_some, ◌==◌, nat_le, nat_lt, drop, fold, slice_index, sum_by, replicate}
use Rattle.std.specs.List.{AllByRecursion}
use Rattle.std.specs.List.Sorted.{IsStrictlySortedBy}
use Rattle.std.specs.Map.{lookup, remove_entry}
use Rattle.std.specs.BTreeMap.{insert_entry, is_at}
use Rattle.std.specs.Cmp.{IsTotalOrder, nat_cmp_total, then_total, on_total}
use Rattle.std.proofs.lemmas.Bool.Decides.{nat_tests}
use Rattle.std.proofs.lemmas.List.{get_or_past, length-map, length-replicate}
use Rattle.std.proofs.lemmas.List.Elements.{recursion_from_All}
use Rattle.std.proofs.lemmas.List.Sums.{sum_by-cons}
use Rattle.byteorder.specs.Endian.{big_number}
use Rattle.dn_guest.specs.declared.input.Input.{Input}
use Rattle.dn_guest.specs.declared.input.Input.TheVariants as input
use Rattle.ospf_wire.specs.declared.lsa.Lsa.{Lsa}
use Rattle.ospf_wire.specs.declared.packet.Body.{Body}
use Rattle.ospf_wire.specs.declared.packet.Body.TheVariants as body
use Rattle.ospf_wire.specs.declared.packet.Packet.{Packet}
use Rattle.ospf_wire.specs.Packets.{IsEncodable}
use Rattle.ospf_wire.specs.Reading.{packet_at}
use Rattle.ospf_wire.proofs.RouterLsaLaws.{length-router_body_bytes}
use Rattle.ospf_wire.proofs.GrammarLaws.{is_encodable}
use Rattle.ospf_lsdb.specs.declared.key.LsaKey.{LsaKey}
use Rattle.ospf_lsdb.specs.declared.kept.Kept.{Kept}
use Rattle.ospf_lsdb.specs.Keys.{key_cmp, own_key}
use Rattle.ospf_lsdb.specs.Kept.{fresh}
use Rattle.ospf_lsdb.specs.Database.{Database, max_age_lsas, kept_at, own_lsa, next_sequence_number, with_kept, with_own, without}
use Rattle.ospf_flood.specs.Retransmission.{OnPorts, without_lsa, without_lsa_anywhere}
use Rattle.ospf_lsdb.proofs.DatabaseLaws.{key_cmp_total}
use Rattle.ospf_router.specs.declared.router.Router.{Router}
use Rattle.ospf_router.specs.Commands.{commanded, is_removal, is_setting}
use Rattle.ospf_router.specs.Interfaces.{AtPorts, full_mask, has_port, is_listed, neighbour_down, opening_port}
use Rattle.ospf_router.specs.Origination.{originate_if_needed, finish_step, has_next_sequence_number, is_outdated, links_from, may_originate, remove_max_age_lsas, remove_max_age_lsa, originate_own_lsa, stub_of, wanted_body, wanted_links}
use Rattle.dn_net.specs.Networks.{Network, is_network, network_cmp}
use Rattle.ospf_router.specs.Prefixes.{Networks, has_room, with_network, without_network}
use Rattle.ospf_router.specs.Flooding.{flood_lsa}
use Rattle.ospf_router.specs.declared.interfaces.Port.{Port}
use Rattle.ospf_router.specs.Sound.{HasBytes, IsHeard, IsSoundDatabase, IsSoundEntry, IsSoundList, IsSoundNetworks, IsSoundState, most, ospf_run}
use Rattle.ospf_router.specs.State.{OspfState, Prefix, id_of, opening, opening_prefixes, router_of, with_prefix}
use Rattle.ospf_router.specs.Step.{receive_body, handled, is_from_full, is_passed_over, receive_message, next, ospf_after, receive_packet, port_down, stepped}
use Rattle.ospf_router.specs.ReceiveUpdate.{receive_update}
use Rattle.ospf_router.specs.ReceiveAcknowledgement.{receive_acknowledgement}
use Rattle.ospf_router.specs.BuildUpdates.{is_sendable}
use Rattle.ospf_router.proofs.Choice.{choose, folded}
use Rattle.ospf_router.proofs.LinkLaws.{few_links}
use Rattle.ospf_router.proofs.PrefixLaws.{room_left}
use Rattle.ospf_router.proofs.Rising.{each-insert, each-remove, finds-insert, finds-new, length-insert, length-remove, one, rises-insert, rises-remove}
use Rattle.ospf_router.proofs.Database.{empty_list, lists_left, lists_more, off_lists, sound-with, sound-without}
use Rattle.ospf_router.proofs.Routers.{IsSoundRouter, at-neighbour_down, at_of, sound-receive_acknowledgement, sound-at, sound-flood_lsa, sound-receive_hello, sound-ticked, sound-receive_update}

-- ---- the own networks

network_total : IsTotalOrder network_cmp
network_total = then_total (on_total (λ (n : Network). n.0) nat_cmp_total) (on_total (λ (n : Network). n.1) nat_cmp_total)

and_left : (x y : Bool) → (x && y) ≡ true → x ≡ true
and_left true y h = refl
and_left false y h = absurd cc

and_right : (x y : Bool) → (x && y) ≡ true → y ≡ true
and_right true y h = h
and_right false y h = absurd cc

one_more : (b : Bool) (many more : ℕ) → more + one b ≡ many + 1 → more ≡ many + cond b 0 1
unfolding one
one_more true many more count = omega (arith, count)
one_more false many more count = omega (arith, count)

abbrev IsOne : Network → Type 0
IsOne n = is_network n.0 n.1 ≡ true

sound-put : (ns : Networks) (n : Network) (cost : ℕ) → IsOne n → has_room ns n ≡ true → IsSoundNetworks ns → IsSoundNetworks (insert_entry network_cmp ns n cost)
sound-put ns n cost one-is room sound = record {
  rising = rises-insert network_total ns n cost sound.rising;
  each = each-insert network_cmp IsOne ns n cost one-is sound.each;
  few = room_left ns n (lookup (is_at (network_cmp n)) ns) (length (insert_entry network_cmp ns n cost)) room refl sound.few
      (one_more (is_some (lookup (is_at (network_cmp n)) ns)) (length ns) (length (insert_entry network_cmp ns n cost)) (length-insert network_total ns n cost sound.rising));
}

sound-network : (address len cost : ℕ) (ns : Networks) → IsSoundNetworks ns → IsSoundNetworks (with_network address len cost ns)
unfolding with_network
sound-network address len cost ns sound =
    choose IsSoundNetworks (is_network address len && nat_le 1 cost && has_room ns (address, len)) (insert_entry network_cmp ns (address, len) cost) ns
    (λ h. sound-put ns (address, len) cost (and_left (is_network address len) (nat_le 1 cost) (and_left (is_network address len && nat_le 1 cost) (has_room ns (address, len)) h))
    (and_right (is_network address len && nat_le 1 cost) (has_room ns (address, len)) h) sound)
    (λ _. sound)

sound-no_network : (address len : ℕ) (ns : Networks) → IsSoundNetworks ns → IsSoundNetworks (without_network address len ns)
unfolding without_network
sound-no_network address len ns sound =
    let test = is_at (network_cmp (address, len)) in
    choose IsSoundNetworks (is_network address len) (remove_entry test ns) ns
    (λ _. record {
      rising = rises-remove network_cmp test ns sound.rising;
      each = each-remove IsOne test ns sound.each;
      few = omega (arith, length-remove test ns, sound.few);
    })
    (λ _. sound)

sound-commanded : (bytes : List ℕ) (ns : Networks) → IsSoundNetworks ns → IsSoundNetworks (commanded bytes ns)
unfolding commanded
sound-commanded bytes ns sound =
    choose IsSoundNetworks (is_setting bytes) (with_network (big_number 4 (drop 1 bytes)) (slice_index bytes 5) (big_number 2 (drop 6 bytes)) ns)
    (cond (is_removal bytes) (without_network (big_number 4 (drop 1 bytes)) (slice_index bytes 5) ns) ns)
    (λ _. sound-network (big_number 4 (drop 1 bytes)) (slice_index bytes 5) (big_number 2 (drop 6 bytes)) ns sound)
    (λ _. choose IsSoundNetworks (is_removal bytes) (without_network (big_number 4 (drop 1 bytes)) (slice_index bytes 5) ns) ns
    (λ _. sound-no_network (big_number 4 (drop 1 bytes)) (slice_index bytes 5) ns sound) (λ _. sound))

-- ---- what comes in a packet can be sent

sendable_one : (l : Lsa) → l.head.length ≡ 20 + length l.body → length l.body ≤ 65487 → is_sendable l ≡ true
sendable_one l same few = grind (arith, nat_tests)

sendable_each : (ls : List Lsa) → AllByRecursion (λ l. l.head.length ≡ 20 + length l.body) ls → sum_by (λ l. 20 + length l.body) ls ≤ 65507 → AllByRecursion (λ l. is_sendable l ≡ true) ls
sendable_each [] same few = tt
sendable_each (l ∷ ls) same few =
    let all = sum_by-cons (λ (x : Lsa). 20 + length x.body) l ls in
    (sendable_one l same.0 (omega (arith, all, few)), sendable_each ls same.1 (omega (arith, all, few)))

pub sendable_body : (router area : ℕ) (ls : List Lsa) → IsEncodable (record { router = router; area = area; body = body.Update ls }) → AllByRecursion (λ l. is_sendable l ≡ true) ls
sendable_body router area ls fits = sendable_each ls (recursion_from_All (λ (l : Lsa). l.head.length ≡ 20 + length l.body) ls fits.lengths) (omega (arith, fits.room))

byte_by : (b : Bool) (bytes : List ℕ) (i : ℕ) → nat_lt i (length bytes) ≡ b → All (λ x. x < 2 ^ 8) bytes → get_or bytes i 0 < 256
byte_by true bytes i t all = all i 0 (grind (arith, nat_tests))
byte_by false bytes i t all =
    let past : length bytes ≤ i = grind (arith, nat_tests) in
    omega (arith, get_or_past bytes i 0 past)

pub byte_at : (bytes : List ℕ) → All (λ x. x < 2 ^ 8) bytes → (i : ℕ) → get_or bytes i 0 < 256
byte_at bytes all i = byte_by (nat_lt i (length bytes)) bytes i refl all

-- ---- a message

sound-body : (ports port from area : ℕ) (b : Body) (r : Router) → IsEncodable (record { router = from; area = area; body = b }) → IsSoundRouter r → IsSoundRouter (receive_body ports port from b r)
unfolding receive_body
sound-body ports port from area (body.Hello h) r fits sound = sound-receive_hello port from h r sound
sound-body ports port from area (body.Update ls) r fits sound =
    choose IsSoundRouter (is_from_full port from r) (receive_update (full_mask ports r.interfaces) port ls r) r
    (λ _. sound-receive_update (full_mask ports r.interfaces) port ls r (sendable_body from area ls fits) sound) (λ _. sound)
sound-body ports port from area (body.Ack hs) r fits sound =
    choose IsSoundRouter (is_from_full port from r) (receive_acknowledgement port hs r) r (λ _. sound-receive_acknowledgement port hs r sound) (λ _. sound)

sound-receive_packet : (ports port : ℕ) (found : Option Packet) (r : Router) → IfSome found IsEncodable → IsSoundRouter r → IsSoundRouter (receive_packet ports port found r)
sound-receive_packet ports port None r fits sound = sound
sound-receive_packet ports port (Some p) r fits sound =
    choose IsSoundRouter (p.area == 0) (receive_body ports port p.router p.body r) r (λ _. sound-body ports port p.router p.area p.body r fits sound) (λ _. sound)

sound-receive_message : (ports port : ℕ) (bytes : List ℕ) (r : Router) → All (λ b. b < 2 ^ 8) bytes → IsSoundRouter r → IsSoundRouter (receive_message ports port bytes r)
unfolding receive_message
sound-receive_message ports port bytes r all sound =
    choose IsSoundRouter (has_port r.interfaces port) (receive_packet ports port (packet_at bytes) r) r
    (λ _. sound-receive_packet ports port (packet_at bytes) r (is_encodable bytes (byte_at bytes all) (packet_at bytes) refl) sound) (λ _. sound)

-- ---- the end of a step

few_wanted : (ports : ℕ) (r : Router) → IsSoundRouter r → length (wanted_body ports r) ≤ 1000
unfolding wanted_body wanted_links
few_wanted ports r sound =
    let links = links_from 0 ports r.interfaces.ports in
    omega (arith, length-router_body_bytes (links ++ map stub_of r.prefixes), length-append links (map stub_of r.prefixes), few_links 0 ports r.interfaces.ports, length-map r.prefixes stub_of, sound.ports, sound.networks.few)

own_sendable : (router seq : ℕ) (bytes : List ℕ) → length bytes ≤ 1000 → is_sendable (own_lsa router seq bytes) ≡ true
own_sendable router seq bytes few = sendable_one (own_lsa router seq bytes) refl (omega (arith, few))

sound-own : (router seq now : ℕ) (bytes : List ℕ) → length bytes ≤ 1000 → IsSoundEntry now (own_key router, fresh (own_lsa router seq bytes) now false false)
sound-own router seq now bytes few = record { named = refl; sendable = own_sendable router seq bytes few; installed = omega arith; sent = tt }

most-none : (o : Option Kept) → is_some o ≡ false → most o ≡ 65534
most-none None h = refl
most-none (Some k) h = absurd cc

most-own : (o : Option Kept) → is_some o ≡ true → most o ≡ 65535
most-own None h = absurd cc
most-own (Some k) h = refl

-- the own LSA's name on no list, and its new instance in the database
renewed_router : Database → Router → Router
renewed_router d r = record r {
  originated = Some r.tick;
  interfaces = record r.interfaces { lists = without_lsa_anywhere (own_key (id_of r)) r.interfaces.lists };
  db = d;
}

sound-renewed_router : (k : Kept) (r : Router) → IsSoundEntry r.tick (own_key (id_of r), k) → IsSoundRouter r → IsSoundRouter (renewed_router (with_kept r.db (own_key (id_of r)) k) r)
unfolding renewed_router
sound-renewed_router k r new sound =
    let own = own_key (id_of r) in
    let d = with_kept r.db own k in
    let own_there : most (kept_at d own) ≡ 65535 = most-own (kept_at d own) (finds-new key_cmp_total r.db own k) in
    record {
      tick = sound.tick;
      originated = omega arith;
      networks = sound.networks;
      ports = sound.ports;
      lists = length-map r.interfaces.lists (without_lsa own) ∙ sound.lists;
      heard = sound.heard;
      database = sound-with r.tick own own k r.db new (λ none. omega (arith, own_there, most-none (kept_at r.db own) none, sound.database.few)) sound.database;
      listed = off_lists r.tick d own r.interfaces.lists (lists_more r.tick r.db d r.interfaces.lists (λ q h. finds-insert key_cmp r.db own k q h) sound.listed);
    }

sound-flooded_own : (full : ℕ) (k : Kept) (r : Router) → IsSoundRouter (renewed_router (with_kept r.db (own_key (id_of r)) k) r)
    → IsSoundRouter (flood_lsa full (own_key (id_of r)) (renewed_router (with_kept r.db (own_key (id_of r)) k) r))
unfolding renewed_router
sound-flooded_own full k r sound =
    sound-flood_lsa full (own_key (id_of r)) (renewed_router (with_kept r.db (own_key (id_of r)) k) r) (finds-new key_cmp_total r.db (own_key (id_of r)) k) sound

renewed_by : (seq : Option ℕ) (full : ℕ) (bytes : List ℕ) (r : Router) → is_some seq ≡ true → length bytes ≤ 1000 → IsSoundRouter r
    → IsSoundRouter (flood_lsa full (own_key (id_of r)) (renewed_router (with_own r.db (id_of r) bytes r.tick seq) r))
renewed_by None full bytes r there few sound = absurd cc
renewed_by (Some seq) full bytes r there few sound =
    let k : Kept = fresh (own_lsa (id_of r) seq bytes) r.tick false false in
    sound-flooded_own full k r (sound-renewed_router k r (sound-own (id_of r) seq r.tick bytes few) sound)

sound-originate_own_lsa : (full : ℕ) (bytes : List ℕ) (r : Router) → has_next_sequence_number (kept_at r.db (own_key (id_of r))) ≡ true → length bytes ≤ 1000 → IsSoundRouter r → IsSoundRouter (originate_own_lsa full bytes r)
unfolding originate_own_lsa renewed_router
sound-originate_own_lsa full bytes r there few sound = renewed_by (next_sequence_number (kept_at r.db (own_key (id_of r)))) full bytes r there few sound

sound-originate_if_needed : (ports : ℕ) (r : Router) → IsSoundRouter r → IsSoundRouter (originate_if_needed ports r)
unfolding originate_if_needed
sound-originate_if_needed ports r sound =
    let own = kept_at r.db (own_key (id_of r)) in
    let wanted = wanted_body ports r in
    let full = full_mask ports r.interfaces in
    choose IsSoundRouter (may_originate r.tick r.originated && is_outdated r.tick wanted own && has_next_sequence_number own) (originate_own_lsa full wanted r) r
    (λ h. sound-originate_own_lsa full wanted r (and_right (may_originate r.tick r.originated && is_outdated r.tick wanted own) (has_next_sequence_number own) h) (few_wanted ports r sound) sound)
    (λ _. sound)

-- a database at a tick beside these lists
record IsLeft (now : ℕ) (own : LsaKey) (ls : OnPorts) (d : Database) : Type 0 where
  database : IsSoundDatabase now own d
  listed : AllByRecursion (IsSoundList now d) ls

left_one : (now : ℕ) (own : LsaKey) (a : AtPorts) (d : Database) (key : LsaKey) → IsLeft now own a.lists d → IsLeft now own a.lists (remove_max_age_lsa a d key)
unfolding is_listed
left_one now own a d key sound =
    choose (IsLeft now own a.lists) (is_listed key a) d (without d key) (λ _. sound)
    (λ away. record { database = sound-without now own key d sound.database; listed = lists_left now d key a.lists away sound.listed })

sound-remove_max_age_lsas : (r : Router) → IsSoundRouter r → IsSoundRouter (remove_max_age_lsas r)
unfolding remove_max_age_lsas
sound-remove_max_age_lsas r sound =
    let own = own_key (id_of r) in
    let left : IsLeft r.tick own r.interfaces.lists (fold (remove_max_age_lsa r.interfaces) r.db (max_age_lsas r.tick r.db)) =
    folded (IsLeft r.tick own r.interfaces.lists) (remove_max_age_lsa r.interfaces) (left_one r.tick own r.interfaces) (max_age_lsas r.tick r.db) r.db (record { database = sound.database; listed = sound.listed }) in
    record {
      tick = sound.tick;
      originated = sound.originated;
      networks = sound.networks;
      ports = sound.ports;
      lists = sound.lists;
      heard = sound.heard;
      database = left.database;
      listed = left.listed;
    }

sound-finish_step : (ports : ℕ) (r : Router) → IsSoundRouter r → IsSoundRouter (finish_step ports r)
unfolding finish_step
sound-finish_step ports r sound = sound-remove_max_age_lsas (originate_if_needed ports r) (sound-originate_if_needed ports r sound)

-- ---- a step

sound-port_down : (port : ℕ) (r : Router) → IsSoundRouter r → IsSoundRouter (port_down port r)
unfolding port_down
sound-port_down port r sound =
    choose IsSoundRouter (has_port r.interfaces port) (record r { interfaces = neighbour_down port r.interfaces }) r
    (λ _. sound-at (neighbour_down port r.interfaces) r (at-neighbour_down r.tick r.db port r.interfaces (at_of r sound)) sound) (λ _. sound)

networks_router : Networks → Router → Router
networks_router ns r = record r { prefixes = ns }

sound-networks : (ns : Networks) (r : Router) → IsSoundNetworks ns → IsSoundRouter r → IsSoundRouter (networks_router ns r)
unfolding networks_router
sound-networks ns r new sound = record {
  tick = sound.tick;
  originated = sound.originated;
  networks = new;
  ports = sound.ports;
  lists = sound.lists;
  heard = sound.heard;
  database = sound.database;
  listed = sound.listed;
}

not_past : (tick group : ℕ) → (nat_lt group tick || nat_lt 65535 group) ≡ false → (tick ≤ group) × (group ≤ 65535)
not_past tick group h = (grind (arith, nat_tests), grind (arith, nat_tests))

pub sound-handled : (ports : ℕ) (i : Input) (r : Router) → HasBytes i → is_passed_over r.tick i ≡ false → IsSoundRouter r → IsSoundRouter (handled ports i r)
unfolding handled networks_router
sound-handled ports (input.Tick group) r bytes here sound = (let taken = not_past r.tick group here in sound-ticked ports group r taken.0 taken.1 sound)
sound-handled ports (input.Cmd body) r bytes here sound = sound-networks (commanded body r.prefixes) r (sound-commanded body r.prefixes sound.networks) sound
sound-handled ports (input.Down port) r bytes here sound = sound-port_down port r sound
sound-handled ports (input.Up port) r bytes here sound = sound
sound-handled ports (input.Msg port body) r bytes here sound = sound-receive_message ports port body r bytes sound

sound-next : (ports : ℕ) (i : Input) (r : Router) → HasBytes i → IsSoundRouter r → IsSoundRouter (next ports i r)
unfolding next stepped
sound-next ports i r bytes sound =
    choose IsSoundRouter (is_passed_over r.tick i) r (finish_step ports (handled ports i r)) (λ _. sound)
    (λ here. sound-finish_step ports (handled ports i r) (sound-handled ports i r bytes here sound))

pub sound-step : (s : OspfState) (ports : ℕ) (i : Input) → HasBytes i → IsSoundState s → IsSoundState (ospf_after s ports i)
unfolding ospf_after
sound-step s ports i bytes sound = sound-next ports i (router_of s) bytes sound

-- ---- the start

sound-prefixes : (prefixes : List Prefix) → IsSoundNetworks (opening_prefixes prefixes)
unfolding IsStrictlySortedBy
sound-prefixes prefixes = folded IsSoundNetworks with_prefix (λ ns p h. sound-network p.0 p.1 p.2 ns h) prefixes [] (record { rising = tt; each = tt; few = omega arith })

empty_lists : (n : ℕ) → AllByRecursion (IsSoundList 0 []) (replicate n [])
empty_lists zero = tt
empty_lists (suc n) = (empty_list 0 [], empty_lists n)

none_heard : (costs : List ℕ) → AllByRecursion (λ (p : Port). IsHeard 0 p.neighbour) (map opening_port costs)
none_heard [] = tt
none_heard (cost ∷ costs) = (tt, none_heard costs)

pub sound-opening : (number : ℕ) (costs : List ℕ) (prefixes : List Prefix) → length costs ≤ 16 → IsSoundState (opening number costs prefixes)
unfolding IsStrictlySortedBy
sound-opening number costs prefixes few = record {
  tick = omega arith;
  originated = tt;
  networks = sound-prefixes prefixes;
  ports = omega (arith, length-map costs opening_port, few);
  lists = length-replicate (length costs) [] ∙ sym (length-map costs opening_port);
  heard = none_heard costs;
  database = record { rising = tt; each = tt; few = omega arith };
  listed = empty_lists (length costs);
}

run_from : (s : OspfState) (es : List (ℕ × Input)) → AllByRecursion (λ (e : ℕ × Input). HasBytes e.1) es → IsSoundState s → IsSoundState (ospf_run s es)
run_from s [] all sound = sound
run_from s (e ∷ es) all sound = run_from (ospf_after s e.0 e.1) es all.1 (sound-step s e.0 e.1 all.0 sound)

pub sound-run : (number : ℕ) (costs : List ℕ) (prefixes : List Prefix) (es : List (ℕ × Input)) → length costs ≤ 16 → AllByRecursion (λ (e : ℕ × Input). HasBytes e.1) es → IsSoundState (ospf_run (opening number costs prefixes) es)
sound-run number costs prefixes es few all = run_from (opening number costs prefixes) es all (sound-opening number costs prefixes few)
