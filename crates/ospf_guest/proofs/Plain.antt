-- What image and show test of a state that is sound.
use Rattle.std.proofs.Common.{◌≡◌, ◌&&◌, ◌+◌, ◌*◌, ◌^◌, ◌≤◌, ℕ, Bool, true, false, cond, List, [], ◌∷◌, ◌++◌, length, min, refl, ap, ◌∙◌, arith}
use Rattle.std.specs.Prelude.{Option, Some, None, ◌==◌, flat_map, nat_le, nat_lt}
use Rattle.std.specs.List.{AllByRecursion}
use Rattle.std.proofs.lemmas.Bool.Decides.{nat_tests}
use Rattle.ospf_wire.specs.declared.lsa.LsaHeader.{LsaHeader}
use Rattle.ospf_lsdb.specs.declared.key.LsaKey.{LsaKey}
use Rattle.ospf_lsdb.specs.declared.kept.Kept.{Kept}
use Rattle.ospf_lsdb.specs.Keys.{key_of}
use Rattle.ospf_lsdb.specs.Database.{Database}
use Rattle.ospf_flood.specs.Retransmission.{OnPort, OnPorts}
use Rattle.ospf_spf.specs.Graph.{graph_of}
use Rattle.ospf_spf.specs.Table.{table_of}
use Rattle.ospf_router.specs.declared.interfaces.Port.{Port}
use Rattle.ospf_router.specs.Sound.{IsPast, IsSoundEntry, IsSoundState}
use Rattle.ospf_router.specs.State.{OspfState}
use Rattle.ospf_router.proofs.Plain.{few_lsas, short_lists}
use Rattle.ospf_router.proofs.Rising.{all_more}
use Rattle.ospf_guest.specs.Numbers.{two, four, eight, one_more, bit}
use Rattle.ospf_guest.specs.PlainImage.{front_image, head_image, heard_image, listed_image, networks_image, plain_image, plain_kept, plain_port, plain_ports, state_byte}
use Rattle.ospf_guest.specs.Image.{count_image, database_image, flags_byte, interfaces_image, is_long, is_named, is_plain, is_sound, kept_image, ospf_image, port_front, port_image, ports_image, sent_image}
use Rattle.ospf_guest.specs.Show.{route_line, route_lines}

few_ports : (ports lists : ℕ) → ports ≤ 16 → lists ≡ ports → (nat_le ports 16 && lists == ports) ≡ true
few_ports ports lists few same = grind (arith, nat_tests)

pub sound_ports : (s : OspfState) → IsSoundState s → is_sound s.interfaces ≡ true
sound_ports s sound = few_ports (length s.interfaces.ports) (length s.interfaces.lists) sound.ports sound.lists

not_above : (n : ℕ) → n ≤ 65535 → nat_lt 65535 n ≡ false
not_above n few = grind (arith, nat_tests)

pub sound_lists : (s : OspfState) → IsSoundState s → AllByRecursion (λ (l : OnPort). is_long l ≡ false) s.interfaces.lists
sound_lists s sound = all_more (λ (l : OnPort). length l ≤ 65535) (λ (l : OnPort). is_long l ≡ false) (λ l few. not_above (length l) few) s.interfaces.lists (short_lists s sound)

-- ---- an LSA is plain

and_both : (x y : Bool) → x ≡ true → y ≡ true → (x && y) ≡ true
and_both true y h k = k
and_both false y h k = h

same_number : (m n : ℕ) → m ≡ n → (m == n) ≡ true
same_number m n same = grind (arith, nat_tests)

named : (key : LsaKey) (h : LsaHeader) → key ≡ key_of h → is_named key h ≡ true
named key h same =
    and_both (key.kind == h.kind) (key.id == h.id && key.router == h.router) (same_number key.kind h.kind (ap (λ (k : LsaKey). k.kind) same))
    (and_both (key.id == h.id) (key.router == h.router) (same_number key.id h.id (ap (λ (k : LsaKey). k.id) same)) (same_number key.router h.router (ap (λ (k : LsaKey). k.router) same)))

early : (tick : ℕ) → tick ≤ 65535 → nat_lt (tick + 1) (2 ^ 32) ≡ true
early tick h = grind (arith, nat_tests)

sent_early : (now : ℕ) (sent : Option ℕ) → now ≤ 65535 → IsPast now sent → nat_lt (one_more sent) (2 ^ 32) ≡ true
sent_early now None few h = refl
sent_early now (Some tick) few h = early tick (omega (arith, few, h))

short_body : (n size : ℕ) → (nat_le n 65487 && size == 20 + n) ≡ true → (nat_le n 65535 && size == 20 + n) ≡ true
short_body n size h = grind (arith, nat_tests)

plain : (now : ℕ) → now ≤ 65535 → (e : LsaKey × Kept) → IsSoundEntry now e → is_plain e.0 e.1 ≡ true
plain now few e sound =
    and_both (is_named e.0 e.1.lsa.head) _ (named e.0 e.1.lsa.head sound.named)
    (and_both (nat_lt (one_more e.1.sent) (2 ^ 32)) _ (sent_early now e.1.sent few sound.sent) (short_body (length e.1.lsa.body) e.1.lsa.head.length sound.sendable))

pub sound_lsas : (s : OspfState) → IsSoundState s → AllByRecursion (λ (e : LsaKey × Kept). is_plain e.0 e.1 ≡ true) s.db
sound_lsas s sound = all_more (IsSoundEntry s.tick) (λ (e : LsaKey × Kept). is_plain e.0 e.1 ≡ true) (plain s.tick sound.tick) s.db sound.database.each

-- ---- how many there are

least : (n : ℕ) → n ≤ 65535 → min 65535 n ≡ n
least n few = omega (arith, few)

pub sound_count : (s : OspfState) → IsSoundState s → min 65535 (length s.db) ≡ length s.db
sound_count s sound = least (length s.db) (few_lsas s sound)

not_past : (n : ℕ) → n ≤ 65535 → nat_le n 65535 ≡ true
not_past n few = grind (arith, nat_tests)

pub sound_routes : (s : OspfState) → IsSoundState s → route_lines s.number s.tick s.db ≡ flat_map route_line (table_of (graph_of s.tick s.db) (s.number + 1))
unfolding route_lines
sound_routes s sound =
    let few : nat_le (length s.db) 65535 ≡ true = not_past (length s.db) (few_lsas s sound) in
    rw few refl

-- ---- the image is the plain one

plain_one : (p : Port) (l : OnPort) → is_long l ≡ false → port_image p l ≡ plain_port p l
unfolding port_image port_front count_image
plain_one p l short =
    let state : state_byte p.neighbour + 3 * bit (is_long l) ≡ state_byte p.neighbour = rw short (omega arith) in
    let count : cond (is_long l) (eight (length l)) (two (length l)) ≡ two (length l) = rw short refl in
    ap (λ (b : ℕ). two p.cost ++ b ∷ heard_image p.neighbour ++ cond (is_long l) (eight (length l)) (two (length l)) ++ flat_map listed_image l) state
    ∙ ap (λ (bytes : List ℕ). two p.cost ++ state_byte p.neighbour ∷ heard_image p.neighbour ++ bytes ++ flat_map listed_image l) count

plain_all : (ps : List Port) (ls : OnPorts) → AllByRecursion (λ (l : OnPort). is_long l ≡ false) ls → ports_image ps ls ≡ plain_ports ps ls
plain_all [] ls short = refl
plain_all (p ∷ ps) [] short = refl
plain_all (p ∷ ps) (l ∷ ls) short =
    ap (λ (bytes : List ℕ). bytes ++ ports_image ps ls) (plain_one p l short.0) ∙ ap (λ (bytes : List ℕ). plain_port p l ++ bytes) (plain_all ps ls short.1)

plain_interfaces : (s : OspfState) → IsSoundState s → interfaces_image s.interfaces ≡ length s.interfaces.ports ∷ plain_ports s.interfaces.ports s.interfaces.lists
unfolding interfaces_image
plain_interfaces s sound =
    rw (sound_ports s sound) (ap (λ (bytes : List ℕ). length s.interfaces.ports ∷ bytes) (plain_all s.interfaces.ports s.interfaces.lists (sound_lists s sound)))

plain_lsa : (e : LsaKey × Kept) → is_plain e.0 e.1 ≡ true → kept_image e ≡ plain_kept e
unfolding kept_image
plain_lsa e h =
    let flags : flags_byte e.0 e.1 ≡ bit e.1.flooded + 2 * bit e.1.foreign = rw h (omega arith) in
    let sent : sent_image e.0 e.1 ≡ four (one_more e.1.sent) = rw h refl in
    ap (λ (b : ℕ). four e.1.installed ++ b ∷ sent_image e.0 e.1 ++ head_image e.1.lsa.head ++ e.1.lsa.body) flags
    ∙ ap (λ (bytes : List ℕ). four e.1.installed ++ (bit e.1.flooded + 2 * bit e.1.foreign) ∷ bytes ++ head_image e.1.lsa.head ++ e.1.lsa.body) sent

plain_lsas : (db : Database) → AllByRecursion (λ (e : LsaKey × Kept). is_plain e.0 e.1 ≡ true) db → flat_map kept_image db ≡ flat_map plain_kept db
plain_lsas [] all = refl
plain_lsas (e ∷ db) all =
    ap (λ (bytes : List ℕ). bytes ++ flat_map kept_image db) (plain_lsa e all.0) ∙ ap (λ (bytes : List ℕ). plain_kept e ++ bytes) (plain_lsas db all.1)

plain_database : (s : OspfState) → IsSoundState s → database_image s.db ≡ two (length s.db) ++ flat_map plain_kept s.db
unfolding database_image
plain_database s sound =
    ap (λ (n : ℕ). two n ++ flat_map kept_image s.db) (sound_count s sound) ∙ ap (λ (bytes : List ℕ). two (length s.db) ++ bytes) (plain_lsas s.db (sound_lsas s sound))

pub sound_image : (s : OspfState) → IsSoundState s → ospf_image s ≡ plain_image s
unfolding ospf_image plain_image
sound_image s sound =
    let front = front_image s.number s.tick s.originated ++ networks_image s.prefixes in
    ap (λ (bytes : List ℕ). front ++ bytes ++ database_image s.db) (plain_interfaces s sound)
    ∙ ap (λ (bytes : List ℕ). front ++ (length s.interfaces.ports ∷ plain_ports s.interfaces.ports s.interfaces.lists) ++ bytes) (plain_database s sound)
