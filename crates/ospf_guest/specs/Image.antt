-- Bytes that tell the whole state, whatever it is: the plain image (PlainImage.antt), and marks of what no router has, so
-- that such states are told apart too: lists of more than 65,535 LSAs, and LSAs that aren't plain (below).
use Rattle.std.specs.Prelude.{ℕ, ◌+◌, ◌*◌, ◌^◌, ◌==◌, ◌&&◌, Bool, false, nat_le, nat_lt, min, if◌then◌else◌, List, [], ◌∷◌, ◌++◌, length, flat_map}
use Rattle.ospf_wire.specs.declared.lsa.LsaHeader.{LsaHeader}
use Rattle.ospf_lsdb.specs.declared.key.LsaKey.{LsaKey}
use Rattle.ospf_lsdb.specs.declared.kept.Kept.{Kept}
use Rattle.ospf_lsdb.specs.Database.{Database}
use Rattle.ospf_flood.specs.Retransmission.{OnPort, OnPorts}
use Rattle.ospf_router.specs.declared.interfaces.Port.{Port}
use Rattle.ospf_router.specs.Interfaces.{AtPorts}
use Rattle.ospf_router.specs.State.{OspfState}
use Rattle.ospf_guest.specs.Numbers.{two, four, eight, one_more, bit}
use Rattle.ospf_guest.specs.PlainImage.{front_image, networks_image, state_byte, heard_image, listed_image, head_image}

-- ---- ports

-- a port with a list of more than 65,535 LSAs, which no router has, adds 3 to the neighbour's state and has a count of
-- 8 bytes
abbrev pub is_long : OnPort → Bool
is_long l = nat_lt 65535 (length l)

unfoldable pub count_image : OnPort → List ℕ
count_image l = if is_long l then eight (length l) else two (length l)

-- cost 2, state 1, id 4, heard 4
unfoldable pub port_front : Port → Bool → List ℕ
port_front p long = two p.cost ++ (state_byte p.neighbour + 3 * bit long) ∷ heard_image p.neighbour

-- that, the list's count 2 and each LSA of it
unfoldable pub port_image : Port → OnPort → List ℕ
port_image p l = port_front p (is_long l) ++ count_image l ++ flat_map listed_image l

-- the ports with their lists; there are as many lists as ports
abbrev pub ports_image : List Port → OnPorts → List ℕ
ports_image [] ls = []
ports_image (p ∷ ps) [] = []
ports_image (p ∷ ps) (l ∷ ls) = port_image p l ++ ports_image ps ls

-- ---- the database

-- the header has this name
abbrev pub is_named : LsaKey → LsaHeader → Bool
is_named key h = key.kind == h.kind && (key.id == h.id && key.router == h.router)

-- An LSA is plain where it stands at its own name, its length is that of its bytes, and it was last sent before the last
-- of all ticks. Each LSA of a router is plain.
abbrev pub is_plain : LsaKey → Kept → Bool
is_plain key k =
    is_named key k.lsa.head
    && (nat_lt (one_more k.sent) (2 ^ 32) && (nat_le (length k.lsa.body) 65535 && k.lsa.head.length == 20 + length k.lsa.body))

-- flooded 1, foreign 2; one that isn't plain adds 4
abbrev pub flags_byte : LsaKey → Kept → ℕ
flags_byte key k = bit k.flooded + 2 * bit k.foreign + (if is_plain key k then 0 else 4)

-- what tells an LSA that isn't plain: the tick after that of its last sending, its name, how many bytes its body has
abbrev pub odd_image : LsaKey → Kept → List ℕ
odd_image key k = eight (one_more k.sent) ++ key.kind ∷ four key.id ++ four key.router ++ eight (length k.lsa.body)

-- the tick after that of the last sending, 0 where there was none
abbrev pub sent_image : LsaKey → Kept → List ℕ
sent_image key k = if is_plain key k then four (one_more k.sent) else odd_image key k

-- installed 4, flags 1, sent 4, the LSA with its stored age
unfoldable pub kept_image : LsaKey × Kept → List ℕ
kept_image e = four e.1.installed ++ flags_byte e.0 e.1 ∷ sent_image e.0 e.1 ++ head_image e.1.lsa.head ++ e.1.lsa.body

-- count 2, which isn't above 65,535, and each LSA
unfoldable pub database_image : Database → List ℕ
database_image db = two (min 65535 (length db)) ++ flat_map kept_image db

-- ---- the whole

-- a router has at most 16 ports, and as many lists
abbrev pub is_sound : AtPorts → Bool
is_sound a = nat_le (length a.ports) 16 && length a.lists == length a.ports

-- what tells ports and lists that no router has
abbrev pub unsound_image : AtPorts → List ℕ
unsound_image a =
    (17 + length a.ports) ∷ length a.lists ∷ flat_map (λ p. port_front p false) a.ports ++ flat_map (λ l. length l ∷ flat_map listed_image l) a.lists

-- count 1, and each port with its list
unfoldable pub interfaces_image : AtPorts → List ℕ
interfaces_image a = if is_sound a then length a.ports ∷ ports_image a.ports a.lists else unsound_image a

unfoldable pub ospf_image : OspfState → List ℕ
ospf_image s = front_image s.number s.tick s.originated ++ networks_image s.prefixes ++ interfaces_image s.interfaces ++ database_image s.db
