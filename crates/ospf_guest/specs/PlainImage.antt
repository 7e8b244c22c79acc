-- The image of a sound state: the bytes of a row of states in a trace. All numbers are big-endian; networks, lists and
-- database are in ascending order of their keys. Each state that a router reaches has this image
-- (`sound_states_have_the_plain_image` of src/laws.rt); Image.antt has the image of all states that can be named.
use Rattle.std.specs.Prelude.{ℕ, ◌+◌, ◌*◌, List, [], ◌∷◌, ◌++◌, length, flat_map, Option}
use Rattle.ospf_wire.specs.declared.lsa.LsaHeader.{LsaHeader}
use Rattle.ospf_lsdb.specs.declared.key.LsaKey.{LsaKey}
use Rattle.ospf_lsdb.specs.declared.kept.Kept.{Kept}
use Rattle.ospf_flood.specs.Retransmission.{OnPort, OnPorts}
use Rattle.ospf_router.specs.declared.neighbour.Neighbour.{Neighbour}
use Rattle.ospf_router.specs.declared.neighbour.Neighbour.TheVariants.{Down, Init, Full}
use Rattle.ospf_router.specs.declared.interfaces.Port.{Port}
use Rattle.dn_net.specs.Networks.{Network}
use Rattle.ospf_router.specs.Prefixes.{Networks}
use Rattle.ospf_router.specs.State.{OspfState}
use Rattle.ospf_guest.specs.Numbers.{two, four, one_more, bit}

-- number 2, tick 4, the tick after that of the last origination 4, 0 where there was none
unfoldable pub front_image : ℕ → ℕ → Option ℕ → List ℕ
front_image number tick originated = two number ++ four tick ++ four (one_more originated)

-- an own network: address 4, length 1, cost 2
unfoldable pub network_image : Network × ℕ → List ℕ
network_image e = four e.0.0 ++ e.0.1 ∷ two e.1

-- the neighbour's state 1
abbrev pub state_byte : Neighbour → ℕ
state_byte Down = 0
state_byte (Init h) = 1
state_byte (Full h) = 2

-- its id 4, and when it was heard 4
abbrev pub heard_image : Neighbour → List ℕ
heard_image Down = four 0 ++ four 0
heard_image (Init h) = four h.id ++ four h.tick
heard_image (Full h) = four h.id ++ four h.tick

-- an LSA on a list: type 1, id 4, advertising router 4, the tick of its last sending there 4
unfoldable pub listed_image : LsaKey × ℕ → List ℕ
listed_image e = e.0.kind ∷ four e.0.id ++ four e.0.router ++ four e.1

-- a port: cost 2, the neighbour, how many LSAs are on its list 2, and each
abbrev pub plain_port : Port → OnPort → List ℕ
plain_port p l =
    two p.cost ++ state_byte p.neighbour ∷ heard_image p.neighbour ++ two (length l) ++ flat_map listed_image l

-- the ports with their lists, of which there are as many
abbrev pub plain_ports : List Port → OnPorts → List ℕ
plain_ports [] ls = []
plain_ports (p ∷ ps) [] = []
plain_ports (p ∷ ps) (l ∷ ls) = plain_port p l ++ plain_ports ps ls

-- a header: age 2, options 1, type 1, id 4, advertising router 4, sequence 4, checksum 2, length 2
unfoldable pub head_image : LsaHeader → List ℕ
head_image h = two h.age ++ h.options ∷ h.kind ∷ four h.id ++ four h.router ++ four h.seq ++ two h.sum ++ two h.length

-- an LSA of the database: installed 4, flags 1 (flooded 1, foreign 2), the tick after that of its last sending 4, 0 where
-- there was none, and the LSA with its stored age
abbrev pub plain_kept : LsaKey × Kept → List ℕ
plain_kept e =
    four e.1.installed ++ (bit e.1.flooded + 2 * bit e.1.foreign) ∷ four (one_more e.1.sent)
    ++ head_image e.1.lsa.head ++ e.1.lsa.body

-- how many own networks there are 2, and each
unfoldable pub networks_image : Networks → List ℕ
networks_image ns = two (length ns) ++ flat_map network_image ns

-- the front, the networks, how many ports there are 1, and each, how many LSAs there are 2, and each
unfoldable pub plain_image : OspfState → List ℕ
plain_image s =
    front_image s.number s.tick s.originated ++ networks_image s.prefixes
    ++ (length s.interfaces.ports ∷ plain_ports s.interfaces.ports s.interfaces.lists)
    ++ (two (length s.db) ++ flat_map plain_kept s.db)
