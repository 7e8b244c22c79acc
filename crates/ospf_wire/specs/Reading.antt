-- What each reader makes of its bytes. The grammar is in Packets, Hellos, Lsas and RouterLsas.
use Rattle.std.specs.Prelude.{◌/◌, ◌%◌, ◌==◌, ◌&&◌, ◌||◌, ℕ, zero, suc, Bool, nat_lt, nat_le, if◌then◌else◌, List, [], ◌∷◌, length, drop, slice_range, Option, Some, None, option_map, option_and_then, is_some}
use Rattle.ospf_wire.specs.declared.lsa.Lsa.{Lsa}
use Rattle.ospf_wire.specs.declared.router_lsa.RouterLink.{RouterLink}
use Rattle.ospf_wire.specs.declared.hello.Hello.{Hello}
use Rattle.ospf_wire.specs.declared.packet.Body.{Body}
use Rattle.ospf_wire.specs.declared.packet.Body.TheVariants as body
use Rattle.ospf_wire.specs.declared.packet.Packet.{Packet}
use Rattle.ospf_wire.specs.Fields.{field}
use Rattle.ospf_wire.specs.Lsas.{header_of}
use Rattle.ospf_wire.specs.RouterLsas.{link_of, link_len}
use Rattle.ospf_wire.specs.Sums.{packet_checksum}

-- the items at the first so many pieces of n bytes
abbrev pub pieces : {X : Type 0} → ℕ → (List ℕ → X) → ℕ → List ℕ → List X
pieces n item zero bytes = []
pieces n item (suc count) bytes = item bytes ∷ pieces n item count (drop n bytes)

-- the items, if the bytes are whole pieces
unfoldable pub all_pieces : {X : Type 0} → ℕ → (List ℕ → X) → List ℕ → Option (List X)
all_pieces n item bytes = if length bytes % n == 0 then Some (pieces n item (length bytes / n) bytes) else None

-- the LSA at the front, if its length is 20 or more and fits
unfoldable pub lsa_at : List ℕ → Option Lsa
lsa_at bytes =
    let len = field 18 2 bytes in
    if nat_lt (length bytes) 20 then None
    else if nat_lt len 20 || nat_lt (length bytes) len then None
    else Some (record { head = header_of bytes; body = slice_range bytes 20 len })

-- so many LSAs, if the bytes are just these
abbrev pub lsas_at : ℕ → List ℕ → Option (List Lsa)
lsas_at zero [] = Some []
lsas_at zero (b ∷ bytes) = None
lsas_at (suc count) bytes =
    option_and_then (λ l. option_map (λ ls. l ∷ ls) (lsas_at count (drop l.head.length bytes))) (lsa_at bytes)

-- the LSAs of an Update
unfoldable pub update_at : List ℕ → Option (List Lsa)
update_at bytes = if nat_lt (length bytes) 4 then None else lsas_at (field 0 4 bytes) (drop 4 bytes)

-- the link at the front, if it is whole
unfoldable pub link_at : List ℕ → Option RouterLink
link_at bytes = if nat_le (link_len bytes) (length bytes) then Some (link_of bytes) else None

-- so many links, if the bytes are just these
abbrev pub links_at : ℕ → List ℕ → Option (List RouterLink)
links_at zero [] = Some []
links_at zero (b ∷ bytes) = None
links_at (suc count) bytes =
    option_and_then (λ l. option_map (λ ls. l ∷ ls) (links_at count (drop (link_len bytes) bytes))) (link_at bytes)

-- the links of a router-LSA with this body
unfoldable pub router_links_at : List ℕ → Option (List RouterLink)
router_links_at body = if nat_lt (length body) 4 then None else links_at (field 2 2 body) (drop 4 body)

-- whether just so many links fill the bytes
abbrev pub are_links : ℕ → List ℕ → Bool
are_links count bytes = is_some (links_at count bytes)

-- whether the body is one of a router-LSA: its links fill it exactly
abbrev pub is_well_formed : List ℕ → Bool
is_well_formed body = is_some (router_links_at body)

-- a Hello with these neighbours
abbrev pub hello_with : List ℕ → List ℕ → Hello
hello_with bytes ids = record {
  mask = field 0 4 bytes;
  interval = field 4 2 bytes;
  options = field 6 1 bytes;
  priority = field 7 1 bytes;
  dead = field 8 4 bytes;
  dr = field 12 4 bytes;
  bdr = field 16 4 bytes;
  neighbours = ids;
}

-- the Hello, if there are whole ids
unfoldable pub hello_at : List ℕ → Option Hello
hello_at bytes =
    if nat_lt (length bytes) 20 then None else option_map (hello_with bytes) (all_pieces 4 (field 0 4) (drop 20 bytes))

-- the body of a packet of this type
unfoldable pub body_at : ℕ → List ℕ → Option Body
body_at kind bytes =
    if kind == 1 then option_map body.Hello (hello_at bytes)
    else if kind == 4 then option_map body.Update (update_at bytes)
    else if kind == 5 then option_map body.Ack (all_pieces 20 header_of bytes)
    else None

-- whether the header is one of the grammar
unfoldable pub has_header : List ℕ → Bool
has_header bytes =
    nat_le 24 (length bytes) && field 0 1 bytes == 2 && field 2 2 bytes == length bytes && field 14 2 bytes == 0 && packet_checksum bytes == 0

-- the packet, if the bytes are one
unfoldable pub packet_at : List ℕ → Option Packet
packet_at bytes =
    if has_header bytes
    then option_map (λ b. record { router = field 4 4 bytes; area = field 8 4 bytes; body = b }) (body_at (field 1 1 bytes) (drop 24 bytes))
    else None
