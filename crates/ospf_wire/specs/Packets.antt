-- The grammar of packets (RFC 2328 appendix A.3.1), as a relation between whole inputs and packets.
use Rattle.std.specs.Prelude.{◌≡◌, ◌+◌, ◌*◌, ◌≤◌, ◌<◌, ◌^◌, ⊤, ℕ, List, ◌∷◌, ◌++◌, length, drop, replicate, sum_by, All}
use Rattle.ospf_wire.specs.declared.packet.Body.{Body}
use Rattle.ospf_wire.specs.declared.packet.Body.TheVariants as body
use Rattle.ospf_wire.specs.declared.packet.Packet.{Packet}
use Rattle.ospf_wire.specs.Fields.{field, number}
use Rattle.ospf_wire.specs.Pieces.{ArePieces}
use Rattle.ospf_wire.specs.Lsas.{header_of, headers_bytes, AreLsas, update_bytes, FitsHeader}
use Rattle.ospf_wire.specs.Hellos.{IsHello, hello_bytes, FitsHello, FitsWord}
use Rattle.ospf_wire.specs.Sums.{packet_sum, packet_checksum}

-- the type of a packet
abbrev pub kind_of : Body → ℕ
kind_of (body.Hello h) = 1
kind_of (body.Update ls) = 4
kind_of (body.Ack hs) = 5

-- These bytes are this body: for an Update how many LSAs there are, and just these.
abbrev pub IsBody : List ℕ → Body → Type 0
IsBody bytes (body.Hello h) = IsHello bytes h
IsBody bytes (body.Update ls) = (4 ≤ length bytes) × (field 0 4 bytes ≡ length ls) × AreLsas (drop 4 bytes) ls
IsBody bytes (body.Ack hs) = ArePieces 20 header_of bytes hs

-- The header is one of OSPFv2: the length is that of the whole input, there is null authentication,
-- and the sum over all words but the authentication is 0xffff.
pub record HasHeader (bytes : List ℕ) : Type 0 where
  pub whole : 24 ≤ length bytes
  pub version : field 0 1 bytes ≡ 2
  pub length : field 2 2 bytes ≡ length bytes
  pub authentication : field 14 2 bytes ≡ 0
  pub sum : packet_sum bytes ≡ 65535

-- These bytes are this packet, with any authentication.
pub record IsPacket (bytes : List ℕ) (p : Packet) : Type 0 where
  pub header : HasHeader bytes
  pub kind : field 1 1 bytes ≡ kind_of p.body
  pub router : p.router ≡ field 4 4 bytes
  pub area : p.area ≡ field 8 4 bytes
  pub body : IsBody (drop 24 bytes) p.body

-- the bytes of a body
abbrev pub body_bytes : Body → List ℕ
body_bytes (body.Hello h) = hello_bytes h
body_bytes (body.Update ls) = update_bytes ls
body_bytes (body.Ack hs) = headers_bytes hs

-- the header of a packet with this length and checksum, zeros as authentication
unfoldable pub header_text : Packet → ℕ → ℕ → List ℕ
header_text p len sum =
    2 ∷ kind_of p.body ∷ number 2 len ++ number 4 p.router ++ number 4 p.area ++ number 2 sum ++ replicate 10 0

-- the header over these bytes: its checksum is the complement of the sum where the checksum is zero
unfoldable pub summed_header : Packet → List ℕ → List ℕ
summed_header p body =
    let len = 24 + length body in
    header_text p len (packet_checksum (header_text p len 0 ++ body))

-- the bytes of a packet
unfoldable pub packet_bytes : Packet → List ℕ
packet_bytes p = summed_header p (body_bytes p.body) ++ body_bytes p.body

-- how many bytes a body has
abbrev pub body_len : Body → ℕ
body_len (body.Hello h) = 20 + 4 * length h.neighbours
body_len (body.Update ls) = 4 + sum_by (λ l. 20 + length l.body) ls
body_len (body.Ack hs) = 20 * length hs

-- each LSA of a body has the length that its header says
abbrev pub HaveLengths : Body → Type 0
HaveLengths (body.Update ls) = All (λ l. l.head.length ≡ 20 + length l.body) ls
HaveLengths _ = ⊤

-- A packet that has bytes: its length has two bytes, and the lengths in it are right.
pub record IsEncodable (p : Packet) : Type 0 where
  pub room : 24 + body_len p.body ≤ 65535
  pub lengths : HaveLengths p.body

-- there are so few LSAs in a body that their number has four bytes
abbrev pub HasFewLsas : Body → Type 0
HasFewLsas (body.Update ls) = length ls < 2 ^ 32
HasFewLsas _ = ⊤

-- each number of a body is one of its width
abbrev pub FitsBody : Body → Type 0
FitsBody (body.Hello h) = FitsHello h × All FitsWord h.neighbours
FitsBody (body.Update ls) = All (λ l. FitsHeader l.head) ls
FitsBody (body.Ack hs) = All FitsHeader hs

-- each number of a packet is one of its width
pub record FitsPacket (p : Packet) : Type 0 where
  pub router : p.router < 2 ^ 32
  pub area : p.area < 2 ^ 32
  pub body : FitsBody p.body
