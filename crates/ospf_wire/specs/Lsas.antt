-- LSAs in a packet (RFC 2328 appendix A.4.1), alone and one behind the other (appendix A.3.5, A.3.6).
use Rattle.std.specs.Prelude.{◌≡◌, ◌≤◌, ◌<◌, ◌^◌, ℕ, List, [], ◌∷◌, ◌++◌, length, drop, slice_range, flat_map}
use Rattle.ospf_wire.specs.declared.lsa.LsaHeader.{LsaHeader}
use Rattle.ospf_wire.specs.declared.lsa.Lsa.{Lsa}
use Rattle.ospf_wire.specs.Fields.{field, number}

-- the header that stands at the front of these bytes
unfoldable pub header_of : List ℕ → LsaHeader
header_of bytes = record {
  age = field 0 2 bytes;
  options = field 2 1 bytes;
  kind = field 3 1 bytes;
  id = field 4 4 bytes;
  router = field 8 4 bytes;
  seq = field 12 4 bytes;
  sum = field 16 2 bytes;
  length = field 18 2 bytes;
}

-- This LSA stands at the front of these bytes: its header, and the rest of its length behind that.
pub record IsAtFront (bytes : List ℕ) (l : Lsa) : Type 0 where
  pub head : l.head ≡ header_of bytes
  pub least : 20 ≤ l.head.length
  pub fits : l.head.length ≤ length bytes
  pub body : l.body ≡ slice_range bytes 20 l.head.length

-- the bytes are these LSAs, one behind the other
abbrev pub AreLsas : List ℕ → List Lsa → Type 0
AreLsas bytes [] = bytes ≡ []
AreLsas bytes (l ∷ ls) = IsAtFront bytes l × AreLsas (drop l.head.length bytes) ls

-- the 20 bytes of a header
unfoldable pub header_bytes : LsaHeader → List ℕ
header_bytes h =
    number 2 h.age ++ h.options ∷ h.kind ∷ number 4 h.id ++ number 4 h.router ++ number 4 h.seq ++ number 2 h.sum ++ number 2 h.length

-- the bytes of headers
abbrev pub headers_bytes : List LsaHeader → List ℕ
headers_bytes hs = flat_map header_bytes hs

-- the bytes of an LSA
unfoldable pub lsa_bytes : Lsa → List ℕ
lsa_bytes l = header_bytes l.head ++ l.body

-- the bytes of LSAs
abbrev pub lsas_bytes : List Lsa → List ℕ
lsas_bytes ls = flat_map lsa_bytes ls

-- the bytes of an Update: how many LSAs there are, and the LSAs
unfoldable pub update_bytes : List Lsa → List ℕ
update_bytes ls = number 4 (length ls) ++ lsas_bytes ls

-- each number of a header is one of its width
pub record FitsHeader (h : LsaHeader) : Type 0 where
  pub age : h.age < 2 ^ 16
  pub options : h.options < 2 ^ 8
  pub kind : h.kind < 2 ^ 8
  pub id : h.id < 2 ^ 32
  pub router : h.router < 2 ^ 32
  pub seq : h.seq < 2 ^ 32
  pub sum : h.sum < 2 ^ 16
  pub length : h.length < 2 ^ 16
