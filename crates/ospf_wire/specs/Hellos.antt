-- The body of a Hello (RFC 2328 appendix A.3.2).
use Rattle.std.specs.Prelude.{◌≡◌, ◌≤◌, ◌<◌, ◌^◌, ℕ, List, ◌∷◌, ◌++◌, length, drop, flat_map}
use Rattle.ospf_wire.specs.declared.hello.Hello.{Hello}
use Rattle.ospf_wire.specs.Fields.{field, number}
use Rattle.ospf_wire.specs.Pieces.{ArePieces}

-- These bytes are this Hello.
pub record IsHello (body : List ℕ) (h : Hello) : Type 0 where
  pub whole : 20 ≤ length body
  pub mask : h.mask ≡ field 0 4 body
  pub interval : h.interval ≡ field 4 2 body
  pub options : h.options ≡ field 6 1 body
  pub priority : h.priority ≡ field 7 1 body
  pub dead : h.dead ≡ field 8 4 body
  pub dr : h.dr ≡ field 12 4 body
  pub bdr : h.bdr ≡ field 16 4 body
  pub neighbours : ArePieces 4 (field 0 4) (drop 20 body) h.neighbours

-- the 20 bytes before the neighbours
unfoldable pub fixed_bytes : Hello → List ℕ
fixed_bytes h =
    number 4 h.mask ++ number 2 h.interval ++ h.options ∷ h.priority ∷ number 4 h.dead ++ number 4 h.dr ++ number 4 h.bdr

-- the bytes of ids
abbrev pub ids_bytes : List ℕ → List ℕ
ids_bytes ids = flat_map (number 4) ids

-- the bytes of a Hello
unfoldable pub hello_bytes : Hello → List ℕ
hello_bytes h = fixed_bytes h ++ ids_bytes h.neighbours

-- a number of four bytes
abbrev pub FitsWord : ℕ → Type 0
FitsWord n = n < 2 ^ 32

-- each number before the neighbours is one of its width
pub record FitsHello (h : Hello) : Type 0 where
  pub mask : h.mask < 2 ^ 32
  pub interval : h.interval < 2 ^ 16
  pub options : h.options < 2 ^ 8
  pub priority : h.priority < 2 ^ 8
  pub dead : h.dead < 2 ^ 32
  pub dr : h.dr < 2 ^ 32
  pub bdr : h.bdr < 2 ^ 32
