-- The LS checksum (RFC 2328 section 12.1.7, RFC 905 annex B).
use Rattle.std.specs.Prelude.{◌≡◌, ◌==◌, if◌then◌else◌, ◌+◌, ◌-◌, ◌*◌, ◌/◌, ◌%◌, ◌≤◌, ℕ, List, [], ◌∷◌, ◌++◌, length, sum, drop}
use Rattle.ospf_wire.specs.declared.lsa.LsaHeader.{LsaHeader}
use Rattle.ospf_wire.specs.declared.lsa.Lsa.{Lsa}
use Rattle.ospf_wire.specs.Lsas.{header_bytes}

-- N times the first of N bytes, and so on down to once the last
abbrev pub weighted : List ℕ → ℕ
weighted [] = 0
weighted (b ∷ bs) = length (b ∷ bs) * b + weighted bs

-- the bytes of an LSA from the options on: all but its age
abbrev pub checked_bytes : LsaHeader → List ℕ → List ℕ
checked_bytes h body = drop 2 (header_bytes h) ++ body

-- The LS checksum is right: both sums are 0 modulo 255.
pub record IsChecked (l : Lsa) : Type 0 where
  pub plain : sum (checked_bytes l.head l.body) % 255 ≡ 0
  pub weighted : weighted (checked_bytes l.head l.body) % 255 ≡ 0

-- this LS checksum is two bytes of 1 to 255
pub record AreCheckBytes (n : ℕ) : Type 0 where
  pub first_least : 1 ≤ n / 256
  pub first_most : n / 256 ≤ 255
  pub second_least : 1 ≤ n % 256

-- the LSA with this LS checksum
abbrev pub with_sum : Lsa → ℕ → Lsa
with_sum l n = record l { head = record l.head { sum = n } }

-- the number of 1 to 255 that is equal to this one modulo 255
abbrev pub check_byte : ℕ → ℕ
check_byte n = if n % 255 == 0 then 255 else n % 255

-- The two sums without the check bytes, solved for the pair of 1 to 255 that makes them 0 modulo 255. That
-- there is one such pair alone is a law of its own.
unfoldable pub ls_checksum : Lsa → ℕ
ls_checksum l =
    let bytes = checked_bytes (with_sum l 0).head l.body in
    let plain = sum bytes % 255 in
    let first = check_byte ((length l.body + 3) * plain + 255 - weighted bytes % 255) in
    256 * first + check_byte (510 - plain - first)
