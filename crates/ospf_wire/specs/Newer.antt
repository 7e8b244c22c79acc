-- Which of two instances of an LSA is the newer (RFC 2328 section 13.1).
use Rattle.std.specs.Prelude.{◌≡◌, ◌↔◌, ◌+◌, ◌%◌, ◌^◌, ◌≤◌, ℕ, not, ◌&&◌, ◌==◌, nat_le, if◌then◌else◌}
use Rattle.std.specs.declared.cmp.Ordering.{Ordering}
use Rattle.std.specs.declared.cmp.Ordering.TheVariants.{Less, Equal, Greater}
use Rattle.std.specs.Ordering.{nat_cmp, ordering_then}
use Rattle.ospf_wire.specs.declared.lsa.LsaHeader.{LsaHeader}
use Rattle.ospf_wire.specs.Constants.{MaxAge, MaxAgeDiff}

-- the place of a sequence number among the signed numbers of 32 bits: 0x80000001 is the second least
abbrev pub seq_rank : ℕ → ℕ
seq_rank seq = (seq + 2 ^ 31) % 2 ^ 32

-- MaxAge is the newer, and else the smaller age if they differ by more than MaxAgeDiff
abbrev pub age_order : ℕ → ℕ → Ordering
age_order a b =
    if a == MaxAge && not (b == MaxAge) then Greater
    else if b == MaxAge && not (a == MaxAge) then Less
    else if nat_le b (a + MaxAgeDiff) && nat_le a (b + MaxAgeDiff) then Equal
    else nat_cmp b a

-- the sequence first, then the checksum, then the age: Greater if a is the newer
abbrev pub newer_of : LsaHeader → LsaHeader → Ordering
newer_of a b =
    ordering_then (nat_cmp (seq_rank a.seq) (seq_rank b.seq)) (ordering_then (nat_cmp a.sum b.sum) (age_order a.age b.age))

-- Two headers are of one instance.
pub record IsSameInstance (a b : LsaHeader) : Type 0 where
  pub seq : a.seq ≡ b.seq
  pub sum : a.sum ≡ b.sum
  pub oldest : (a.age ≡ MaxAge) ↔ (b.age ≡ MaxAge)
  pub first_near : a.age ≤ b.age + MaxAgeDiff
  pub second_near : b.age ≤ a.age + MaxAgeDiff
