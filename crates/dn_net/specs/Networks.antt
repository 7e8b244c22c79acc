-- IPv4 networks: an address and the length of its mask, from 0 to 32.
use Rattle.std.specs.Prelude.{ℕ, ◌-◌, ◌%◌, ◌^◌, ◌==◌, Bool, ◌&&◌, nat_le, Option, find}
use Rattle.std.specs.List.{range_with_len}
use Rattle.std.specs.declared.cmp.Ordering.{Ordering}
use Rattle.std.specs.Ordering.{nat_cmp, ordering_then}

-- an address and a length
abbrev pub Network : Type 0
Network = ℕ × ℕ

-- the mask of a length: so many ones from the highest of 32 bits on, and zeros behind them
abbrev pub mask_of : ℕ → ℕ
mask_of len = 2 ^ 32 - 2 ^ (32 - len)

-- the length from 0 to 32 whose mask this is; a mask with a gap has none
unfoldable pub mask_len : ℕ → Option ℕ
mask_len mask = find (λ len. mask_of len == mask) (range_with_len 0 33)

-- the address has no host bits, which are those past the length, and the length is at most 32
abbrev pub is_network : ℕ → ℕ → Bool
is_network address len = nat_le len 32 && address % 2 ^ (32 - len) == 0

-- by address, then by length
abbrev pub network_cmp : Network → Network → Ordering
network_cmp a b = ordering_then (nat_cmp a.0 b.0) (nat_cmp a.1 b.1)
