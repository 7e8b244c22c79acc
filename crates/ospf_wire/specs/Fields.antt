-- Numbers in a packet, the highest byte first (RFC 2328 appendix A).
use Rattle.std.specs.Prelude.{ℕ, List, drop}
use Rattle.byteorder.specs.Endian.{big_number, big_bytes}

-- the number in the n bytes from this place on
unfoldable pub field : ℕ → ℕ → List ℕ → ℕ
field at n bytes = big_number n (drop at bytes)

-- the n bytes of a number
unfoldable pub number : ℕ → ℕ → List ℕ
number n x = big_bytes n x
