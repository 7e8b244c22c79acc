-- The checksum of a packet (RFC 2328 appendix A.3.1 and D.4.1, RFC 1071).
use Rattle.std.specs.Prelude.{◌+◌, ◌-◌, ◌*◌, ◌%◌, ℕ, zero, suc, List, [], ◌∷◌, ◌++◌, sum, take, drop}

-- the words of two bytes each, an odd last byte padded with zero
abbrev pub words : List ℕ → List ℕ
words [] = []
words (high ∷ []) = 256 * high ∷ []
words (high ∷ low ∷ bytes) = (256 * high + low) ∷ words bytes

-- A one's complement sum: a plain sum whose carries were added back in. It is equal to the plain sum
-- modulo 65,535, and 0 only where that is 0.
abbrev pub carried : ℕ → ℕ
carried zero = 0
carried (suc n) = n % 65535 + 1

-- all bytes of a packet but its authentication
abbrev pub summed_bytes : List ℕ → List ℕ
summed_bytes bytes = take 16 bytes ++ drop 24 bytes

-- the one's complement sum over a packet
abbrev pub packet_sum : List ℕ → ℕ
packet_sum bytes = carried (sum (words (summed_bytes bytes)))

-- the complement of a sum of words
abbrev pub checksum : ℕ → ℕ
checksum total = 65535 - carried total

-- the complement of the sum over a packet
unfoldable pub packet_checksum : List ℕ → ℕ
packet_checksum bytes = 65535 - packet_sum bytes
