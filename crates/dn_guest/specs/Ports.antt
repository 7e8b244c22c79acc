-- A mask of up ports: bit p of 16 is port p. Ports of 16 and more have no bit, and are never up.
use Rattle.std.specs.Prelude.{ℕ, ◌^◌, Bool, ◌&&◌, ◌==◌, nat_lt, if◌then◌else◌, bit_and, bit_or}
use Rattle.std.specs.Int.{w16, bit_at, bit_not}

abbrev pub is_up : ℕ → ℕ → Bool
is_up ports port = nat_lt port 16 && (bit_at ports port == 1)

-- the mask with the port's bit clear
abbrev pub with_down : ℕ → ℕ → ℕ
with_down ports port = if nat_lt port 16 then bit_and ports (bit_not w16 (2 ^ port)) else ports

-- the mask with the port's bit set
abbrev pub with_up : ℕ → ℕ → ℕ
with_up ports port = if nat_lt port 16 then bit_or ports (2 ^ port) else ports
