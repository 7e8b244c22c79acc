-- Masks of ports: bit p of 16 is port p.
use Rattle.std.specs.Prelude.{ℕ, ◌^◌, nat_lt, if◌then◌else◌}

-- the mask of a port alone
abbrev pub only_port : ℕ → ℕ
only_port port = if nat_lt port 16 then 2 ^ port else 0
