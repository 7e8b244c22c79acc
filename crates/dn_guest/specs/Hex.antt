-- Bytes as hexadecimal digits, in lower case.
use Rattle.std.specs.Prelude.{ℕ, ◌+◌, ◌/◌, ◌%◌, nat_lt, if◌then◌else◌, List, [], ◌∷◌}
use Rattle.std.specs.List.{flat_map}

-- the digit of a number below 16: 0 to 9, then a to f
abbrev pub digit : ℕ → ℕ
digit n = if nat_lt n 10 then 48 + n else 87 + n

-- two digits a byte
abbrev pub hex : List ℕ → List ℕ
hex bytes = flat_map (λ byte. digit (byte / 16) ∷ digit (byte % 16) ∷ []) bytes
