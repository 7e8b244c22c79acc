-- Hexadecimal fields.
use Rattle.std.specs.Prelude.{ℕ, ◌+◌, ◌-◌, ◌*◌, List, [], ◌∷◌, Bool, ◌&&◌, ◌||◌, nat_le, nat_lt, ◌%◌, ◌==◌, length, if◌then◌else◌, Option, Some, None}
use Rattle.std.specs.Int.{to_be_bytes, w64}
use Rattle.std.specs.List.{list_all}
use Rattle.std.specs.Option.{option_map}
use Rattle.dn_guest.specs.Hex.{hex}

-- 0 to 9 and a to f
abbrev pub is_hex_digit : ℕ → Bool
is_hex_digit c = (nat_le 48 c && nat_le c 57) || (nat_le 97 c && nat_le c 102)

abbrev pub digit_value : ℕ → ℕ
digit_value c = if nat_lt c 97 then c - 48 else c - 87

-- the byte of two digits
abbrev pub byte_of : ℕ → ℕ → Option ℕ
byte_of high low = if is_hex_digit high && is_hex_digit low then Some (16 * digit_value high + digit_value low) else None

abbrev pub behind : Option ℕ → Option (List ℕ) → Option (List ℕ)
behind None bytes = None
behind (Some byte) bytes = option_map (λ bytes. byte ∷ bytes) bytes

-- bytes as pairs of digits
unfoldable pub pairs : List ℕ → Option (List ℕ)
pairs [] = Some []
pairs (c ∷ []) = None
pairs (c ∷ d ∷ cs) = behind (byte_of c d) (pairs cs)

-- the bytes of an even, positive number of digits
abbrev pub unhex : List ℕ → Option (List ℕ)
unhex [] = None
unhex (c ∷ cs) = pairs (c ∷ cs)

-- whether the field is an even, positive number of digits
abbrev pub is_hex : List ℕ → Bool
is_hex field = nat_lt 0 (length field) && (length field % 2 == 0 && list_all is_hex_digit field)

-- the 16 digits of a number below 2 ^ 64, the highest first
unfoldable pub hex64 : ℕ → List ℕ
hex64 n = hex (to_be_bytes w64 n)
