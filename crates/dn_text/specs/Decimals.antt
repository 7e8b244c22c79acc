-- Decimal fields.
use Rattle.std.specs.Prelude.{ℕ, ◌^◌, List, [], ◌∷◌, Bool, true, false, ◌&&◌, ◌==◌, nat_le, nat_lt, if◌then◌else◌, Option, Some, None}
use Rattle.std.specs.List.{list_all}
use Rattle.std.specs.Str.Parse.{digits_value}
use Rattle.dn_text.specs.declared.decimals.Number.{Number}
use Rattle.dn_text.specs.declared.decimals.Number.TheVariants.{Is, Beyond}

-- 0 to 9
abbrev pub is_digit : ℕ → Bool
is_digit c = nat_le 48 c && nat_le c 57

abbrev pub is_nil : List ℕ → Bool
is_nil [] = true
is_nil (c ∷ cs) = false

-- `0`, or digits of which the first isn't 0
abbrev pub is_decimal : List ℕ → Bool
is_decimal [] = false
is_decimal (c ∷ cs) = if c == 48 then is_nil cs else (is_digit c && list_all is_digit cs)

abbrev pub number : ℕ → Number
number n = if nat_lt n (2 ^ 64) then Is n else Beyond

-- the number that a decimal field says
unfoldable pub numeral_of : List ℕ → Option Number
numeral_of field = if is_decimal field then Some (number (digits_value 10 field)) else None

abbrev pub within : Option Number → Option ℕ
within (Some (Is n)) = Some n
within (Some Beyond) = None
within None = None

-- the number of a decimal field that doesn't exceed u64
abbrev pub decimal_of : List ℕ → Option ℕ
decimal_of field = within (numeral_of field)
