-- Names of routers.
use Rattle.std.specs.Prelude.{ℕ, List, [], ◌∷◌, length, Bool, false, ◌&&◌, ◌||◌, nat_le}
use Rattle.std.specs.List.{list_all}

-- a to z
abbrev pub is_letter : ℕ → Bool
is_letter c = nat_le 97 c && nat_le c 122

-- 0 to 9
abbrev pub is_digit : ℕ → Bool
is_digit c = nat_le 48 c && nat_le c 57

abbrev pub is_letter_or_digit : ℕ → Bool
is_letter_or_digit c = is_letter c || is_digit c

abbrev pub begins_well : List ℕ → Bool
begins_well [] = false
begins_well (c ∷ cs) = is_letter c && list_all is_letter_or_digit cs

-- 1 to 16 characters of a to z and 0 to 9, the first a letter
abbrev pub is_name : List ℕ → Bool
is_name bytes = nat_le (length bytes) 16 && begins_well bytes
