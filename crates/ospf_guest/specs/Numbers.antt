-- Numbers in an image, the highest byte first. The highest byte has all that the others don't hold, so that two numbers
-- of any size have two images; each number that a router keeps fits its bytes.
use Rattle.std.specs.Prelude.{ℕ, ◌+◌, ◌/◌, ◌%◌, ◌^◌, Bool, true, false, List, [], ◌∷◌, ◌++◌, Option, Some, None}

-- two, four and eight bytes of a number
abbrev pub two : ℕ → List ℕ
two n = n / 2 ^ 8 ∷ n % 2 ^ 8 ∷ []

abbrev pub four : ℕ → List ℕ
four n = n / 2 ^ 24 ∷ n / 2 ^ 16 % 2 ^ 8 ∷ n / 2 ^ 8 % 2 ^ 8 ∷ n % 2 ^ 8 ∷ []

unfoldable pub eight : ℕ → List ℕ
eight n = four (n / 2 ^ 32) ++ four (n % 2 ^ 32)

-- 0 for none, and one more than the number
abbrev pub one_more : Option ℕ → ℕ
one_more None = 0
one_more (Some n) = n + 1

abbrev pub bit : Bool → ℕ
bit false = 0
bit true = 1
