-- Where two texts differ.
use Rattle.std.specs.Prelude.{◌≡◌, ◌≢◌, ℕ, ◌≤◌, List, length, take, slice_get}

-- the first place where two texts differ: the bytes there differ, or one of the texts ends there
pub record DiffersAt (one other : List ℕ) (place : ℕ) : Type 0 where
  pub same : take place one ≡ take place other
  pub within : (place ≤ length one) × (place ≤ length other)
  pub apart : slice_get one place ≢ slice_get other place
