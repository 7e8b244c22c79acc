-- The stamps of what comes from outside.
use Rattle.std.specs.Prelude.{ℕ, ◌-◌, min, max}

-- a recorder: how many groups there are, and its last stamp, which is 0 before the first
pub record Stamping : Type 0 where
  pub groups : ℕ
  pub last : ℕ

-- the stamp at this beat: the group of that number, but not before the last stamp, and not past the last group
abbrev pub stamp_of : ℕ → ℕ → ℕ → ℕ
stamp_of groups last beat = min (groups - 1) (max last beat)
