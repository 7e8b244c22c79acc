-- No timer of a route is over (RFC 2453 section 3.8).
use Rattle.std.specs.Prelude.{◌≡◌, ◌≤◌, ◌<◌, ◌+◌, ℕ, Some}
use Rattle.rip_wire.specs.Constants.{garbage_collection, infinity, timeout}
use Rattle.rip_table.specs.declared.held.Held.{Held}

pub record IsTimely (now : ℕ) (h : Held) : Type 0 where
  -- it was heard, or its deletion began, in the past
  pub past : h.time ≤ now
  -- one that was learnt on a port, and can be reached, was heard fewer than 180 ticks ago
  pub heard : (port : ℕ) → h.via ≡ Some port → h.metric < infinity → now < h.time + timeout
  -- the deletion of one that can't be reached began fewer than 120 ticks ago
  pub kept : h.metric ≡ infinity → now < h.time + garbage_collection
