-- The router's own networks, which RFC 2453 section 3.5 calls directly connected. How they are set and withdrawn is
-- this project's own.
use Rattle.std.specs.Prelude.{ℕ, ◌==◌, Bool, true, not, ◌||◌, if◌then◌else◌, length, filter}
use Rattle.std.specs.Prelude.{Option, Some, None, option_map}
use Rattle.std.specs.Map.{values_of}
use Rattle.rip_table.specs.declared.held.Held.{Held}
use Rattle.rip_table.specs.Held.{lost, is_own, is_current}
use Rattle.rip_table.specs.Routes.{Routes, held_at, is_full, put}

-- an own network of this metric
abbrev pub own : ℕ → ℕ → Bool → Held
own metric now changed = record { tag = 0; metric = metric; via = None; time = now; changed = changed }

-- The own network with this metric. It is marked as changed, except that the mark stays if it was own with
-- the same metric. To a full table no network is added.
abbrev pub connected : Bool → ℕ → ℕ → Option Held → Option Held
connected full metric now None = if full then None else Some (own metric now true)
connected full metric now (Some h) = Some (own metric now (not (is_own h) || not (h.metric == metric) || h.changed))

-- an own network that can be reached is no more
abbrev pub withdrawn : ℕ → Held → Held
withdrawn now h = if is_current h then lost now h else h

abbrev pub with_own : Routes → ℕ → ℕ → ℕ → ℕ → Routes
with_own routes address len metric now =
    put routes (address, len) (connected (is_full routes) metric now (held_at routes (address, len)))

abbrev pub without_own : Routes → ℕ → ℕ → ℕ → Routes
without_own routes address len now =
    put routes (address, len) (option_map (withdrawn now) (held_at routes (address, len)))

-- 1 if an own network is held that can be reached, and 0 otherwise
abbrev pub own_at : Option Held → ℕ
own_at None = 0
own_at (Some h) = if is_current h then 1 else 0

-- how many own networks can be reached
abbrev pub own_count : Routes → ℕ
own_count routes = length (filter is_current (values_of routes))
