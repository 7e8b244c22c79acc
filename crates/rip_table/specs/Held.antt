-- A route that is held, and its timer (RFC 2453 sections 3.5 and 3.8).
use Rattle.std.specs.Prelude.{ℕ, ◌-◌, ◌==◌, Bool, true, false, not, ◌&&◌, nat_le, nat_lt, Option, Some, None, is_some}
use Rattle.rip_wire.specs.Constants.{garbage_collection, infinity, timeout}
use Rattle.rip_table.specs.declared.held.Held.{Held}

-- a route that was just told on a port
abbrev pub learnt : ℕ → ℕ → ℕ → ℕ → Held
learnt port tag metric now = record { tag = tag; metric = metric; via = Some port; time = now; changed = true }

-- the network can be reached
abbrev pub is_reachable : Held → Bool
is_reachable h = nat_lt h.metric infinity

-- a network of the router's own
abbrev pub is_own : Held → Bool
is_own h = not (is_some h.via)

-- a network of the router's own that can be reached
abbrev pub is_current : Held → Bool
is_current h = is_own h && is_reachable h

-- the route's deletion begins now (RFC 2453 section 3.8)
abbrev pub lost : ℕ → Held → Held
lost now h = record h { metric = infinity; time = now; changed = true }

-- it is heard now, and all else stays
abbrev pub refreshed : ℕ → Held → Held
refreshed now h = record h { time = now }

-- it isn't marked as changed: the route change flag is clear (RFC 2453 section 3.10.1)
abbrev pub settled : Held → Held
settled h = record h { changed = false }

abbrev via_is : ℕ → Option ℕ → Bool
via_is port None = false
via_is port (Some via) = via == port

-- it goes by this port
abbrev pub is_via : ℕ → Held → Bool
is_via port h = via_is port h.via

-- it goes by this port and can be reached
abbrev pub is_lost_via : ℕ → Held → Bool
is_lost_via port h = is_via port h && is_reachable h

-- it can be reached by a port, and was last heard 180 or more ticks ago: the timeout (RFC 2453 section 3.8)
abbrev pub is_timed_out : ℕ → Held → Bool
is_timed_out now h = not (is_own h) && is_reachable h && nat_le timeout (now - h.time)

-- it can't be reached, and its deletion began 120 or more ticks ago: the garbage collection (RFC 2453 section 3.8)
abbrev pub is_gone : ℕ → Held → Bool
is_gone now h = not (is_reachable h) && nat_le garbage_collection (now - h.time)
