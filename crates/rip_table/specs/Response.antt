-- What an entry of a response does to the table (RFC 2453 section 3.9.2).
use Rattle.std.specs.Prelude.{ℕ, ◌+◌, ◌==◌, Bool, not, ◌&&◌, nat_lt, min, if◌then◌else◌, Option, Some, None}
use Rattle.dn_net.specs.Networks.{Network}
use Rattle.rip_wire.specs.Constants.{infinity}
use Rattle.rip_wire.specs.declared.entry.Entry.{Entry}
use Rattle.rip_table.specs.declared.held.Held.{Held}
use Rattle.rip_table.specs.Held.{learnt, lost, refreshed, is_current, is_via}
use Rattle.rip_table.specs.Routes.{Routes, held_at, is_full, put}
use Rattle.rip_table.specs.Validation.{destination_of}

-- the metric of the route by the port: MIN (metric + cost, infinity) of RFC 2453 section 3.9.2
abbrev pub metric_with_cost : ℕ → Entry → ℕ
metric_with_cost cost e = min infinity (e.metric + cost)

-- The route that is held after the metric m was told on a port with this tag, if the route h was held before.
abbrev pub existing_after : ℕ → ℕ → ℕ → ℕ → Held → Held
existing_after port tag m now h =
    -- an own network that can be reached
    if is_current h then h
    -- told on the port by which the route goes: the same metric restarts the timeout, another one is followed,
    -- and infinity begins the deletion
    else if is_via port h && m == h.metric && nat_lt m infinity then refreshed now h
    else if is_via port h && m == h.metric then h
    else if is_via port h && nat_lt m infinity then learnt port tag m now
    else if is_via port h then lost now h
    -- told on another port, or an own network that can't be reached: only a lesser metric counts
    else if nat_lt m h.metric then learnt port tag m now
    else h

-- The route that is held after it, if perhaps none was held before. None is added to a full table.
abbrev pub route_after : Bool → ℕ → ℕ → ℕ → ℕ → Option Held → Option Held
route_after full port tag m now None = if nat_lt m infinity && not full then Some (learnt port tag m now) else None
route_after full port tag m now (Some h) = Some (existing_after port tag m now h)

-- the table after an entry: the route to the entry's network alone is another
abbrev pub entry_taken_at : ℕ → ℕ → Entry → ℕ → Routes → Option Network → Routes
entry_taken_at port cost e now routes None = routes
entry_taken_at port cost e now routes (Some network) =
    put routes network (route_after (is_full routes) port e.tag (metric_with_cost cost e) now (held_at routes network))

abbrev pub entry_taken : ℕ → ℕ → Entry → ℕ → Routes → Routes
entry_taken port cost e now routes = entry_taken_at port cost e now routes (destination_of e)
