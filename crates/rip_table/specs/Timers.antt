-- Timeout and garbage collection (RFC 2453 section 3.8), and a port that went down.
use Rattle.std.specs.Prelude.{ℕ, not, if◌then◌else◌, filter}
use Rattle.rip_table.specs.declared.held.Held.{Held}
use Rattle.rip_table.specs.Held.{lost, is_lost_via, is_timed_out, is_gone}
use Rattle.rip_table.specs.Routes.{Routes, all_changed}

-- a route that timed out is lost
abbrev pub timed_out : ℕ → Held → Held
timed_out now h = if is_timed_out now h then lost now h else h

-- first the routes that timed out are lost, then those whose garbage collection is over are removed
abbrev pub ticked : ℕ → Routes → Routes
ticked now routes = filter (λ e. not (is_gone now e.1)) (all_changed (timed_out now) routes)

-- a route by this port is lost
abbrev pub port_lost : ℕ → ℕ → Held → Held
port_lost port now h = if is_lost_via port h then lost now h else h
