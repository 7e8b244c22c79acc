-- The entries of an update (RFC 2453 sections 3.4.3, 3.10.2 and 4).
use Rattle.std.specs.Prelude.{ℕ, Bool, not, ◌||◌, if◌then◌else◌, List, map, filter, Option, Some, None}
use Rattle.dn_net.specs.Networks.{Network, mask_of}
use Rattle.rip_wire.specs.Constants.{infinity, ip_family}
use Rattle.rip_wire.specs.declared.entry.Entry.{Entry}
use Rattle.rip_table.specs.declared.held.Held.{Held}
use Rattle.rip_table.specs.Held.{is_via}
use Rattle.rip_table.specs.Routes.{Routes}

-- The metric with which a route is told: infinity towards the port by which it goes, which is split horizon with
-- poisoned reverse (RFC 2453 section 3.4.3). Towards no port it is the route's own.
abbrev pub split_horizon : Option ℕ → Held → ℕ
split_horizon None h = h.metric
split_horizon (Some port) h = if is_via port h then infinity else h.metric

-- the entry of a route in an update to this port
abbrev pub update_entry : Option ℕ → Network × Held → Entry
update_entry to e = record {
  family = ip_family;
  tag = e.1.tag;
  address = e.0.0;
  mask = mask_of e.0.1;
  hop = 0;
  metric = split_horizon to e.1;
}

-- the entries of all routes, or of those alone that are marked as changed, in order
abbrev pub update_entries : Option ℕ → Bool → Routes → List Entry
update_entries to only_changed routes = map (update_entry to) (filter (λ e. not only_changed || e.1.changed) routes)
