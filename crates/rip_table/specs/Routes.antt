-- The table as a finite map: the list of its entries in ascending order of the networks.
use Rattle.std.specs.Prelude.{Bool, nat_le, List, length, map, Option, Some, None}
use Rattle.std.specs.List.{list_any}
use Rattle.std.specs.Map.{lookup, values_of}
use Rattle.std.specs.BTreeMap.{insert_entry, is_at}
use Rattle.dn_net.specs.Networks.{Network, network_cmp}
use Rattle.rip_wire.specs.Constants.{most_routes}
use Rattle.rip_table.specs.declared.held.Held.{Held}

abbrev pub Routes : Type 0
Routes = List (Network × Held)

-- the route to a network
abbrev pub held_at : Routes → Network → Option Held
held_at routes network = lookup (is_at (network_cmp network)) routes

-- this route is held in place of the one before; where there is none, nothing changes
abbrev pub put : Routes → Network → Option Held → Routes
put routes network None = routes
put routes network (Some h) = insert_entry network_cmp routes network h

-- so many routes that none is added
abbrev pub is_full : Routes → Bool
is_full routes = nat_le most_routes (length routes)

-- some route is marked as changed
abbrev pub any_changed : Routes → Bool
any_changed routes = list_any (λ h. h.changed) (values_of routes)

-- each route is changed so
abbrev pub all_changed : (Held → Held) → Routes → Routes
all_changed change routes = map (λ e. (e.0, change e.1)) routes
