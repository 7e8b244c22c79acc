-- What holds of a router's table at every moment. The law is `sound_tables` of src/laws.rt.
use Rattle.std.specs.Prelude.{◌≡◌, ◌≤◌, ◌<◌, ◌^◌, ℕ, true, false, length, IfSome}
use Rattle.std.specs.List.{AllByRecursion}
use Rattle.std.specs.List.Sorted.{IsStrictlySortedBy}
use Rattle.std.specs.Map.{keys_of}
use Rattle.dn_net.specs.Networks.{Network, is_network, network_cmp}
use Rattle.rip_wire.specs.Constants.{infinity, most_own_networks, most_routes}
use Rattle.rip_table.specs.declared.held.Held.{Held}
use Rattle.rip_table.specs.Held.{is_gone, is_timed_out}
use Rattle.rip_table.specs.Own.{own_count}
use Rattle.rip_table.specs.Routes.{Routes}
use Rattle.rip_table.specs.Validation.{is_valid_destination}

-- A route of a router with so many ports, at this tick, and its network.
pub record IsSoundRoute (ports now : ℕ) (e : Network × Held) : Type 0 where
  -- an address of 32 bits, a length of at most 32, and no host bits
  pub address : e.0.0 < 2 ^ 32
  pub network : is_network e.0.0 e.0.1 ≡ true
  pub tag : e.1.tag < 2 ^ 16
  -- the metric is 1 to 16
  pub least : 1 ≤ e.1.metric
  pub most : e.1.metric ≤ infinity
  -- it is own, or goes by one of the ports to where a response may tell of
  pub via : IfSome e.1.via (λ port. (port < ports) × (is_valid_destination e.0.0 e.0.1 ≡ true))
  -- it was last heard, or its deletion began, not after this tick, and neither timer is over
  pub time : e.1.time ≤ now
  pub heard : is_timed_out now e.1 ≡ false
  pub kept : is_gone now e.1 ≡ false

pub record IsSoundTable (ports now : ℕ) (routes : Routes) : Type 0 where
  -- each network once, in ascending order
  pub rising : IsStrictlySortedBy network_cmp (keys_of routes)
  pub each : AllByRecursion (IsSoundRoute ports now) routes
  pub few : length routes ≤ most_routes
  -- of the own networks that can be reached there are at most 32
  pub own : own_count routes ≤ most_own_networks
