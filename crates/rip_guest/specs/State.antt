-- The state of a RIP router.
use Rattle.std.specs.Prelude.{ℕ, Bool, nat_lt, min, List, [], map, fold, filter, length}
use Rattle.std.specs.List.{range_with_len}
use Rattle.dn_guest.specs.Ports.{is_up}
use Rattle.rip_wire.specs.Constants.{infinity}
use Rattle.rip_table.specs.Held.{settled}
use Rattle.rip_table.specs.Own.{with_own}
use Rattle.rip_table.specs.Routes.{Routes, all_changed}

pub record RipState : Type 0 where
  -- the router's number
  pub number : ℕ
  -- the last tick, 0 before the first
  pub last_tick : ℕ
  -- the cost of each port, from 1 to 16
  pub costs : List ℕ
  pub routes : Routes

-- the state of these parts
abbrev pub state_of : ℕ → ℕ → List ℕ → Routes → RipState
state_of number last_tick costs routes =
    record { number = number; last_tick = last_tick; costs = costs; routes = routes }

-- the state with other routes
abbrev pub with_routes : RipState → Routes → RipState
with_routes s routes = record s { routes = routes }

-- the router has this port
abbrev pub has_port : RipState → ℕ → Bool
has_port s port = nat_lt port (length s.costs)

-- the router's ports that are up, in ascending order
abbrev pub up_ports : ℕ → ℕ → List ℕ
up_ports ports count = filter (is_up ports) (range_with_len 0 count)

-- an own network: its address, its length and its metric
abbrev pub Prefix : Type 0
Prefix = ℕ × ℕ × ℕ

-- each own network has its metric at tick 0, and none is marked as changed
abbrev pub opening_routes : List Prefix → Routes
opening_routes prefixes =
    all_changed settled (fold (λ routes p. with_own routes p.0 p.1 (min infinity p.2) 0) [] prefixes)

-- the state at the start
abbrev pub opening : ℕ → List ℕ → List Prefix → RipState
opening number costs prefixes = record {
  number = number;
  last_tick = 0;
  costs = map (min infinity) costs;
  routes = opening_routes prefixes;
}
