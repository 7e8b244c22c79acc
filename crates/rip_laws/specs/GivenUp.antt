-- Why a route that was learnt is given up (RFC 2453 sections 3.8 and 3.9.2), and why one is removed (section 3.8).
use Rattle.std.specs.Prelude.{◌≡◌, ◌≤◌, ◌<◌, ◌+◌, ◌⊎◌, ℕ, List, Contains, Some, slice_index, is_some, true}
use Rattle.dn_guest.specs.declared.input.Input.{Input}
use Rattle.dn_guest.specs.declared.input.Input.TheVariants.{Down, Tick}
use Rattle.dn_net.specs.Networks.{Network}
use Rattle.rip_wire.specs.Constants.{infinity, timeout}
use Rattle.rip_wire.specs.declared.entry.Entry.{Entry}
use Rattle.rip_table.specs.declared.held.Held.{Held}
use Rattle.rip_table.specs.Routes.{Routes, held_at}
use Rattle.rip_table.specs.Validation.{destination_of}
use Rattle.rip_guest.specs.State.{RipState}
use Rattle.rip_laws.specs.Told.{IsResponse}

-- a route to the network is held
abbrev pub IsHeld : Routes → Network → Type 0
IsHeld routes n = is_some (held_at routes n) ≡ true

-- a route to the network is held, and it can be reached
pub record IsReachable (routes : Routes) (n : Network) : Type 0 where
  pub route : Held
  pub held : held_at routes n ≡ Some route
  pub metric : route.metric < infinity

-- a tick comes, so many ticks or more after the one that the route keeps
pub record IsOver (input : Input) (h : Held) (ticks : ℕ) : Type 0 where
  pub group : ℕ
  pub comes : input ≡ Tick group
  pub over : h.time + ticks ≤ group

-- one of the entries, which tells of the network
pub record TellsOf (entries : List Entry) (n : Network) (e : Entry) : Type 0 where
  pub among : Contains entries e
  pub network : destination_of e ≡ Some n

-- an entry tells of the network at a metric that, with the cost of the port, is less than this one
pub record TellsShorter (entries : List Entry) (cost : ℕ) (n : Network) (metric : ℕ) : Type 0 where
  pub entry : Entry
  pub tells : TellsOf entries n entry
  pub shorter : entry.metric + cost < metric

-- The input is a response that tells of the network as unreachable. It comes on the port of the route, or it told a
-- shorter way before, which was taken.
pub record IsToldUnreachable (s : RipState) (input : Input) (port : ℕ) (n : Network) (h : Held) : Type 0 where
  pub from : ℕ
  pub entries : List Entry
  pub response : IsResponse s input from entries
  pub entry : Entry
  pub tells : TellsOf entries n entry
  pub unreachable : infinity ≤ entry.metric + slice_index s.costs from
  pub source : (from ≡ port) ⊎ TellsShorter entries (slice_index s.costs from) n h.metric

-- The route on this port may be given up: it timed out, its port went down, or it is told unreachable.
abbrev pub MayGiveUp : RipState → Input → ℕ → Network → Held → Type 0
MayGiveUp s input port n h = IsOver input h timeout ⊎ ((input ≡ Down port) ⊎ IsToldUnreachable s input port n h)
