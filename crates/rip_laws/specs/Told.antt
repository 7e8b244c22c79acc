-- Where a route comes from (RFC 2453 section 3.9.2).
use Rattle.std.specs.Prelude.{◌≡◌, ◌≤◌, ◌<◌, ◌+◌, ◌⊎◌, ℕ, false, List, Contains, IfSome, Some, length, slice_index}
use Rattle.dn_guest.specs.declared.input.Input.{Input}
use Rattle.dn_guest.specs.declared.input.Input.TheVariants.{Msg}
use Rattle.dn_net.specs.Networks.{Network}
use Rattle.rip_wire.specs.Constants.{response_command}
use Rattle.rip_wire.specs.declared.entry.Entry.{Entry}
use Rattle.rip_wire.specs.Reading.{message_at}
use Rattle.rip_table.specs.declared.held.Held.{Held}
use Rattle.rip_table.specs.Held.{refreshed}
use Rattle.rip_table.specs.Routes.{held_at}
use Rattle.rip_table.specs.Validation.{destination_of}
use Rattle.rip_guest.specs.Requests.{is_authenticated}
use Rattle.rip_guest.specs.State.{RipState}

-- The input is a response on a port that the router has, with these entries, and the first of them isn't one of
-- authentication.
pub record IsResponse (s : RipState) (input : Input) (port : ℕ) (entries : List Entry) : Type 0 where
  pub body : List ℕ
  pub comes : input ≡ Msg port body
  pub there : port < length s.costs
  pub says : message_at body ≡ Some (record { command = response_command; entries = entries })
  pub plain : is_authenticated entries ≡ false

-- The input told this route on this port, now: an entry of a response told of the network, and the metric is the
-- entry's and the port's cost, so at least one more. The tag is the entry's, or the route was held already, and is
-- only heard again.
pub record IsTold (s : RipState) (input : Input) (port : ℕ) (n : Network) (h : Held) : Type 0 where
  pub entries : List Entry
  pub entry : Entry
  pub response : IsResponse s input port entries
  pub among : Contains entries entry
  pub network : destination_of entry ≡ Some n
  pub metric : h.metric ≡ entry.metric + slice_index s.costs port
  pub farther : entry.metric + 1 ≤ h.metric
  pub now : h.time ≡ s.last_tick
  pub tag : (h.tag ≡ entry.tag) ⊎ IfSome (held_at s.routes n) (λ k. h ≡ refreshed s.last_tick k)
