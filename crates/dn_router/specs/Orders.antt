-- An order: what a step needs that is computed apart from the router.
use Rattle.std.specs.Prelude.{ℕ, List}
use Rattle.dn_guest.specs.declared.node.Node.{Node}
use Rattle.dn_model.specs.declared.event.Event.{Event}

-- the router's number, a node that was kept, the number of events that led to it, and the events to run it over; the last of them is the one to handle
pub record Task (S : Type 0) : Type 0 where
  pub router : ℕ
  pub place : ℕ
  pub base : Node S
  pub inputs : List Event
