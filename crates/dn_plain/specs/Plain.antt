-- A run whose waiting events stand in a plain list.
use Rattle.std.specs.Prelude.{◌≡◌, ℕ, ◌≤◌, Bool, false, List, length}
use Rattle.dn_guest.specs.declared.node.Node.{Node}
use Rattle.dn_model.specs.declared.event.Event.{Event}
use Rattle.dn_model.specs.Cases.{Heading, IsHeading}
use Rattle.dn_model.specs.Settled.{row_limit}
use Rattle.dn_lockstep.specs.Steps.{AreInside}

-- what holds of a run's parts in every state, where what waits is a plain list
pub record IsPlain {S : Type 0} (header : Heading) (nodes : List (Node S)) (waiting : List Event) (place : ℕ) (spent : Bool) : Type 0 where
  pub rules : IsHeading header
  pub one_each : length nodes ≡ length header.routers
  pub within : place ≤ row_limit
  pub inside : spent ≡ false → AreInside (length header.routers) waiting
