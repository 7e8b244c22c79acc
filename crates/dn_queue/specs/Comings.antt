-- Events that have come in part.
use Rattle.std.specs.Prelude.{◌≡◌, List, ◌++◌}
use Rattle.dn_model.specs.declared.event.Event.{Event}
use Rattle.dn_world.specs.World.{Part, with_todo}

-- a front of the events has come, and the rest is lost
pub record HasComeInPart (events : List Event) (before after : Part) : Type 0 where
  pub came : List Event
  pub lost : List Event
  pub all : events ≡ came ++ lost
  pub come : after ≡ with_todo came before
