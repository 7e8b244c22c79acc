-- The events to handle, of which a set has each once and a list has the further ones.
use Rattle.std.specs.Prelude.{◌≡◌, true, List, ◌++◌}
use Rattle.std.specs.List.{AllByRecursion}
use Rattle.std.specs.List.Sorted.{IsStrictlySortedBy}
use Rattle.dn_model.specs.declared.event.Event.{Event}
use Rattle.dn_model.specs.Order.{event_cmp, sorted}
use Rattle.dn_world.specs.World.{stands}

-- all of them, in order
abbrev pub all_todo : List Event → List Event → List Event
all_todo first again = sorted (first ++ again)

-- the set is in order, and what stands in the list stands in the set too
pub record IsFronted (first again : List Event) : Type 0 where
  pub ascending : IsStrictlySortedBy event_cmp first
  pub there : AllByRecursion (λ e. stands e first ≡ true) again
