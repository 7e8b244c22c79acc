-- Places in a list of events.
use Rattle.std.specs.Prelude.{◌≡◌, ℕ, ◌<◌, Bool, true, false, Some, List, take, drop, length, slice_get}
use Rattle.std.specs.List.{AllByRecursion}
use Rattle.dn_model.specs.declared.event.Event.{Event}
use Rattle.dn_world.specs.World.{is_same}

-- the events before the place pass the test, and those from it on don't
pub record IsSplit (test : Event → Bool) (events : List Event) (place : ℕ) : Type 0 where
  pub front : AllByRecursion (λ x. test x ≡ true) (take place events)
  pub rest : AllByRecursion (λ x. test x ≡ false) (drop place events)

-- e stands at the place, and not before it
pub record IsFirst (e : Event) (events : List Event) (place : ℕ) : Type 0 where
  pub within : place < length events
  pub here : slice_get events place ≡ Some e
  pub front : AllByRecursion (λ x. is_same e x ≡ false) (take place events)
