-- The least of some events.
use Rattle.std.specs.Prelude.{◌≡◌, false, List, ◌∷◌}
use Rattle.std.specs.List.{AllByRecursion}
use Rattle.std.specs.List.Sorted.{IsPermutation}
use Rattle.std.specs.Ordering.{is_gt}
use Rattle.dn_model.specs.declared.event.Event.{Event}
use Rattle.dn_model.specs.Order.{event_cmp}

-- the event stands before none of the others
abbrev pub IsUpTo : Event → List Event → Type 0
IsUpTo e others = AllByRecursion (λ w. is_gt (event_cmp e w) ≡ false) others

-- e is the first of the events, in the order of events, and rest is the others
pub record IsLeast (e : Event) (events : List Event) : Type 0 where
  pub rest : List Event
  pub among : IsPermutation events (e ∷ rest)
  pub first : IsUpTo e rest
