-- What a queue holds.
use Rattle.std.specs.Prelude.{Bool, false, List, [], ◌∷◌, map}
use Rattle.std.specs.List.{AllByRecursion}
use Rattle.std.specs.List.Sorted.{IsSorted}
use Rattle.std.specs.Ordering.{is_lt}
use Rattle.std.specs.declared.cmp.Ordering.{Ordering}
use Rattle.std.specs.Cmp.{IsTotalOrder, on_total, back_total}
use Rattle.dn_model.specs.declared.event.Event.{Event}
use Rattle.dn_model.specs.Order.{event_cmp, event_total}
use Rattle.dn_lockstep.specs.declared.queued.Queued.{Queued}
use Rattle.dn_lockstep.specs.Least.{IsUpTo}

-- the reversed order of events
abbrev pub later_cmp : Queued → Queued → Ordering
later_cmp x y = event_cmp y.event x.event

pub later_total : IsTotalOrder later_cmp
later_total = back_total (on_total (λ q. q.event) event_total)

abbrev pub queued_events : List Queued → List Event
queued_events items = map (λ q. q.event) items

-- the event stands before the first of these
abbrev pub is_before_first : Event → List Queued → Bool
is_before_first e [] = false
is_before_first e (q ∷ qs) = is_lt (event_cmp e q.event)

-- the first events fall, and none of the later ones stands before one of them
pub record IsQueue (first : List Queued) (later : List Event) : Type 0 where
  pub falls : IsSorted later_cmp first
  pub up_to : AllByRecursion (λ q. IsUpTo q.event later) first
