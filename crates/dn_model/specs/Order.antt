-- The order of events, and lists in it.
use Rattle.std.specs.Prelude.{ℕ, Bool, List, [], ◌∷◌, ◌++◌}
use Rattle.std.specs.Ordering.{is_lt, nat_cmp}
use Rattle.std.specs.declared.cmp.Ordering.{Ordering}
use Rattle.std.specs.Cmp.{IsTotalOrder, on_total}
use Rattle.std.specs.Cmp.Lexicographic.{slice_cmp, nat_list_cmp_total}
use Rattle.dn_guest.specs.InputOrder.{input_numbers}
use Rattle.dn_lists.specs.InOrder.{in_order}
use Rattle.dn_model.specs.declared.key.Key.{Key}
use Rattle.dn_model.specs.declared.event.Event.{Event}

-- a key as the numbers by which it is compared, the first one that differs deciding
abbrev pub key_numbers : Key → List ℕ
key_numbers k = k.group ∷ k.sum ∷ k.class ∷ k.tie ∷ k.origin ∷ k.seq ∷ []

-- the key, then the router, then the input
abbrev pub event_numbers : Event → List ℕ
event_numbers e = key_numbers e.key ++ e.router ∷ input_numbers e.input

unfoldable pub key_cmp : Key → Key → Ordering
key_cmp x y = slice_cmp nat_cmp (key_numbers x) (key_numbers y)

unfoldable pub event_cmp : Event → Event → Ordering
event_cmp x y = slice_cmp nat_cmp (event_numbers x) (event_numbers y)

-- the sorted list of the events
unfoldable pub sorted : List Event → List Event
sorted es = in_order event_cmp es

-- an event is below a key where its own key is less
unfoldable pub is_below : Key → Event → Bool
is_below bound e = is_lt (key_cmp e.key bound)

-- both orders are total
pub key_total : IsTotalOrder key_cmp
unfolding key_cmp
key_total = on_total key_numbers nat_list_cmp_total

pub event_total : IsTotalOrder event_cmp
unfolding event_cmp
event_total = on_total event_numbers nat_list_cmp_total
