-- A world: what each router has handled and has still to handle, and what flies.
use Rattle.std.specs.Prelude.{ℕ, suc, Bool, true, false, not, ◌&&◌, ◌||◌, if◌then◌else◌, List, [], ◌∷◌, ◌++◌, get_or, replicate}
use Rattle.std.specs.List.{list_any}
use Rattle.std.specs.Ordering.{is_lt, is_eq}
use Rattle.dn_model.specs.declared.key.Key.{Key}
use Rattle.dn_model.specs.declared.event.Event.{Event}
use Rattle.dn_model.specs.declared.feed.External.{External}
use Rattle.dn_model.specs.Cases.{Heading}
use Rattle.dn_model.specs.Order.{key_cmp, event_cmp, sorted}
use Rattle.dn_model.specs.Network.{Family, tick}
use Rattle.dn_world.specs.declared.packet.Packet.{Packet}

-- ---- one router's part

-- what the router has handled, in the order of handling; what it has still to handle; and what it is to take out: events whose unsend has come, and that were handled or are still to come. The last two are in the order of events
pub record Part : Type 0 where
  pub done : List Event
  pub todo : List Event
  pub voids : List Event

-- that of a router that nothing has come to
abbrev pub no_part : Part
no_part = record { done = []; todo = []; voids = [] }

-- the same event: key, router and input
abbrev pub is_same : Event → Event → Bool
is_same e x = is_eq (event_cmp e x)

-- the event stands in the list
unfoldable pub stands : Event → List Event → Bool
stands e es = list_any (is_same e) es

-- the list without the first event that is e
unfoldable pub without : Event → List Event → List Event
without e [] = []
without e (x ∷ xs) = if is_same e x then xs else x ∷ without e xs

-- xs without each of ys, once each
unfoldable pub without_each : List Event → List Event → List Event
without_each xs [] = xs
without_each xs (y ∷ ys) = without_each (without y xs) ys

-- those of ys that then find none in xs
unfoldable pub unmatched : List Event → List Event → List Event
unmatched xs [] = []
unmatched xs (y ∷ ys) = if stands y xs then unmatched (without y xs) ys else y ∷ unmatched xs ys

-- each event that stands in both todo and voids leaves both, once each, until none stands in both
unfoldable pub cancelled : Part → Part
cancelled p = record p { todo = without_each p.todo p.voids; voids = unmatched p.todo p.voids }

-- events come into todo
unfoldable pub with_todo : List Event → Part → Part
with_todo es p = cancelled (record p { todo = sorted (es ++ p.todo) })

-- an event comes into voids
unfoldable pub with_void : Event → Part → Part
with_void e p = cancelled (record p { voids = sorted (e ∷ p.voids) })

-- the event is less than the last of the list
unfoldable pub is_before_last : List Event → Event → Bool
is_before_last [] e = false
is_before_last (x ∷ []) e = is_lt (event_cmp e x)
is_before_last (x ∷ y ∷ ys) e = is_before_last (y ∷ ys) e

-- an event to handle comes before the last one handled, or one that is to be taken out was handled
unfoldable pub is_behind : Part → Bool
is_behind p = list_any (is_before_last p.done) p.todo || list_any (λ v. stands v p.done) p.voids

abbrev pub is_empty : {X : Type 0} → List X → Bool
is_empty [] = true
is_empty (x ∷ xs) = false

-- the router isn't behind, and has something to handle
unfoldable pub is_ready : Part → Bool
is_ready p = not (is_behind p) && not (is_empty p.todo)

-- ---- the world

pub record World : Type 0 where
  -- by router
  pub parts : List Part
  -- what was sent and hasn't arrived, in the order of sending
  pub flight : List Packet
  -- the group that has begun last
  pub floor : ℕ
  -- nothing more comes from outside
  pub closed : Bool
  -- what came from outside, in order
  pub accepted : List External
  -- what is handled below it is committed
  pub boundary : Key

unfoldable pub part : World → ℕ → Part
part w r = get_or w.parts r no_part

-- the histories that the routers have handled
abbrev pub dones : World → Family
dones w r = (part w r).done

-- the events that fly as plus, and as minus
unfoldable pub plus_of : List Packet → List Event
plus_of [] = []
plus_of (k ∷ ks) = if k.plus then k.event ∷ plus_of ks else plus_of ks

unfoldable pub minus_of : List Packet → List Event
minus_of [] = []
minus_of (k ∷ ks) = if k.plus then minus_of ks else k.event ∷ minus_of ks

-- the tick of a group comes to each router, numbered from r on
unfoldable pub ticked : ℕ → ℕ → List Part → List Part
ticked group r [] = []
ticked group r (p ∷ ps) = with_todo (tick group r ∷ []) p ∷ ticked group (suc r) ps

-- the least key of the group's begin and class
abbrev pub key_of : ℕ → ℕ → Key
key_of group class = record { group = group; sum = 0; class = class; tie = 0; origin = 0; seq = 0 }

-- the world of n routers before the first step: each has the tick of group 0 to handle
unfoldable pub opening : ℕ → World
opening n = record {
  parts = ticked 0 0 (replicate n no_part);
  flight = [];
  floor = 0;
  closed = false;
  accepted = [];
  boundary = key_of 0 0;
}

-- ---- the horizon

-- the events in todo and in voids
unfoldable pub waiting_at : List Part → List Event
waiting_at [] = []
waiting_at (p ∷ ps) = p.todo ++ p.voids ++ waiting_at ps

-- those in flight, of either sign
unfoldable pub flying : List Packet → List Event
flying [] = []
flying (k ∷ ks) = k.event ∷ flying ks

-- all that waits
unfoldable pub waiting : World → List Event
waiting w = waiting_at w.parts ++ flying w.flight

-- the least of the key and the events' keys
unfoldable pub least_key : Key → List Event → Key
least_key k [] = k
least_key k (e ∷ es) = least_key (if is_lt (key_cmp e.key k) then e.key else k) es

-- all that may still come from outside has this key or a later one
unfoldable pub floor_bound : Heading → World → Key
floor_bound h w = if w.closed then key_of h.groups 0 else key_of w.floor 1

-- the least of what waits and what may still come from outside
unfoldable pub horizon : Heading → World → Key
horizon h w = least_key (floor_bound h w) (waiting w)

-- none of the routers is behind or has something to handle
unfoldable pub are_quiet : List Part → Bool
are_quiet [] = true
are_quiet (p ∷ ps) = is_empty p.todo && not (is_behind p) && are_quiet ps

-- nothing comes from outside, nothing flies, and no router has anything to do
unfoldable pub is_quiet : World → Bool
is_quiet w = w.closed && is_empty w.flight && are_quiet w.parts
