-- The steps of a world.
use Rattle.std.specs.Prelude.{ℕ, suc, Bool, true, false, not, ◌&&◌, ◌||◌, nat_lt, nat_le, ◌==◌, if◌then◌else◌, Option, Some, None, List, [], ◌∷◌, ◌++◌, length, slice_get, set}
use Rattle.std.specs.List.{remove}
use Rattle.std.specs.Ordering.{is_gt}
use Rattle.dn_guest.specs.declared.input.Input.{Input}
use Rattle.dn_guest.specs.declared.input.Input.TheVariants.{Tick, Cmd, Down, Up, Msg}
use Rattle.dn_guest.specs.Node.{node_sent}
use Rattle.dn_model.specs.declared.event.Event.{Event}
use Rattle.dn_model.specs.declared.feed.External.{External}
use Rattle.dn_model.specs.Cases.{Heading}
use Rattle.dn_model.specs.Order.{event_cmp}
use Rattle.dn_model.specs.Links.{ports_of}
use Rattle.dn_model.specs.Network.{Network, emitted, external, routers, sent_from, state}
use Rattle.dn_world.specs.declared.packet.Packet.{Packet}
use Rattle.dn_world.specs.declared.step.Step.{Step}
use Rattle.dn_world.specs.declared.step.Step.TheVariants.{Beacon, Inject, Close, Deliver, Handle, RollBack, Commit}
use Rattle.dn_world.specs.World.{Part, World, part, stands, with_todo, with_void, is_behind, is_ready, ticked, horizon}

-- ---- what may come next

-- an input that may be injected at the router
unfoldable pub is_injectable : Heading → ℕ → Input → Bool
is_injectable h r (Tick group) = false
is_injectable h r (Cmd body) = nat_le 1 (length body) && nat_le (length body) 255
is_injectable h r (Down p) = nat_lt p (ports_of h.links r)
is_injectable h r (Up p) = nat_lt p (ports_of h.links r)
is_injectable h r (Msg p body) = false

module _ {S : Type 0} (net : Network S) where
  -- whether the step may come next
  unfoldable pub is_enabled : World → Step → Bool
  is_enabled w Beacon = not w.closed && nat_lt (suc w.floor) net.header.groups
  is_enabled w (Inject x) =
      not w.closed && (x.group == w.floor) && nat_lt x.router (routers net) && is_injectable net.header x.router x.input
  is_enabled w Close = not w.closed && (suc w.floor == net.header.groups)
  is_enabled w (Deliver place) = nat_lt place (length w.flight)
  is_enabled w (Handle r) = nat_lt r (routers net) && is_ready (part w r)
  is_enabled w (RollBack r) = nat_lt r (routers net) && is_behind (part w r)
  is_enabled w Commit = true

-- ---- what it does

-- the world with this part at the router
abbrev pub with_part : World → ℕ → Part → World
with_part w r p = record w { parts = set w.parts r p }

-- the next group begins: its tick comes to each router
unfoldable pub beacon : World → World
beacon w = record w { parts = ticked (suc w.floor) 0 w.parts; floor = suc w.floor }

-- the external is accepted, and comes to its router numbered by its place in the feed
unfoldable pub inject : World → External → World
inject w x =
    record w {
      parts = set w.parts x.router (with_todo (external (length w.accepted) x ∷ []) (part w x.router));
      accepted = w.accepted ++ x ∷ [];
    }

-- a message comes into todo, an unsend into voids
unfoldable pub arrived : Packet → Part → Part
arrived k p = if k.plus then with_todo (k.event ∷ []) p else with_void k.event p

-- the packet at the place leaves the flight and arrives at its router
unfoldable pub deliver : World → ℕ → Option Packet → World
deliver w place None = w
deliver w place (Some k) =
    record w {
      parts = set w.parts k.event.router (arrived k (part w k.event.router));
      flight = remove w.flight place;
    }

-- the events as packets
unfoldable pub signed : Bool → List Event → List Packet
signed plus [] = []
signed plus (e ∷ es) = record { plus = plus; event = e } ∷ signed plus es

-- the list before the first event that passes
unfoldable pub until : (Event → Bool) → List Event → List Event
until q [] = []
until q (e ∷ es) = if q e then [] else e ∷ until q es

-- the list from the first event that passes on
unfoldable pub since : (Event → Bool) → List Event → List Event
since q [] = []
since q (e ∷ es) = if q e then e ∷ es else since q es

-- the event is greater than the first of the list
unfoldable pub is_after_first : List Event → Event → Bool
is_after_first [] e = false
is_after_first (x ∷ xs) e = is_gt (event_cmp e x)

-- an entry that can't stay: it stands in voids, or is greater than the least of todo
unfoldable pub is_wrong : Part → Event → Bool
is_wrong p e = stands e p.voids || is_after_first p.todo e

module _ {S : Type 0} (net : Network S) where
  -- what the router emits where it handles e after the events of done
  unfoldable pub emits : ℕ → List Event → Event → List Event
  emits r done e = emitted net.header e (node_sent net.guests (state net r done) e.input)

  -- the router handles the first of its todo list: it goes to the end of done, and what it emits flies
  unfoldable pub handle : World → ℕ → Part → List Event → World
  handle w r p [] = w
  handle w r p (e ∷ es) =
      record w {
        parts = set w.parts r (record p { done = p.done ++ e ∷ []; todo = es });
        flight = w.flight ++ signed true (emits r p.done e);
      }

  -- the entries that stay, and those that are taken off
  abbrev pub kept : Part → List Event
  kept p = until (is_wrong p) p.done

  abbrev pub taken_off : Part → List Event
  taken_off p = since (is_wrong p) p.done

  -- the entries from the first wrong one on are taken off and are to be handled again, and what they emitted flies as unsends
  unfoldable pub roll_back : World → ℕ → Part → World
  roll_back w r p =
      record w {
        parts = set w.parts r (with_todo (taken_off p) (record p { done = kept p }));
        flight = w.flight ++ signed false (sent_from net (state net r (kept p)) (taken_off p));
      }

  -- the world after the step
  unfoldable pub after : World → Step → World
  after w Beacon = beacon w
  after w (Inject x) = inject w x
  after w Close = record w { closed = true }
  after w (Deliver place) = deliver w place (slice_get w.flight place)
  after w (Handle r) = handle w r (part w r) (part w r).todo
  after w (RollBack r) = roll_back w r (part w r)
  after w Commit = record w { boundary = horizon net.header w }
