-- A router as plain data, and what its calls make of it.
use Rattle.std.specs.Prelude.{◌≡◌, ℕ, true, List, [], ◌∷◌, ◌++◌, length, take, drop}
use Rattle.dn_guest.specs.declared.node.Node.{Node}
use Rattle.dn_guest.specs.Meaning.{Meaning}
use Rattle.dn_model.specs.declared.event.Event.{Event}
use Rattle.dn_model.specs.declared.key.Key.{Key}
use Rattle.dn_model.specs.declared.link.End.{End}
use Rattle.dn_model.specs.declared.timing.Timing.{Timing}
use Rattle.dn_world.specs.World.{Part, is_ready, with_todo}
use Rattle.dn_world.specs.Steps.{until, since, is_wrong}
use Rattle.dn_router.specs.Replays.{node_over, emitted_at, emitted_over}
use Rattle.dn_router.specs.Orders.{Task}

-- a router: its number, the far ends of its ports, what keys of messages hang on, its node before the first event, its part of the world, how many entries of done were committed, and the key of the last commit
pub record Speculation (S : Type 0) : Type 0 where
  pub number : ℕ
  pub ends : List End
  pub timing : Timing
  pub opening : Node S
  pub part : Part
  pub committed : ℕ
  pub bound : Key

-- ---- handling

-- the part after the first event of todo was handled
abbrev pub handled_first : Part → List Event → Part
handled_first p [] = p
handled_first p (e ∷ es) = record p { done = p.done ++ e ∷ []; todo = es }

abbrev pub handled : Part → Part
handled p = handled_first p p.todo

-- ---- taking back

-- the entries that stay, and those that are taken off
abbrev pub staying : Part → List Event
staying p = until (is_wrong p) p.done

abbrev pub taken_back : Part → List Event
taken_back p = since (is_wrong p) p.done

-- the part after the entries from the first wrong one on were taken off, and are to be handled again
abbrev pub rolled_back : Part → Part
rolled_back p = with_todo (taken_back p) (record p { done = staying p })

module _ {S : Type 0} (guests : Meaning S) where
  -- the router's node
  abbrev pub node_of : Speculation S → Node S
  node_of s = node_over guests s.opening s.part.done

  -- what handling the first of these events emits
  abbrev pub emits_first : Speculation S → List Event → List Event
  emits_first s [] = []
  emits_first s (e ∷ es) = emitted_at guests s.timing s.ends (node_of s) e

  abbrev pub emits_next : Speculation S → List Event
  emits_next s = emits_first s s.part.todo

  -- what the entries that are taken off had emitted
  abbrev pub unsent : Speculation S → List Event
  unsent s = emitted_over guests s.timing s.ends (node_over guests s.opening (staying s.part)) (taken_back s.part)

  -- ---- orders

  -- the place of the base: all of done led to it
  abbrev pub base_of : Speculation S → ℕ
  base_of s = length s.part.done

  -- the order that the router gives: the base, and the events of done from its place on and then the least of todo
  abbrev pub order_of : Speculation S → Task S
  order_of s =
      record {
        router = s.number;
        place = base_of s;
        base = node_over guests s.opening (take (base_of s) s.part.done);
        inputs = drop (base_of s) s.part.done ++ take 1 s.part.todo;
      }

  -- the router is ready, and this is the order that it would give now
  abbrev pub IsCurrent : Speculation S → Task S → Type 0
  IsCurrent s task = (is_ready s.part ≡ true) × (task ≡ order_of s)
