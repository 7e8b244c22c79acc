-- One step of a run.
use Rattle.std.specs.Prelude.{◌≡◌, ◌↔◌, ℕ, ◌<◌, ◌≤◌, Bool, false, Option, Some, None, List, ◌∷◌, ◌++◌, length, slice_get, slice_set}
use Rattle.std.specs.List.{AllByRecursion}
use Rattle.std.specs.List.Sorted.{IsPermutation}
use Rattle.dn_guest.specs.declared.node.Node.{Node}
use Rattle.dn_guest.specs.Meaning.{Meaning}
use Rattle.dn_guest.specs.Node.{node_after, node_sent}
use Rattle.dn_model.specs.declared.event.Event.{Event}
use Rattle.dn_model.specs.declared.link.End.{End}
use Rattle.dn_model.specs.Cases.{Heading, IsHeading}
use Rattle.dn_model.specs.Network.{emitted}
use Rattle.dn_model.specs.Settled.{row_limit}
use Rattle.dn_lockstep.specs.Least.{IsUpTo}
use Rattle.dn_lockstep.specs.Agendas.{Plan, waiting_in, IsFronted}
use Rattle.dn_lockstep.specs.Wirings.{all_ends}

-- each event is at one of so many routers
abbrev pub AreInside : ℕ → List Event → Type 0
AreInside count events = AllByRecursion (λ e. e.router < count) events

-- e was the least of what waited, its router's node took it, and what that step emits waits too
pub record IsHandled {S : Type 0} (guests : Meaning S) (header : Heading) (nodes : List (Node S)) (waiting : List Event) (e : Event) (nodes_after : List (Node S)) (waiting_after : List Event) : Type 0 where
  pub rest : List Event
  pub node : Node S
  pub among : IsPermutation waiting (e ∷ rest)
  pub first : IsUpTo e rest
  pub had : slice_get nodes e.router ≡ Some node
  pub took : nodes_after ≡ slice_set nodes e.router (node_after guests node e.input)
  pub added : IsPermutation (rest ++ emitted header e (node_sent guests node e.input)) waiting_after

-- what holds of an engine's parts in every state
pub record IsSound {S : Type 0} (header : Heading) (wiring : List (List End)) (nodes : List (Node S)) (plan : Plan) (place : ℕ) (last : Option Event) (spent : Bool) : Type 0 where
  pub rules : IsHeading header
  pub wired : wiring ≡ all_ends header.links (length header.routers)
  pub one_each : length nodes ≡ length header.routers
  pub within : place ≤ row_limit
  -- there is no last row exactly where none was handled
  pub last_at : (last ≡ None) ↔ (place ≡ 0)
  pub inside : spent ≡ false → AreInside (length header.routers) (waiting_in plan)
  pub fronted : spent ≡ false → IsFronted plan
