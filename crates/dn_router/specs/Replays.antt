-- A node after a history, and what the history emits, from the far ends of the router's ports.
use Rattle.std.specs.Prelude.{ℕ, suc, List, [], ◌∷◌, ◌++◌}
use Rattle.dn_guest.specs.declared.node.Node.{Node}
use Rattle.dn_guest.specs.declared.node.Sent.{Sent}
use Rattle.dn_guest.specs.Meaning.{Meaning}
use Rattle.dn_guest.specs.Node.{node_after, node_sent}
use Rattle.dn_model.specs.declared.event.Event.{Event}
use Rattle.dn_model.specs.declared.link.End.{End}
use Rattle.dn_model.specs.declared.timing.Timing.{Timing}
use Rattle.dn_model.specs.Network.{emitted_by}

module _ {S : Type 0} (guests : Meaning S) where
  -- the node after the events, beginning at this node
  unfoldable pub node_over : Node S → List Event → Node S
  node_over node [] = node
  node_over node (e ∷ es) = node_over (node_after guests node e.input) es

  -- what the step of one event emits
  abbrev pub emitted_at : Timing → List End → Node S → Event → List Event
  emitted_at t ends node e = emitted_by t ends e (node_sent guests node e.input)

  -- what the steps of the events emit, in order
  unfoldable pub emitted_over : Timing → List End → Node S → List Event → List Event
  emitted_over t ends node [] = []
  emitted_over t ends node (e ∷ es) = emitted_at t ends node e ++ emitted_over t ends (node_after guests node e.input) es

  -- the numbered outputs of the last of the events; those given where there is none
  unfoldable pub last_sent : Node S → List Sent → List Event → List Sent
  last_sent node sent [] = sent
  last_sent node sent (e ∷ es) = last_sent (node_after guests node e.input) (node_sent guests node e.input) es

  -- the nodes after 0, 1, .. of the events, at the places from this one on
  unfoldable pub nodes_over : ℕ → Node S → List Event → List (ℕ × Node S)
  nodes_over place node [] = (place, node) ∷ []
  nodes_over place node (e ∷ es) = (place, node) ∷ nodes_over (suc place) (node_after guests node e.input) es
