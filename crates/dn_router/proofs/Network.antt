-- A router in a network.
use Rattle.std.proofs.Common.{◌≡◌, ℕ, List, [], ◌∷◌, ◌++◌, refl, sym, ap}
use Rattle.std.specs.List.{AllByRecursion}
use Rattle.dn_guest.specs.declared.node.Node.{Node}
use Rattle.dn_guest.specs.Node.{node_after, node_sent}
use Rattle.dn_model.specs.declared.event.Event.{Event}
use Rattle.dn_model.specs.Cases.{timing_of}
use Rattle.dn_model.specs.Links.{ends}
use Rattle.dn_model.specs.Network.{Network, emitted, emitted_by, opening_node, state, state_from, sent_from}
use Rattle.dn_world.specs.Steps.{emits}
use Rattle.dn_router.specs.Replays.{node_over, emitted_at, emitted_over}

module _ {S : Type 0} (net : Network S) where
  pub node_from_is : (node : Node S) (history : List Event) → node_over net.guests node history ≡ state_from net node history
  unfolding node_over state_from
  node_from_is node [] = refl
  node_from_is node (e ∷ es) = node_from_is (node_after net.guests node e.input) es

  pub node_is : (r : ℕ) (history : List Event) → node_over net.guests (opening_node net r) history ≡ state net r history
  unfolding state
  node_is r history = node_from_is (opening_node net r) history

  emitted_is : (r : ℕ) (node : Node S) (e : Event) → e.router ≡ r → emitted_at net.guests (timing_of net.header) (ends net.header.links r) node e ≡ emitted net.header e (node_sent net.guests node e.input)
  unfolding emitted
  emitted_is r node e h = ap (λ n. emitted_by (timing_of net.header) (ends net.header.links n) e (node_sent net.guests node e.input)) (sym h)

  pub emits_is : (r : ℕ) (history : List Event) (e : Event) → e.router ≡ r → emitted_at net.guests (timing_of net.header) (ends net.header.links r) (state net r history) e ≡ emits net r history e
  unfolding emits
  emits_is r history e h = emitted_is r (state net r history) e h

  pub sent_is : (r : ℕ) (node : Node S) (history : List Event) → AllByRecursion (λ e. e.router ≡ r) history → emitted_over net.guests (timing_of net.header) (ends net.header.links r) node history ≡ sent_from net node history
  unfolding emitted_over sent_from
  sent_is r node [] a = refl
  sent_is r node (e ∷ es) a =
      λ i. emitted_is r node e a.0 i ++ sent_is r (node_after net.guests node e.input) es a.1 i
