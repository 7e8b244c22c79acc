-- A network: what its events emit, what is injected, and the replay of a history.
use Rattle.std.specs.Prelude.{ℕ, zero, suc, ◌-◌, ◌^◌, Bool, ◌==◌, Option, Some, None, List, [], ◌∷◌, ◌++◌, length, slice_get}
use Rattle.std.specs.List.{filter, filter_map}
use Rattle.dn_guest.specs.declared.input.Input.TheVariants.{Tick, Msg}
use Rattle.dn_guest.specs.declared.node.Sent.{Sent}
use Rattle.dn_guest.specs.declared.node.Node.{Node}
use Rattle.dn_model.specs.declared.key.Key.{Key}
use Rattle.dn_model.specs.declared.event.Event.{Event}
use Rattle.dn_model.specs.declared.feed.External.{External}
use Rattle.dn_model.specs.declared.link.End.{End}
use Rattle.dn_model.specs.declared.timing.Timing.{Timing}
use Rattle.dn_model.specs.Links.{ports_of, ends}
use Rattle.dn_model.specs.Cases.{Heading, timing_of}
use Rattle.dn_model.specs.Keys.{next_key}
use Rattle.dn_guest.specs.Meaning.{Meaning}
use Rattle.dn_guest.specs.Node.{node_after, node_sent}

-- the message with this key
unfoldable pub message_with : Sent → End → Option Key → Option Event
message_with sent end None = None
message_with sent end (Some k) = Some (record { key = k; router = end.router; input = Msg end.port sent.body })

-- the message that a numbered output of the cause becomes, with the far end of its port: none where no link is at the port, or where its moment is past the last group
unfoldable pub message_at : Timing → Event → Sent → Option End → Option Event
message_at t cause sent None = None
message_at t cause sent (Some end) = message_with sent end (next_key t cause.key end.delay cause.router sent.seq)

-- the events that the numbered outputs of the cause become, in order, with the far ends of its router's ports
unfoldable pub emitted_by : Timing → List End → Event → List Sent → List Event
emitted_by t ends cause sents = filter_map (λ s. message_at t cause s (slice_get ends s.port)) sents

-- the same in a network
unfoldable pub emitted : Heading → Event → List Sent → List Event
emitted h cause sents = emitted_by (timing_of h) (ends h.links cause.router) cause sents

-- the tick of a group at a router
abbrev pub tick : ℕ → ℕ → Event
tick group r = record { key = record { group = group; sum = 0; class = 0; tie = 0; origin = r; seq = 0 }; router = r; input = Tick group }

-- those of the groups below n
unfoldable pub ticks : ℕ → ℕ → List Event
ticks zero r = []
ticks (suc n) r = ticks n r ++ tick n r ∷ []

abbrev pub external : ℕ → External → Event
external place x = record { key = record { group = x.group; sum = 0; class = 1; tie = 0; origin = x.router; seq = place }; router = x.router; input = x.input }

-- the events of a feed whose first external has this place
unfoldable pub externals : ℕ → List External → List Event
externals place [] = []
externals place (x ∷ xs) = external place x ∷ externals (suc place) xs

unfoldable pub is_at : ℕ → Event → Bool
is_at r e = e.router == r

-- what is injected at r, with the ticks of the groups below n
unfoldable pub injected : ℕ → List External → ℕ → List Event
injected n feed r = ticks n r ++ filter (is_at r) (externals 0 feed)

-- a header, the meaning of its guests, and the guests' opening states by router
pub record Network (S : Type 0) : Type 0 where
  pub header : Heading
  pub guests : Meaning S
  pub opening : ℕ → S

-- one history for each router
abbrev pub Family : Type 0
Family = ℕ → List Event

-- the histories of the first n routers, one after another
unfoldable pub joined : ℕ → Family → List Event
joined zero f = []
joined (suc n) f = joined n f ++ f n

module _ {S : Type 0} (net : Network S) where
  unfoldable pub opening_node : ℕ → Node S
  opening_node r = record { guest = net.opening r; ports = 2 ^ ports_of net.header.links r - 1; sends = 0 }

  -- the node after a history that begins at this node
  unfoldable pub state_from : Node S → List Event → Node S
  state_from node [] = node
  state_from node (e ∷ es) = state_from (node_after net.guests node e.input) es

  -- what its steps emit
  unfoldable pub sent_from : Node S → List Event → List Event
  sent_from node [] = []
  sent_from node (e ∷ es) = emitted net.header e (node_sent net.guests node e.input) ++ sent_from (node_after net.guests node e.input) es

  unfoldable pub state : ℕ → List Event → Node S
  state r history = state_from (opening_node r) history

  unfoldable pub sent : ℕ → List Event → List Event
  sent r history = sent_from (opening_node r) history

  unfoldable pub routers : ℕ
  routers = length net.header.routers

  -- what the replays of a family send to r
  unfoldable pub sent_to : Family → ℕ → List Event
  sent_to f r = joined routers (λ s. filter (is_at r) (sent s (f s)))
