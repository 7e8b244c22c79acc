-- The definitions compute: the mixing of the tie, and lockstep runs of flooding routers. Each fact is by `refl`, so what is written here is what the definitions say.
use Rattle.std.proofs.Common.{arith, ◌≡◌, ℕ, ◌+◌, List, [], ◌∷◌, refl}
use Rattle.dn_guest.specs.declared.input.Input.{Input}
use Rattle.dn_guest.specs.declared.input.Input.TheVariants.{Tick, Cmd, Down, Msg}
use Rattle.dn_guest.specs.declared.node.Node.{Node}
use Rattle.dn_guest.specs.Flood.{Bodies, flood}
use Rattle.dn_guest.specs.Node.{node_after, node_sent}
use Rattle.dn_model.specs.declared.event.Event.{Event}
use Rattle.dn_model.specs.declared.feed.External.{External}
use Rattle.dn_model.specs.declared.link.Link.{Link}
use Rattle.dn_model.specs.declared.router.Kind.TheVariants.{Flood}
use Rattle.dn_model.specs.declared.router.RouterDef.{RouterDef}
use Rattle.dn_model.specs.Keys.{fin_step, fin, rounds, tie, message_key, next_key}
use Rattle.dn_model.specs.Links.{ports_of, link_end, ends}
use Rattle.dn_model.specs.Order.{key_cmp, event_cmp, sorted}
use Rattle.dn_model.specs.Network.{Network, message_with, message_at, emitted_by, emitted, ticks, externals, is_at, injected, joined, opening_node, state_from, sent_from, state, sent, routers, sent_to}
use Rattle.dn_model.specs.Settled.{due, is_of_moment, wave, lockstep, rows, IsTimed, IsFeedOf, IsSettled}
use Rattle.dn_model.proofs.Waves.{lockstep_settled}

-- ---- ties

-- one round over the number 0, beginning with 0: the first output of SplitMix64 from the seed 0
round_of_zero : rounds 0 (0 ∷ []) ≡ 0xe220a8397b1dcdaf
unfolding rounds fin fin_step
round_of_zero = refl

-- with the seed 0 every tie is 0
tie_of_no_seed : tie 0 1 2 3 4 ≡ 0
unfolding tie
tie_of_no_seed = refl

-- ---- networks, feeds and rows by their numbers

-- flooding routers, each with a name of one character
abbrev pub routers_named : List ℕ → List RouterDef
routers_named [] = []
routers_named (x ∷ xs) = record { name = x ∷ []; kind = Flood; prefixes = [] } ∷ routers_named xs

abbrev pub flooding : ℕ → ℕ → ℕ → List ℕ → List Link → Network Bodies
flooding period groups seed names links = record {
  header = record { period = period; groups = groups; seed = seed; routers = routers_named names; links = links };
  guests = flood;
  opening = λ r. [];
}

abbrev pub link : ℕ → ℕ → ℕ → ℕ → ℕ → Link
link a a_port b b_port delay = record { a = a; a_port = a_port; b = b; b_port = b_port; delay = delay; cost = 1 }

abbrev from_outside : ℕ → ℕ → Input → External
from_outside group router input = record { group = group; router = router; input = input }

abbrev tick : ℕ → ℕ → Event
tick group r = record { key = record { group = group; sum = 0; class = 0; tie = 0; origin = r; seq = 0 }; router = r; input = Tick group }

abbrev ext : ℕ → ℕ → ℕ → Input → Event
ext group r place input = record { key = record { group = group; sum = 0; class = 1; tie = 0; origin = r; seq = place }; router = r; input = input }

abbrev msg : ℕ → ℕ → ℕ → ℕ → ℕ → ℕ → ℕ → List ℕ → Event
msg group sum tie origin seq r port body =
    record { key = record { group = group; sum = sum; class = 2; tie = tie; origin = origin; seq = seq }; router = r; input = Msg port body }

abbrev node : ℕ → ℕ → Bodies → Node Bodies
node sends ports bodies = record { guest = bodies; ports = ports; sends = sends }

-- the states after the lockstep run of the first routers are these
abbrev Ends : Network Bodies → List External → ℕ → List (Node Bodies) → Type 0
Ends net feed r [] = Unit {0}
Ends net feed r (n ∷ ns) = (state net r (lockstep net feed r) ≡ n) × Ends net feed (r + 1) ns

abbrev a_to_b : List Link
a_to_b = link 0 0 1 0 10 ∷ []

-- ---- two flooding routers, a command at the one, and later its link goes down

abbrev net_command_and_down : Network Bodies
net_command_and_down = flooding 100 4 0 (97 ∷ 98 ∷ []) a_to_b

abbrev feed_command_and_down : List External
feed_command_and_down = from_outside 0 0 (Cmd (65 ∷ [])) ∷ from_outside 2 0 (Down 0) ∷ []

rows_command_and_down : rows net_command_and_down feed_command_and_down ≡
    tick 0 0
    ∷ tick 0 1
    ∷ ext 0 0 0 (Cmd (65 ∷ []))
    ∷ msg 0 10 0 0 0 1 0 (65 ∷ [])
    ∷ tick 1 0
    ∷ tick 1 1
    ∷ tick 2 0
    ∷ tick 2 1
    ∷ ext 2 0 1 (Down 0)
    ∷ tick 3 0
    ∷ tick 3 1
    ∷ []
unfolding fin_step fin rounds tie message_key next_key key_cmp event_cmp sorted node_after node_sent ports_of link_end ends message_with message_at emitted_by emitted ticks externals is_at injected joined opening_node state_from sent_from state sent routers sent_to due is_of_moment wave lockstep rows
rows_command_and_down = refl

states_command_and_down : Ends net_command_and_down feed_command_and_down 0 (node 1 0 ((65 ∷ []) ∷ []) ∷ node 0 1 ((65 ∷ []) ∷ []) ∷ [])
unfolding fin_step fin rounds tie message_key next_key key_cmp event_cmp sorted node_after node_sent ports_of link_end ends message_with message_at emitted_by emitted ticks externals is_at injected joined opening_node state_from sent_from state sent routers sent_to due is_of_moment wave lockstep rows
states_command_and_down = (refl, (refl, tt))

-- ---- the smallest case: one router, one moment, nothing from outside

abbrev net_smallest : Network Bodies
net_smallest = flooding 1 1 0 (97 ∷ []) []

abbrev feed_smallest : List External
feed_smallest = []

rows_smallest : rows net_smallest feed_smallest ≡
    tick 0 0
    ∷ []
unfolding fin_step fin rounds tie message_key next_key key_cmp event_cmp sorted node_after node_sent ports_of link_end ends message_with message_at emitted_by emitted ticks externals is_at injected joined opening_node state_from sent_from state sent routers sent_to due is_of_moment wave lockstep rows
rows_smallest = refl

states_smallest : Ends net_smallest feed_smallest 0 (node 0 0 [] ∷ [])
unfolding fin_step fin rounds tie message_key next_key key_cmp event_cmp sorted node_after node_sent ports_of link_end ends message_with message_at emitted_by emitted ticks externals is_at injected joined opening_node state_from sent_from state sent routers sent_to due is_of_moment wave lockstep rows
states_smallest = (refl, tt)

-- ---- a message whose delay is longer than the period comes in a later group

abbrev net_delayed : Network Bodies
net_delayed = flooding 10 4 0 (97 ∷ 98 ∷ []) (link 0 0 1 0 25 ∷ [])

abbrev feed_delayed : List External
feed_delayed = from_outside 0 0 (Cmd (65 ∷ [])) ∷ []

rows_delayed : rows net_delayed feed_delayed ≡
    tick 0 0
    ∷ tick 0 1
    ∷ ext 0 0 0 (Cmd (65 ∷ []))
    ∷ tick 1 0
    ∷ tick 1 1
    ∷ tick 2 0
    ∷ tick 2 1
    ∷ msg 2 5 0 0 0 1 0 (65 ∷ [])
    ∷ tick 3 0
    ∷ tick 3 1
    ∷ []
unfolding fin_step fin rounds tie message_key next_key key_cmp event_cmp sorted node_after node_sent ports_of link_end ends message_with message_at emitted_by emitted ticks externals is_at injected joined opening_node state_from sent_from state sent routers sent_to due is_of_moment wave lockstep rows
rows_delayed = refl

states_delayed : Ends net_delayed feed_delayed 0 (node 1 1 ((65 ∷ []) ∷ []) ∷ node 0 1 ((65 ∷ []) ∷ []) ∷ [])
unfolding fin_step fin rounds tie message_key next_key key_cmp event_cmp sorted node_after node_sent ports_of link_end ends message_with message_at emitted_by emitted ticks externals is_at injected joined opening_node state_from sent_from state sent routers sent_to due is_of_moment wave lockstep rows
states_delayed = (refl, (refl, tt))

-- ---- the same with two groups: the message would come past the last one and isn't there, and yet its number is taken

abbrev net_past_the_end : Network Bodies
net_past_the_end = flooding 10 2 0 (97 ∷ 98 ∷ []) (link 0 0 1 0 25 ∷ [])

abbrev feed_past_the_end : List External
feed_past_the_end = from_outside 0 0 (Cmd (65 ∷ [])) ∷ []

rows_past_the_end : rows net_past_the_end feed_past_the_end ≡
    tick 0 0
    ∷ tick 0 1
    ∷ ext 0 0 0 (Cmd (65 ∷ []))
    ∷ tick 1 0
    ∷ tick 1 1
    ∷ []
unfolding fin_step fin rounds tie message_key next_key key_cmp event_cmp sorted node_after node_sent ports_of link_end ends message_with message_at emitted_by emitted ticks externals is_at injected joined opening_node state_from sent_from state sent routers sent_to due is_of_moment wave lockstep rows
rows_past_the_end = refl

states_past_the_end : Ends net_past_the_end feed_past_the_end 0 (node 1 1 ((65 ∷ []) ∷ []) ∷ node 0 1 [] ∷ [])
unfolding fin_step fin rounds tie message_key next_key key_cmp event_cmp sorted node_after node_sent ports_of link_end ends message_with message_at emitted_by emitted ticks externals is_at injected joined opening_node state_from sent_from state sent routers sent_to due is_of_moment wave lockstep rows
states_past_the_end = (refl, (refl, tt))

-- ---- messages of two senders come to one router at one moment: with the seed 0 the lower sender is first

abbrev net_contest : Network Bodies
net_contest = flooding 100 1 0 (97 ∷ 98 ∷ 99 ∷ []) (link 0 0 2 0 10 ∷ link 1 0 2 1 10 ∷ [])

abbrev feed_contest : List External
feed_contest = from_outside 0 0 (Cmd (65 ∷ [])) ∷ from_outside 0 1 (Cmd (66 ∷ [])) ∷ []

rows_contest : rows net_contest feed_contest ≡
    tick 0 0
    ∷ tick 0 1
    ∷ tick 0 2
    ∷ ext 0 0 0 (Cmd (65 ∷ []))
    ∷ ext 0 1 1 (Cmd (66 ∷ []))
    ∷ msg 0 10 0 0 0 2 0 (65 ∷ [])
    ∷ msg 0 10 0 1 0 2 1 (66 ∷ [])
    ∷ msg 0 20 0 2 0 1 0 (65 ∷ [])
    ∷ msg 0 20 0 2 1 0 0 (66 ∷ [])
    ∷ []
unfolding fin_step fin rounds tie message_key next_key key_cmp event_cmp sorted node_after node_sent ports_of link_end ends message_with message_at emitted_by emitted ticks externals is_at injected joined opening_node state_from sent_from state sent routers sent_to due is_of_moment wave lockstep rows
rows_contest = refl

states_contest : Ends net_contest feed_contest 0 (node 1 1 ((65 ∷ []) ∷ (66 ∷ []) ∷ []) ∷ node 1 1 ((65 ∷ []) ∷ (66 ∷ []) ∷ []) ∷ node 2 3 ((65 ∷ []) ∷ (66 ∷ []) ∷ []) ∷ [])
unfolding fin_step fin rounds tie message_key next_key key_cmp event_cmp sorted node_after node_sent ports_of link_end ends message_with message_at emitted_by emitted ticks externals is_at injected joined opening_node state_from sent_from state sent routers sent_to due is_of_moment wave lockstep rows
states_contest = (refl, (refl, (refl, tt)))

-- ---- the same with the seed 7: the messages of one moment stand in the order of their ties

abbrev net_contest_by_seed : Network Bodies
net_contest_by_seed = flooding 100 1 7 (97 ∷ 98 ∷ 99 ∷ []) (link 0 0 2 0 10 ∷ link 1 0 2 1 10 ∷ [])

abbrev feed_contest_by_seed : List External
feed_contest_by_seed = from_outside 0 0 (Cmd (65 ∷ [])) ∷ from_outside 0 1 (Cmd (66 ∷ [])) ∷ []

rows_contest_by_seed : rows net_contest_by_seed feed_contest_by_seed ≡
    tick 0 0
    ∷ tick 0 1
    ∷ tick 0 2
    ∷ ext 0 0 0 (Cmd (65 ∷ []))
    ∷ ext 0 1 1 (Cmd (66 ∷ []))
    ∷ msg 0 10 2344117217807268582 0 0 2 0 (65 ∷ [])
    ∷ msg 0 10 8855184465071374143 1 0 2 1 (66 ∷ [])
    ∷ msg 0 20 5577685671520213792 2 0 1 0 (65 ∷ [])
    ∷ msg 0 20 12601463248219401622 2 1 0 0 (66 ∷ [])
    ∷ []
unfolding fin_step fin rounds tie message_key next_key key_cmp event_cmp sorted node_after node_sent ports_of link_end ends message_with message_at emitted_by emitted ticks externals is_at injected joined opening_node state_from sent_from state sent routers sent_to due is_of_moment wave lockstep rows
rows_contest_by_seed = refl

states_contest_by_seed : Ends net_contest_by_seed feed_contest_by_seed 0 (node 1 1 ((65 ∷ []) ∷ (66 ∷ []) ∷ []) ∷ node 1 1 ((65 ∷ []) ∷ (66 ∷ []) ∷ []) ∷ node 2 3 ((65 ∷ []) ∷ (66 ∷ []) ∷ []) ∷ [])
unfolding fin_step fin rounds tie message_key next_key key_cmp event_cmp sorted node_after node_sent ports_of link_end ends message_with message_at emitted_by emitted ticks externals is_at injected joined opening_node state_from sent_from state sent routers sent_to due is_of_moment wave lockstep rows
states_contest_by_seed = (refl, (refl, (refl, tt)))

-- ---- the port of b is down: the message to b is a row and does nothing, and b's command is kept, but goes nowhere and takes no number

abbrev net_port_is_down : Network Bodies
net_port_is_down = flooding 100 4 0 (97 ∷ 98 ∷ []) a_to_b

abbrev feed_port_is_down : List External
feed_port_is_down = from_outside 0 0 (Cmd (65 ∷ [])) ∷ from_outside 0 1 (Down 0) ∷ from_outside 0 1 (Cmd (66 ∷ [])) ∷ []

rows_port_is_down : rows net_port_is_down feed_port_is_down ≡
    tick 0 0
    ∷ tick 0 1
    ∷ ext 0 0 0 (Cmd (65 ∷ []))
    ∷ ext 0 1 1 (Down 0)
    ∷ ext 0 1 2 (Cmd (66 ∷ []))
    ∷ msg 0 10 0 0 0 1 0 (65 ∷ [])
    ∷ tick 1 0
    ∷ tick 1 1
    ∷ tick 2 0
    ∷ tick 2 1
    ∷ tick 3 0
    ∷ tick 3 1
    ∷ []
unfolding fin_step fin rounds tie message_key next_key key_cmp event_cmp sorted node_after node_sent ports_of link_end ends message_with message_at emitted_by emitted ticks externals is_at injected joined opening_node state_from sent_from state sent routers sent_to due is_of_moment wave lockstep rows
rows_port_is_down = refl

states_port_is_down : Ends net_port_is_down feed_port_is_down 0 (node 1 1 ((65 ∷ []) ∷ []) ∷ node 0 0 ((66 ∷ []) ∷ []) ∷ [])
unfolding fin_step fin rounds tie message_key next_key key_cmp event_cmp sorted node_after node_sent ports_of link_end ends message_with message_at emitted_by emitted ticks externals is_at injected joined opening_node state_from sent_from state sent routers sent_to due is_of_moment wave lockstep rows
states_port_is_down = (refl, (refl, tt))

-- the premises of the law hold of the first run
settled_command_and_down : IsSettled net_command_and_down feed_command_and_down (lockstep net_command_and_down feed_command_and_down)
settled_command_and_down =
    let timed : IsTimed net_command_and_down.header = record { period = omega arith; delays = (omega arith, tt) } in
    let fed : IsFeedOf net_command_and_down.header feed_command_and_down = (omega arith, (omega arith, tt)) in
    lockstep_settled net_command_and_down feed_command_and_down timed fed
