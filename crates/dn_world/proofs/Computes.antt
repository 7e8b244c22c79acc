-- The definitions compute: runs of flooding routers with rollbacks and unsends, told step by step. Each fact is by `refl`, so what is written here is what the definitions say.
use Rattle.std.proofs.Common.{◌≡◌, ℕ, true, false, List, [], ◌∷◌, refl}
use Rattle.dn_guest.specs.declared.input.Input.TheVariants.{Tick, Cmd, Msg}
use Rattle.dn_guest.specs.Flood.{Bodies}
use Rattle.dn_guest.specs.Node.{node_after, node_sent}
use Rattle.dn_model.specs.declared.event.Event.{Event}
use Rattle.dn_model.specs.Keys.{fin_step, fin, rounds, tie, message_key, next_key}
use Rattle.dn_model.specs.Links.{ports_of, link_end, ends}
use Rattle.dn_model.specs.Order.{key_cmp, event_cmp, sorted, is_below}
use Rattle.dn_model.specs.Network.{Network, message_with, message_at, emitted_by, emitted, ticks, externals, is_at, injected, joined, opening_node, state_from, sent_from, state, sent, routers, sent_to}
use Rattle.dn_model.specs.Settled.{below, row_limit}
use Rattle.dn_model.proofs.Computes.{flooding, link}
use Rattle.dn_world.specs.declared.packet.Packet.{Packet}
use Rattle.dn_world.specs.declared.step.Step.{Step}
use Rattle.dn_world.specs.declared.step.Step.TheVariants.{Beacon, Inject, Close, Deliver, Handle, RollBack, Commit}
use Rattle.dn_world.specs.World.{Part, part, stands, without, without_each, unmatched, cancelled, with_todo, with_void, is_before_last, is_behind, is_ready, plus_of, minus_of, ticked, key_of, opening, waiting_at, flying, waiting, least_key, floor_bound, horizon, are_quiet, is_quiet}
use Rattle.dn_world.specs.Steps.{is_injectable, is_enabled, beacon, inject, arrived, deliver, signed, until, since, is_after_first, is_wrong, emits, handle, roll_back, after}
use Rattle.dn_world.specs.Runs.{IsLegalFrom, IsLegal, run, world, settled_rows, committed, is_cut_off}

-- ---- steps, events and packets by their numbers. A command has a body of one byte

abbrev cmd : ℕ → ℕ → ℕ → Step
cmd group r byte = Inject (record { group = group; router = r; input = Cmd (byte ∷ []) })

abbrev tick : ℕ → ℕ → Event
tick group r = record { key = record { group = group; sum = 0; class = 0; tie = 0; origin = r; seq = 0 }; router = r; input = Tick group }

abbrev ext : ℕ → ℕ → ℕ → ℕ → Event
ext group r place byte = record { key = record { group = group; sum = 0; class = 1; tie = 0; origin = r; seq = place }; router = r; input = Cmd (byte ∷ []) }

abbrev msg : ℕ → ℕ → ℕ → ℕ → ℕ → ℕ → ℕ → Event
msg group sum origin seq r port byte =
    record { key = record { group = group; sum = sum; class = 2; tie = 0; origin = origin; seq = seq }; router = r; input = Msg port (byte ∷ []) }

abbrev plus : Event → Packet
plus e = record { plus = true; event = e }

abbrev minus : Event → Packet
minus e = record { plus = false; event = e }

abbrev part_is : List Event → List Event → List Event → Part
part_is done todo voids = record { done = done; todo = todo; voids = voids }

abbrev and_then : List Step → List Step → List Step
and_then [] ys = ys
and_then (x ∷ xs) ys = x ∷ and_then xs ys

-- ---- a message comes late: b has done the ticks of two groups when a's message of the first one arrives

abbrev pair : Network Bodies
pair = flooding 100 4 0 (97 ∷ 98 ∷ []) (link 0 0 1 0 10 ∷ [])

abbrev late : List Step
late = cmd 0 0 65 ∷ Handle 1 ∷ Beacon ∷ Handle 1 ∷ Handle 0 ∷ Handle 0 ∷ Deliver 0 ∷ []

abbrev late_back : List Step
late_back = and_then late (RollBack 1 ∷ [])

abbrev late_end : List Step
late_end = and_then late_back (Handle 1 ∷ [])

late_part : part (world pair late) 1 ≡ part_is (tick 0 1 ∷ tick 1 1 ∷ []) (msg 0 10 0 0 1 0 65 ∷ []) []
unfolding fin_step fin rounds tie message_key next_key key_cmp event_cmp sorted is_below node_after node_sent ports_of link_end ends message_with message_at emitted_by emitted ticks externals is_at injected joined opening_node state_from sent_from state sent routers sent_to below row_limit part stands without without_each unmatched cancelled with_todo with_void is_before_last is_behind is_ready plus_of minus_of ticked opening waiting_at flying waiting least_key floor_bound horizon are_quiet is_quiet is_injectable is_enabled beacon inject arrived deliver signed until since is_after_first is_wrong emits handle roll_back after IsLegalFrom run settled_rows committed is_cut_off
late_part = refl

late_behind : is_behind (part (world pair late) 1) ≡ true
unfolding fin_step fin rounds tie message_key next_key key_cmp event_cmp sorted is_below node_after node_sent ports_of link_end ends message_with message_at emitted_by emitted ticks externals is_at injected joined opening_node state_from sent_from state sent routers sent_to below row_limit part stands without without_each unmatched cancelled with_todo with_void is_before_last is_behind is_ready plus_of minus_of ticked opening waiting_at flying waiting least_key floor_bound horizon are_quiet is_quiet is_injectable is_enabled beacon inject arrived deliver signed until since is_after_first is_wrong emits handle roll_back after IsLegalFrom run settled_rows committed is_cut_off
late_behind = refl

-- the second tick goes back, and since it sent nothing nothing flies
late_back_part : part (world pair late_back) 1 ≡ part_is (tick 0 1 ∷ []) (msg 0 10 0 0 1 0 65 ∷ tick 1 1 ∷ []) []
unfolding fin_step fin rounds tie message_key next_key key_cmp event_cmp sorted is_below node_after node_sent ports_of link_end ends message_with message_at emitted_by emitted ticks externals is_at injected joined opening_node state_from sent_from state sent routers sent_to below row_limit part stands without without_each unmatched cancelled with_todo with_void is_before_last is_behind is_ready plus_of minus_of ticked opening waiting_at flying waiting least_key floor_bound horizon are_quiet is_quiet is_injectable is_enabled beacon inject arrived deliver signed until since is_after_first is_wrong emits handle roll_back after IsLegalFrom run settled_rows committed is_cut_off
late_back_part = refl

late_back_flight : (world pair late_back).flight ≡ []
unfolding fin_step fin rounds tie message_key next_key key_cmp event_cmp sorted is_below node_after node_sent ports_of link_end ends message_with message_at emitted_by emitted ticks externals is_at injected joined opening_node state_from sent_from state sent routers sent_to below row_limit part stands without without_each unmatched cancelled with_todo with_void is_before_last is_behind is_ready plus_of minus_of ticked opening waiting_at flying waiting least_key floor_bound horizon are_quiet is_quiet is_injectable is_enabled beacon inject arrived deliver signed until since is_after_first is_wrong emits handle roll_back after IsLegalFrom run settled_rows committed is_cut_off
late_back_flight = refl

-- and then the message is handled
late_end_part : part (world pair late_end) 1 ≡ part_is (tick 0 1 ∷ msg 0 10 0 0 1 0 65 ∷ []) (tick 1 1 ∷ []) []
unfolding fin_step fin rounds tie message_key next_key key_cmp event_cmp sorted is_below node_after node_sent ports_of link_end ends message_with message_at emitted_by emitted ticks externals is_at injected joined opening_node state_from sent_from state sent routers sent_to below row_limit part stands without without_each unmatched cancelled with_todo with_void is_before_last is_behind is_ready plus_of minus_of ticked opening waiting_at flying waiting least_key floor_bound horizon are_quiet is_quiet is_injectable is_enabled beacon inject arrived deliver signed until since is_after_first is_wrong emits handle roll_back after IsLegalFrom run settled_rows committed is_cut_off
late_end_part = refl

late_legal : IsLegal pair late_end
unfolding fin_step fin rounds tie message_key next_key key_cmp event_cmp sorted is_below node_after node_sent ports_of link_end ends message_with message_at emitted_by emitted ticks externals is_at injected joined opening_node state_from sent_from state sent routers sent_to below row_limit part stands without without_each unmatched cancelled with_todo with_void is_before_last is_behind is_ready plus_of minus_of ticked opening waiting_at flying waiting least_key floor_bound horizon are_quiet is_quiet is_injectable is_enabled beacon inject arrived deliver signed until since is_after_first is_wrong emits handle roll_back after IsLegalFrom run settled_rows committed is_cut_off
late_legal = (refl, (refl, (refl, (refl, (refl, (refl, (refl, (refl, (refl, tt)))))))))

-- ---- an unsend comes before its message: b takes back the command that it has flooded, and c has the unsend first

abbrev line : Network Bodies
line = flooding 100 2 0 (97 ∷ 98 ∷ 99 ∷ []) (link 0 0 1 0 10 ∷ link 1 1 2 0 10 ∷ [])

abbrev flooded : List Step
flooded = cmd 0 0 65 ∷ Beacon ∷ cmd 1 1 66 ∷ Handle 1 ∷ Handle 1 ∷ Handle 1 ∷ Handle 0 ∷ Handle 0 ∷ []

abbrev unsent : List Step
unsent = and_then flooded (Deliver 2 ∷ RollBack 1 ∷ [])

abbrev unsend_first : List Step
unsend_first = and_then unsent (Deliver 3 ∷ [])

abbrev both_gone : List Step
both_gone = and_then unsend_first (Deliver 1 ∷ [])

flooded_flight : (world line flooded).flight ≡ plus (msg 1 10 1 0 0 0 66) ∷ plus (msg 1 10 1 1 2 0 66) ∷ plus (msg 0 10 0 0 1 0 65) ∷ []
unfolding fin_step fin rounds tie message_key next_key key_cmp event_cmp sorted is_below node_after node_sent ports_of link_end ends message_with message_at emitted_by emitted ticks externals is_at injected joined opening_node state_from sent_from state sent routers sent_to below row_limit part stands without without_each unmatched cancelled with_todo with_void is_before_last is_behind is_ready plus_of minus_of ticked opening waiting_at flying waiting least_key floor_bound horizon are_quiet is_quiet is_injectable is_enabled beacon inject arrived deliver signed until since is_after_first is_wrong emits handle roll_back after IsLegalFrom run settled_rows committed is_cut_off
flooded_flight = refl

unsent_flight : (world line unsent).flight ≡ plus (msg 1 10 1 0 0 0 66) ∷ plus (msg 1 10 1 1 2 0 66) ∷ minus (msg 1 10 1 0 0 0 66) ∷ minus (msg 1 10 1 1 2 0 66) ∷ []
unfolding fin_step fin rounds tie message_key next_key key_cmp event_cmp sorted is_below node_after node_sent ports_of link_end ends message_with message_at emitted_by emitted ticks externals is_at injected joined opening_node state_from sent_from state sent routers sent_to below row_limit part stands without without_each unmatched cancelled with_todo with_void is_before_last is_behind is_ready plus_of minus_of ticked opening waiting_at flying waiting least_key floor_bound horizon are_quiet is_quiet is_injectable is_enabled beacon inject arrived deliver signed until since is_after_first is_wrong emits handle roll_back after IsLegalFrom run settled_rows committed is_cut_off
unsent_flight = refl

unsent_part : part (world line unsent) 1 ≡ part_is (tick 0 1 ∷ []) (msg 0 10 0 0 1 0 65 ∷ tick 1 1 ∷ ext 1 1 1 66 ∷ []) []
unfolding fin_step fin rounds tie message_key next_key key_cmp event_cmp sorted is_below node_after node_sent ports_of link_end ends message_with message_at emitted_by emitted ticks externals is_at injected joined opening_node state_from sent_from state sent routers sent_to below row_limit part stands without without_each unmatched cancelled with_todo with_void is_before_last is_behind is_ready plus_of minus_of ticked opening waiting_at flying waiting least_key floor_bound horizon are_quiet is_quiet is_injectable is_enabled beacon inject arrived deliver signed until since is_after_first is_wrong emits handle roll_back after IsLegalFrom run settled_rows committed is_cut_off
unsent_part = refl

-- c keeps the unsend until the message arrives, and then both are gone
unsend_first_part : part (world line unsend_first) 2 ≡ part_is [] (tick 0 2 ∷ tick 1 2 ∷ []) (msg 1 10 1 1 2 0 66 ∷ [])
unfolding fin_step fin rounds tie message_key next_key key_cmp event_cmp sorted is_below node_after node_sent ports_of link_end ends message_with message_at emitted_by emitted ticks externals is_at injected joined opening_node state_from sent_from state sent routers sent_to below row_limit part stands without without_each unmatched cancelled with_todo with_void is_before_last is_behind is_ready plus_of minus_of ticked opening waiting_at flying waiting least_key floor_bound horizon are_quiet is_quiet is_injectable is_enabled beacon inject arrived deliver signed until since is_after_first is_wrong emits handle roll_back after IsLegalFrom run settled_rows committed is_cut_off
unsend_first_part = refl

both_gone_part : part (world line both_gone) 2 ≡ part_is [] (tick 0 2 ∷ tick 1 2 ∷ []) []
unfolding fin_step fin rounds tie message_key next_key key_cmp event_cmp sorted is_below node_after node_sent ports_of link_end ends message_with message_at emitted_by emitted ticks externals is_at injected joined opening_node state_from sent_from state sent routers sent_to below row_limit part stands without without_each unmatched cancelled with_todo with_void is_before_last is_behind is_ready plus_of minus_of ticked opening waiting_at flying waiting least_key floor_bound horizon are_quiet is_quiet is_injectable is_enabled beacon inject arrived deliver signed until since is_after_first is_wrong emits handle roll_back after IsLegalFrom run settled_rows committed is_cut_off
both_gone_part = refl

both_gone_legal : IsLegal line both_gone
unfolding fin_step fin rounds tie message_key next_key key_cmp event_cmp sorted is_below node_after node_sent ports_of link_end ends message_with message_at emitted_by emitted ticks externals is_at injected joined opening_node state_from sent_from state sent routers sent_to below row_limit part stands without without_each unmatched cancelled with_todo with_void is_before_last is_behind is_ready plus_of minus_of ticked opening waiting_at flying waiting least_key floor_bound horizon are_quiet is_quiet is_injectable is_enabled beacon inject arrived deliver signed until since is_after_first is_wrong emits handle roll_back after IsLegalFrom run settled_rows committed is_cut_off
both_gone_legal = (refl, (refl, (refl, (refl, (refl, (refl, (refl, (refl, (refl, (refl, (refl, (refl, tt))))))))))))

-- ---- an unsend comes after its message was handled: c rolls back, and nothing of the message is left

abbrev handled : List Step
handled = and_then flooded (Handle 2 ∷ Handle 2 ∷ Deliver 1 ∷ Handle 2 ∷ [])

abbrev handled_unsent : List Step
handled_unsent = and_then handled (Deliver 1 ∷ RollBack 1 ∷ [])

abbrev handled_void : List Step
handled_void = and_then handled_unsent (Deliver 2 ∷ [])

abbrev handled_end : List Step
handled_end = and_then handled_void (RollBack 2 ∷ [])

handled_flight : (world line handled).flight ≡ plus (msg 1 10 1 0 0 0 66) ∷ plus (msg 0 10 0 0 1 0 65) ∷ []
unfolding fin_step fin rounds tie message_key next_key key_cmp event_cmp sorted is_below node_after node_sent ports_of link_end ends message_with message_at emitted_by emitted ticks externals is_at injected joined opening_node state_from sent_from state sent routers sent_to below row_limit part stands without without_each unmatched cancelled with_todo with_void is_before_last is_behind is_ready plus_of minus_of ticked opening waiting_at flying waiting least_key floor_bound horizon are_quiet is_quiet is_injectable is_enabled beacon inject arrived deliver signed until since is_after_first is_wrong emits handle roll_back after IsLegalFrom run settled_rows committed is_cut_off
handled_flight = refl

handled_unsent_flight : (world line handled_unsent).flight ≡ plus (msg 1 10 1 0 0 0 66) ∷ minus (msg 1 10 1 0 0 0 66) ∷ minus (msg 1 10 1 1 2 0 66) ∷ []
unfolding fin_step fin rounds tie message_key next_key key_cmp event_cmp sorted is_below node_after node_sent ports_of link_end ends message_with message_at emitted_by emitted ticks externals is_at injected joined opening_node state_from sent_from state sent routers sent_to below row_limit part stands without without_each unmatched cancelled with_todo with_void is_before_last is_behind is_ready plus_of minus_of ticked opening waiting_at flying waiting least_key floor_bound horizon are_quiet is_quiet is_injectable is_enabled beacon inject arrived deliver signed until since is_after_first is_wrong emits handle roll_back after IsLegalFrom run settled_rows committed is_cut_off
handled_unsent_flight = refl

handled_void_behind : is_behind (part (world line handled_void) 2) ≡ true
unfolding fin_step fin rounds tie message_key next_key key_cmp event_cmp sorted is_below node_after node_sent ports_of link_end ends message_with message_at emitted_by emitted ticks externals is_at injected joined opening_node state_from sent_from state sent routers sent_to below row_limit part stands without without_each unmatched cancelled with_todo with_void is_before_last is_behind is_ready plus_of minus_of ticked opening waiting_at flying waiting least_key floor_bound horizon are_quiet is_quiet is_injectable is_enabled beacon inject arrived deliver signed until since is_after_first is_wrong emits handle roll_back after IsLegalFrom run settled_rows committed is_cut_off
handled_void_behind = refl

handled_end_part : part (world line handled_end) 2 ≡ part_is (tick 0 2 ∷ tick 1 2 ∷ []) [] []
unfolding fin_step fin rounds tie message_key next_key key_cmp event_cmp sorted is_below node_after node_sent ports_of link_end ends message_with message_at emitted_by emitted ticks externals is_at injected joined opening_node state_from sent_from state sent routers sent_to below row_limit part stands without without_each unmatched cancelled with_todo with_void is_before_last is_behind is_ready plus_of minus_of ticked opening waiting_at flying waiting least_key floor_bound horizon are_quiet is_quiet is_injectable is_enabled beacon inject arrived deliver signed until since is_after_first is_wrong emits handle roll_back after IsLegalFrom run settled_rows committed is_cut_off
handled_end_part = refl

handled_end_flight : (world line handled_end).flight ≡ plus (msg 1 10 1 0 0 0 66) ∷ minus (msg 1 10 1 0 0 0 66) ∷ []
unfolding fin_step fin rounds tie message_key next_key key_cmp event_cmp sorted is_below node_after node_sent ports_of link_end ends message_with message_at emitted_by emitted ticks externals is_at injected joined opening_node state_from sent_from state sent routers sent_to below row_limit part stands without without_each unmatched cancelled with_todo with_void is_before_last is_behind is_ready plus_of minus_of ticked opening waiting_at flying waiting least_key floor_bound horizon are_quiet is_quiet is_injectable is_enabled beacon inject arrived deliver signed until since is_after_first is_wrong emits handle roll_back after IsLegalFrom run settled_rows committed is_cut_off
handled_end_flight = refl

handled_end_legal : IsLegal line handled_end
unfolding fin_step fin rounds tie message_key next_key key_cmp event_cmp sorted is_below node_after node_sent ports_of link_end ends message_with message_at emitted_by emitted ticks externals is_at injected joined opening_node state_from sent_from state sent routers sent_to below row_limit part stands without without_each unmatched cancelled with_todo with_void is_before_last is_behind is_ready plus_of minus_of ticked opening waiting_at flying waiting least_key floor_bound horizon are_quiet is_quiet is_injectable is_enabled beacon inject arrived deliver signed until since is_after_first is_wrong emits handle roll_back after IsLegalFrom run settled_rows committed is_cut_off
handled_end_legal = (refl, (refl, (refl, (refl, (refl, (refl, (refl, (refl, (refl, (refl, (refl, (refl, (refl, (refl, (refl, (refl, tt))))))))))))))))

-- ---- a number is taken again: b takes back its sending with number 0, and another one has the number then. The unsend meets the old one

abbrev line_turned : Network Bodies
line_turned = flooding 100 2 0 (97 ∷ 98 ∷ 99 ∷ []) (link 1 0 2 0 10 ∷ link 0 0 1 1 10 ∷ [])

abbrev again : List Step
again = cmd 0 0 65 ∷ Handle 0 ∷ Handle 0 ∷ Deliver 0 ∷ Handle 1 ∷ Handle 1 ∷ cmd 0 1 66 ∷ RollBack 1 ∷ Handle 1 ∷ []

abbrev again_end : List Step
again_end = and_then again (Deliver 0 ∷ Deliver 1 ∷ Deliver 0 ∷ [])

again_flight : (world line_turned again).flight ≡ plus (msg 0 20 1 0 2 0 65) ∷ minus (msg 0 20 1 0 2 0 65) ∷ plus (msg 0 10 1 0 2 0 66) ∷ plus (msg 0 10 1 1 0 0 66) ∷ []
unfolding fin_step fin rounds tie message_key next_key key_cmp event_cmp sorted is_below node_after node_sent ports_of link_end ends message_with message_at emitted_by emitted ticks externals is_at injected joined opening_node state_from sent_from state sent routers sent_to below row_limit part stands without without_each unmatched cancelled with_todo with_void is_before_last is_behind is_ready plus_of minus_of ticked opening waiting_at flying waiting least_key floor_bound horizon are_quiet is_quiet is_injectable is_enabled beacon inject arrived deliver signed until since is_after_first is_wrong emits handle roll_back after IsLegalFrom run settled_rows committed is_cut_off
again_flight = refl

again_end_part : part (world line_turned again_end) 2 ≡ part_is [] (tick 0 2 ∷ msg 0 10 1 0 2 0 66 ∷ []) []
unfolding fin_step fin rounds tie message_key next_key key_cmp event_cmp sorted is_below node_after node_sent ports_of link_end ends message_with message_at emitted_by emitted ticks externals is_at injected joined opening_node state_from sent_from state sent routers sent_to below row_limit part stands without without_each unmatched cancelled with_todo with_void is_before_last is_behind is_ready plus_of minus_of ticked opening waiting_at flying waiting least_key floor_bound horizon are_quiet is_quiet is_injectable is_enabled beacon inject arrived deliver signed until since is_after_first is_wrong emits handle roll_back after IsLegalFrom run settled_rows committed is_cut_off
again_end_part = refl

again_end_legal : IsLegal line_turned again_end
unfolding fin_step fin rounds tie message_key next_key key_cmp event_cmp sorted is_below node_after node_sent ports_of link_end ends message_with message_at emitted_by emitted ticks externals is_at injected joined opening_node state_from sent_from state sent routers sent_to below row_limit part stands without without_each unmatched cancelled with_todo with_void is_before_last is_behind is_ready plus_of minus_of ticked opening waiting_at flying waiting least_key floor_bound horizon are_quiet is_quiet is_injectable is_enabled beacon inject arrived deliver signed until since is_after_first is_wrong emits handle roll_back after IsLegalFrom run settled_rows committed is_cut_off
again_end_legal = (refl, (refl, (refl, (refl, (refl, (refl, (refl, (refl, (refl, (refl, (refl, (refl, tt))))))))))))

-- ---- an external comes at the boundary: its key is the boundary's, so it isn't below it, and it is handled

abbrev ticks_committed : List Step
ticks_committed = Handle 0 ∷ Handle 1 ∷ Commit ∷ []

abbrev at_the_boundary : List Step
at_the_boundary = and_then ticks_committed (cmd 0 0 65 ∷ Handle 0 ∷ [])

ticks_committed_rows : committed pair (world pair ticks_committed) ≡ tick 0 0 ∷ tick 0 1 ∷ []
unfolding fin_step fin rounds tie message_key next_key key_cmp event_cmp sorted is_below node_after node_sent ports_of link_end ends message_with message_at emitted_by emitted ticks externals is_at injected joined opening_node state_from sent_from state sent routers sent_to below row_limit part stands without without_each unmatched cancelled with_todo with_void is_before_last is_behind is_ready plus_of minus_of ticked opening waiting_at flying waiting least_key floor_bound horizon are_quiet is_quiet is_injectable is_enabled beacon inject arrived deliver signed until since is_after_first is_wrong emits handle roll_back after IsLegalFrom run settled_rows committed is_cut_off
ticks_committed_rows = refl

ticks_committed_boundary : (world pair ticks_committed).boundary ≡ key_of 0 1
unfolding fin_step fin rounds tie message_key next_key key_cmp event_cmp sorted is_below node_after node_sent ports_of link_end ends message_with message_at emitted_by emitted ticks externals is_at injected joined opening_node state_from sent_from state sent routers sent_to below row_limit part stands without without_each unmatched cancelled with_todo with_void is_before_last is_behind is_ready plus_of minus_of ticked opening waiting_at flying waiting least_key floor_bound horizon are_quiet is_quiet is_injectable is_enabled beacon inject arrived deliver signed until since is_after_first is_wrong emits handle roll_back after IsLegalFrom run settled_rows committed is_cut_off
ticks_committed_boundary = refl

at_the_boundary_part : part (world pair at_the_boundary) 0 ≡ part_is (tick 0 0 ∷ ext 0 0 0 65 ∷ []) [] []
unfolding fin_step fin rounds tie message_key next_key key_cmp event_cmp sorted is_below node_after node_sent ports_of link_end ends message_with message_at emitted_by emitted ticks externals is_at injected joined opening_node state_from sent_from state sent routers sent_to below row_limit part stands without without_each unmatched cancelled with_todo with_void is_before_last is_behind is_ready plus_of minus_of ticked opening waiting_at flying waiting least_key floor_bound horizon are_quiet is_quiet is_injectable is_enabled beacon inject arrived deliver signed until since is_after_first is_wrong emits handle roll_back after IsLegalFrom run settled_rows committed is_cut_off
at_the_boundary_part = refl

at_the_boundary_legal : IsLegal pair at_the_boundary
unfolding fin_step fin rounds tie message_key next_key key_cmp event_cmp sorted is_below node_after node_sent ports_of link_end ends message_with message_at emitted_by emitted ticks externals is_at injected joined opening_node state_from sent_from state sent routers sent_to below row_limit part stands without without_each unmatched cancelled with_todo with_void is_before_last is_behind is_ready plus_of minus_of ticked opening waiting_at flying waiting least_key floor_bound horizon are_quiet is_quiet is_injectable is_enabled beacon inject arrived deliver signed until since is_after_first is_wrong emits handle roll_back after IsLegalFrom run settled_rows committed is_cut_off
at_the_boundary_legal = (refl, (refl, (refl, (refl, (refl, tt)))))

-- ---- the smallest network to its end

abbrev single : Network Bodies
single = flooding 1 1 0 (97 ∷ []) []

abbrev whole : List Step
whole = Handle 0 ∷ Close ∷ Commit ∷ []

whole_legal : IsLegal single whole
unfolding fin_step fin rounds tie message_key next_key key_cmp event_cmp sorted is_below node_after node_sent ports_of link_end ends message_with message_at emitted_by emitted ticks externals is_at injected joined opening_node state_from sent_from state sent routers sent_to below row_limit part stands without without_each unmatched cancelled with_todo with_void is_before_last is_behind is_ready plus_of minus_of ticked opening waiting_at flying waiting least_key floor_bound horizon are_quiet is_quiet is_injectable is_enabled beacon inject arrived deliver signed until since is_after_first is_wrong emits handle roll_back after IsLegalFrom run settled_rows committed is_cut_off
whole_legal = (refl, (refl, (refl, tt)))

whole_quiet : is_quiet (world single whole) ≡ true
unfolding fin_step fin rounds tie message_key next_key key_cmp event_cmp sorted is_below node_after node_sent ports_of link_end ends message_with message_at emitted_by emitted ticks externals is_at injected joined opening_node state_from sent_from state sent routers sent_to below row_limit part stands without without_each unmatched cancelled with_todo with_void is_before_last is_behind is_ready plus_of minus_of ticked opening waiting_at flying waiting least_key floor_bound horizon are_quiet is_quiet is_injectable is_enabled beacon inject arrived deliver signed until since is_after_first is_wrong emits handle roll_back after IsLegalFrom run settled_rows committed is_cut_off
whole_quiet = refl

whole_boundary : (world single whole).boundary ≡ key_of 1 0
unfolding fin_step fin rounds tie message_key next_key key_cmp event_cmp sorted is_below node_after node_sent ports_of link_end ends message_with message_at emitted_by emitted ticks externals is_at injected joined opening_node state_from sent_from state sent routers sent_to below row_limit part stands without without_each unmatched cancelled with_todo with_void is_before_last is_behind is_ready plus_of minus_of ticked opening waiting_at flying waiting least_key floor_bound horizon are_quiet is_quiet is_injectable is_enabled beacon inject arrived deliver signed until since is_after_first is_wrong emits handle roll_back after IsLegalFrom run settled_rows committed is_cut_off
whole_boundary = refl

whole_horizon : horizon single.header (world single whole) ≡ key_of 1 0
unfolding fin_step fin rounds tie message_key next_key key_cmp event_cmp sorted is_below node_after node_sent ports_of link_end ends message_with message_at emitted_by emitted ticks externals is_at injected joined opening_node state_from sent_from state sent routers sent_to below row_limit part stands without without_each unmatched cancelled with_todo with_void is_before_last is_behind is_ready plus_of minus_of ticked opening waiting_at flying waiting least_key floor_bound horizon are_quiet is_quiet is_injectable is_enabled beacon inject arrived deliver signed until since is_after_first is_wrong emits handle roll_back after IsLegalFrom run settled_rows committed is_cut_off
whole_horizon = refl

whole_rows : committed single (world single whole) ≡ tick 0 0 ∷ []
unfolding fin_step fin rounds tie message_key next_key key_cmp event_cmp sorted is_below node_after node_sent ports_of link_end ends message_with message_at emitted_by emitted ticks externals is_at injected joined opening_node state_from sent_from state sent routers sent_to below row_limit part stands without without_each unmatched cancelled with_todo with_void is_before_last is_behind is_ready plus_of minus_of ticked opening waiting_at flying waiting least_key floor_bound horizon are_quiet is_quiet is_injectable is_enabled beacon inject arrived deliver signed until since is_after_first is_wrong emits handle roll_back after IsLegalFrom run settled_rows committed is_cut_off
whole_rows = refl
