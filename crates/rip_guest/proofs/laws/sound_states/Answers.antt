use Rattle.std.proofs.Common.{◌≡◌, ℕ, Bool, true, false, cond, ◌+◌, ◌&&◌, ◌||◌, ◌^◌, ◌≤◌, ◌<◌, List, [], ◌∷◌, length, map, min, refl, arith, inl, inr}
use Rattle.std.specs.Prelude.{All, Option, Some, None, drop, fold, nat_le, nat_lt, slice_index}
use Rattle.std.specs.List.{AllByRecursion}
use Rattle.std.proofs.lemmas.Bool.{cases_lt}
use Rattle.std.proofs.lemmas.Bool.Decides.{nat_tests}
use Rattle.std.proofs.lemmas.List.{get_or_past, length-map}
use Rattle.std.proofs.lemmas.List.Elements.{All-drop, All-get_or, All-head, All-tail}
use Rattle.byteorder.specs.Endian.{big_number}
use Rattle.byteorder.specs.Numbers.{big_from-lt}
use Rattle.dn_guest.specs.declared.input.Input.{Input}
use Rattle.dn_guest.specs.declared.input.Input.TheVariants as input
use Rattle.dn_net.specs.Networks.{is_network}
use Rattle.rip_wire.specs.declared.entry.Entry.{Entry}
use Rattle.rip_wire.specs.declared.message.Message.{Message}
use Rattle.rip_wire.specs.Constants.{infinity}
use Rattle.rip_wire.specs.Entries.{FitsEntry}
use Rattle.rip_wire.specs.Reading.{message_at}
use Rattle.rip_table.specs.declared.held.Held.{Held}
use Rattle.rip_table.specs.Held.{is_current, settled}
use Rattle.rip_table.specs.Own.{own_at, own_count, with_own, without_own}
use Rattle.rip_table.specs.Response.{entry_taken}
use Rattle.rip_table.specs.Routes.{Routes, all_changed, any_changed, held_at}
use Rattle.rip_table.specs.Sound.{IsSoundTable}
use Rattle.rip_table.specs.Timers.{port_lost, ticked}
use Rattle.rip_guest.specs.Commands.{address_at_1, commanded, has_room_for_own, is_current_at, is_setting, is_withdrawal, set, withdraw}
use Rattle.rip_guest.specs.Requests.{is_authenticated}
use Rattle.rip_guest.specs.Responses.{response_taken}
use Rattle.rip_guest.specs.Sound.{AreSettings, HasBytes, IsSetting, IsSoundState, rip_run}
use Rattle.rip_guest.specs.State.{Prefix, RipState, has_port, opening, with_routes}
use Rattle.rip_guest.specs.Step.{handled, is_passed_over, is_update_due, rip_after, routes_after_message, tick_routes, triggered_sent}
use Rattle.rip_guest.proofs.Choice.{choose}
use Rattle.rip_guest.proofs.Inputs.{taken, there_by}
use Rattle.rip_guest.proofs.laws.sound_states.Goals as goal

abbrev Laws : Type 0
Laws = goal.After-read_messages_fit

-- the state with other routes that are sound
sound_with : (s : RipState) (tick : ℕ) (routes : Routes) → tick ≤ 65535 → IsSoundTable (length s.costs) tick routes → IsSoundState s
    → IsSoundState (record s { last_tick = tick; routes = routes })
sound_with s tick routes early new sound = record { number = sound.number; tick = early; ports = sound.ports; costs = sound.costs; routes = new }

-- ---- messages

taken_each : (c : Laws) (port cost ports now : ℕ) (es : List Entry) (routes : Routes) → port < ports → All FitsEntry es → IsSoundTable ports now routes
    → IsSoundTable ports now (fold (λ r e. entry_taken port cost e now r) routes es)
taken_each c port cost ports now [] routes there fit sound = sound
taken_each c port cost ports now (e ∷ es) routes there fit sound =
    taken_each c port cost ports now es (entry_taken port cost e now routes) there (All-tail FitsEntry e es fit)
    (c.sound_tables.ensures.response port cost e ports now routes there (All-head FitsEntry e es fit) sound)

sound_message : (c : Laws) (s : RipState) (port : ℕ) (found : Option Message) (body : List ℕ) → message_at body ≡ found → All (λ b. b < 2 ^ 8) body → port < length s.costs
    → IsSoundTable (length s.costs) s.last_tick s.routes → IsSoundTable (length s.costs) s.last_tick (routes_after_message s port found)
sound_message c s port None body read bytes there sound = sound
sound_message c s port (Some m) body read bytes there sound =
    let P : Routes → Type 0 = IsSoundTable (length s.costs) s.last_tick in
    let cost = slice_index s.costs port in
    choose P _ s.routes (response_taken port cost s.last_tick s.routes m.entries) (λ _. sound)
    (λ _. choose P (is_authenticated m.entries) s.routes (fold (λ r e. entry_taken port cost e s.last_tick r) s.routes m.entries) (λ _. sound)
    (λ _. taken_each c port cost (length s.costs) s.last_tick m.entries s.routes there (c.read_messages_fit.ensures.entries body m bytes read) sound))

-- ---- commands

byte_at : (xs : List ℕ) → All (λ b. b < 2 ^ 8) xs → (k : ℕ) → slice_index xs k < 256
byte_at xs all k = elim (cases_lt k (length xs)) [
  | inl here ↦ All-get_or (λ (b : ℕ). b < 2 ^ 8) xs k 0 here all
  | inr past ↦ omega (arith, get_or_past xs k 0 past)
]

address_fits : (body : List ℕ) → All (λ b. b < 2 ^ 8) body → address_at_1 body < 2 ^ 32
address_fits body all = big_from-lt 0 4 (drop 1 body) (byte_at (drop 1 body) (All-drop (λ (b : ℕ). b < 2 ^ 8) 1 body all))

record MaySet (a b : Bool) (metric : ℕ) : Type 0 where
  network : a ≡ true
  least : 1 ≤ metric
  most : metric ≤ 15
  room : b ≡ true

may_set : (network room : Bool) (metric : ℕ) → (network && nat_le 1 metric && nat_le metric 15 && room) ≡ true → MaySet network room metric
may_set true true metric t = record { network = refl; least = grind (arith, nat_tests); most = grind (arith, nat_tests); room = refl }
may_set true false metric t = absurd (grind (arith, nat_tests))
may_set false room metric t = absurd cc

room_by : (current : Bool) (h : Held) (own : ℕ) → is_current h ≡ current → own ≤ 32 → (current || nat_lt own 32) ≡ true → own < 32 + cond current 1 0
room_by true h own t few room = omega (arith, few)
room_by false h own t few room = grind (arith, nat_tests)

room_for : (held : Option Held) (own : ℕ) → own ≤ 32 → (is_current_at held || nat_lt own 32) ≡ true → own < 32 + own_at held
room_for None own few room = grind (arith, nat_tests)
room_for (Some h) own few room = room_by (is_current h) h own refl few room

sound_set : (c : Laws) (address len metric ports now : ℕ) (routes : Routes) → address < 2 ^ 32 → IsSoundTable ports now routes → IsSoundTable ports now (set routes address len metric now)
sound_set c address len metric ports now routes few sound =
    choose (IsSoundTable ports now) (is_network address len && nat_le 1 metric && nat_le metric 15 && has_room_for_own routes address len)
    (with_own routes address len metric now) routes
    (λ t. let may = may_set (is_network address len) (has_room_for_own routes address len) metric t in
    c.sound_tables.ensures.connect address len metric ports now routes few may.network may.least (omega (arith, may.most))
    (room_for (held_at routes (address, len)) (own_count routes) sound.own may.room) sound)
    (λ _. sound)

sound_command : (c : Laws) (ports now : ℕ) (body : List ℕ) (routes : Routes) → All (λ b. b < 2 ^ 8) body → IsSoundTable ports now routes → IsSoundTable ports now (commanded now body routes)
unfolding commanded
sound_command c ports now body routes bytes sound =
    let P : Routes → Type 0 = IsSoundTable ports now in
    let address = address_at_1 body in
    let len = slice_index body 5 in
    choose P (is_setting body) (set routes address len (big_number 2 (drop 6 body)) now) _
    (λ _. sound_set c address len (big_number 2 (drop 6 body)) ports now routes (address_fits body bytes) sound)
    (λ _. choose P (is_withdrawal body) (withdraw routes address len now) routes
    (λ _. choose P (is_network address len) (without_own routes address len now) routes (λ _. c.sound_tables.ensures.lose address len ports now routes sound) (λ _. sound))
    (λ _. sound))

-- ---- a step

sound_ticked : (c : Laws) (s : RipState) (group : ℕ) → s.last_tick ≤ group → IsSoundState s → IsSoundTable (length s.costs) group (tick_routes s group)
sound_ticked c s group rises sound =
    let P : Routes → Type 0 = IsSoundTable (length s.costs) group in
    let timed : P (ticked group s.routes) = c.sound_tables.ensures.tick (length s.costs) s.last_tick group s.routes rises sound.routes in
    choose P (is_update_due s group) (all_changed settled (ticked group s.routes)) (ticked group s.routes)
    (λ _. c.sound_tables.ensures.settle (length s.costs) group (ticked group s.routes) timed) (λ _. timed)

sound_handled : (c : Laws) (s : RipState) (i : Input) → HasBytes i → is_passed_over s i ≡ false → IsSoundState s → IsSoundState (handled s i)
sound_handled c s (input.Tick group) bytes here sound =
    let is = taken s.last_tick group here in
    sound_with s group (tick_routes s group) is.early (sound_ticked c s group is.rises sound) sound
sound_handled c s (input.Cmd body) bytes here sound =
    sound_with s s.last_tick (commanded s.last_tick body s.routes) sound.tick (sound_command c (length s.costs) s.last_tick body s.routes bytes sound.routes) sound
sound_handled c s (input.Down port) bytes here sound =
    let routes = all_changed (port_lost port s.last_tick) s.routes in
    choose IsSoundState (has_port s port) (with_routes s routes) s
    (λ _. sound_with s s.last_tick routes sound.tick (c.sound_tables.ensures.lose_port port (length s.costs) s.last_tick s.routes sound.routes) sound) (λ _. sound)
sound_handled c s (input.Up port) bytes here sound = sound
sound_handled c s (input.Msg port body) bytes here sound =
    let routes = routes_after_message s port (message_at body) in
    choose IsSoundState (has_port s port) (with_routes s routes) s
    (λ t. sound_with s s.last_tick routes sound.tick (sound_message c s port (message_at body) body refl bytes (there_by port (length s.costs) t) sound.routes) sound) (λ _. sound)

sound_sent : (c : Laws) (s : RipState) → IsSoundState s → IsSoundState (triggered_sent s)
sound_sent c s sound =
    let routes = all_changed settled s.routes in
    choose IsSoundState (any_changed s.routes) (with_routes s routes) s
    (λ _. sound_with s s.last_tick routes sound.tick (c.sound_tables.ensures.settle (length s.costs) s.last_tick s.routes sound.routes) sound) (λ _. sound)

sound_after : (c : Laws) (s : RipState) (ports : ℕ) (i : Input) → HasBytes i → IsSoundState s → IsSoundState (rip_after s ports i)
sound_after c s ports i bytes sound =
    choose IsSoundState (is_passed_over s i) s (triggered_sent (handled s i)) (λ _. sound)
    (λ here. sound_sent c (handled s i) (sound_handled c s i bytes here sound))

-- ---- the start

sound_costs : (costs : List ℕ) → AllByRecursion (λ cost. 1 ≤ cost) costs → AllByRecursion (λ cost. (1 ≤ cost) × (cost ≤ 16)) (map (min infinity) costs)
sound_costs [] all = tt
sound_costs (cost ∷ costs) all =
    let least = all.0 in
    ((omega arith, omega arith), sound_costs costs all.1)

abbrev with_prefix : Routes → Prefix → Routes
with_prefix routes p = with_own routes p.0 p.1 (min infinity p.2) 0

set_each : (c : Laws) (ports : ℕ) (ps : List Prefix) (routes : Routes) → AllByRecursion IsSetting ps → own_count routes + length ps ≤ 32
    → IsSoundTable ports 0 routes → IsSoundTable ports 0 (fold with_prefix routes ps)
set_each c ports [] routes all room sound = sound
set_each c ports (p ∷ ps) routes all room sound =
    let least = all.0.metric in
    let next = c.sound_tables.ensures.connect p.0 p.1 (min infinity p.2) ports 0 routes all.0.address all.0.network (omega arith) (omega arith) (omega (arith, room)) sound in
    let more = c.one_own_network_more.ensures p.0 p.1 (min infinity p.2) 0 routes sound.rising in
    set_each c ports ps (with_prefix routes p) all.1 (omega (arith, more, room)) next

sound_opening : (c : Laws) (number : ℕ) (costs : List ℕ) (prefixes : List Prefix) → AreSettings number costs prefixes → IsSoundState (opening number costs prefixes)
sound_opening c number costs prefixes are =
    let ports = length (map (min infinity) costs) in
    record {
      number = are.number;
      tick = omega arith;
      ports = omega (arith, length-map costs (min infinity), are.few_ports);
      costs = sound_costs costs are.each_cost;
      routes = c.sound_tables.ensures.settle ports 0 (fold with_prefix [] prefixes)
          (set_each c ports prefixes [] are.each_network (omega (arith, are.few_networks)) (c.sound_tables.ensures.new ports));
    }

run_from : (c : Laws) (s : RipState) (steps : List (ℕ × Input)) → AllByRecursion (λ (e : ℕ × Input). HasBytes e.1) steps → IsSoundState s → IsSoundState (rip_run s steps)
run_from c s [] all sound = sound
run_from c s (e ∷ steps) all sound = run_from c (rip_after s e.0 e.1) steps all.1 (sound_after c s e.0 e.1 all.0 sound)

pub returns-clause-opening : goal.returns-clause-opening
returns-clause-opening c = sound_opening c

pub returns-clause-handled : goal.returns-clause-handled
returns-clause-handled c = sound_handled c

pub returns-clause-step : goal.returns-clause-step
returns-clause-step c = sound_after c

pub returns-clause-run : goal.returns-clause-run
returns-clause-run c = λ number costs prefixes steps are all. run_from c (opening number costs prefixes) steps all (sound_opening c number costs prefixes are)
