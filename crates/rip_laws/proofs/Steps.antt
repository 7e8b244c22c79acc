-- What a step makes of the route that is held at one network.
use Rattle.std.proofs.Common.{◌≡◌, inl, inr, ℕ, Bool, true, false, ◌&&◌, ◌==◌, ◌≤◌, ◌<◌, List, [], ◌∷◌, length, Option, Some, None, refl, sym, ap, subst, ◌∙◌, arith}
use Rattle.std.specs.Prelude.{option_map, Contains, fold, drop, nat_lt, nat_le, slice_index}
use Rattle.std.specs.List.{AllByRecursion}
use Rattle.std.proofs.lemmas.Bool.Decides.{nat_tests, Decides-eqb}
use Rattle.std.proofs.lemmas.List.Elements.{All-contains_itself, recursion_from_All}
use Rattle.byteorder.specs.Endian.{big_number}
use Rattle.dn_guest.specs.declared.input.Input.{Input}
use Rattle.dn_guest.specs.declared.input.Input.TheVariants as input
use Rattle.dn_net.specs.Networks.{Network, is_network}
use Rattle.rip_wire.specs.declared.entry.Entry.{Entry}
use Rattle.rip_wire.specs.declared.message.Message.{Message}
use Rattle.rip_wire.specs.Messages.{IsEncodable}
use Rattle.rip_wire.specs.Reading.{message_at}
use Rattle.rip_table.specs.declared.held.Held.{Held}
use Rattle.rip_table.specs.Held.{settled}
use Rattle.rip_table.specs.Own.{connected, with_own, withdrawn, without_own}
use Rattle.rip_table.specs.Response.{entry_taken, entry_taken_at, metric_with_cost, route_after}
use Rattle.rip_table.specs.Routes.{Routes, all_changed, any_changed, held_at, is_full}
use Rattle.rip_table.specs.Timers.{port_lost, ticked}
use Rattle.rip_table.specs.Validation.{destination_of}
use Rattle.rip_guest.specs.Commands.{address_at_1, commanded, has_room_for_own, is_setting, is_withdrawal, set, withdraw}
use Rattle.rip_guest.specs.Requests.{is_authenticated}
use Rattle.rip_guest.specs.Responses.{response_taken}
use Rattle.rip_guest.specs.State.{RipState, has_port, with_routes}
use Rattle.rip_guest.specs.Step.{handled, is_passed_over, is_update_due, rip_after, routes_after_message, triggered_sent}
use Rattle.rip_laws.specs.Told.{IsResponse}
use Rattle.rip_laws.proofs.Choice.{and_true, choose}
use Rattle.rip_laws.proofs.Lookups.{Puts, changed_at, put_keeps}

-- what the law `read_messages_fit` says of a message that is read
abbrev pub Encodable : Type 0
Encodable = (bytes : List ℕ) (m : Message) → message_at bytes ≡ Some m → IsEncodable m

-- ---- a response

-- the routes after these entries
abbrev pub entries_taken : ℕ → ℕ → ℕ → List Entry → Routes → Routes
entries_taken port cost now es routes = fold (λ r e. entry_taken port cost e now r) routes es

-- what an entry does to a network that it tells of
abbrev Takes : (Option Held → Type 0) → ℕ → ℕ → ℕ → Network → Entry → Type 0
Takes P port cost now n e = destination_of e ≡ Some n → (full : Bool) (o : Option Held) → P o → P (route_after full port e.tag (metric_with_cost cost e) now o)

taken_at : (c : Puts) (P : Option Held → Type 0) (port cost now : ℕ) (n : Network) (e : Entry) (to : Option Network) (routes : Routes) → destination_of e ≡ to
    → Takes P port cost now n e → P (held_at routes n) → P (held_at (entry_taken_at port cost e now routes to) n)
taken_at c P port cost now n e None routes t takes before = before
taken_at c P port cost now n e (Some k) routes t takes before =
    put_keeps c P routes k n (route_after (is_full routes) port e.tag (metric_with_cost cost e) now (held_at routes k)) before
    (λ same. subst (λ (m : Network). P (route_after (is_full routes) port e.tag (metric_with_cost cost e) now (held_at routes m))) (sym same)
    (takes (t ∙ ap (λ (m : Network). Some m) same) (is_full routes) (held_at routes n) before))

taken_each : (c : Puts) (P : Option Held → Type 0) (port cost now : ℕ) (n : Network) (es : List Entry) (routes : Routes)
    → AllByRecursion (Takes P port cost now n) es → P (held_at routes n) → P (held_at (entries_taken port cost now es routes) n)
taken_each c P port cost now n [] routes all before = before
taken_each c P port cost now n (e ∷ es) routes all before =
    taken_each c P port cost now n es (entry_taken port cost e now routes) all.1 (taken_at c P port cost now n e (destination_of e) routes refl all.0 before)

each_among : (es : List Entry) (Q : Entry → Type 0) → ((e : Entry) → Contains es e → Q e) → (xs : List Entry) → AllByRecursion (Contains es) xs → AllByRecursion Q xs
each_among es Q given [] all = tt
each_among es Q given (x ∷ xs) all = (given x all.0, each_among es Q given xs all.1)

pub taken_keeps : (c : Puts) (P : Option Held → Type 0) (port cost now : ℕ) (n : Network) (es : List Entry) (routes : Routes)
    → ((e : Entry) → Contains es e → Takes P port cost now n e) → P (held_at routes n) → P (held_at (entries_taken port cost now es routes) n)
taken_keeps c P port cost now n es routes takes before =
    taken_each c P port cost now n es routes
    (each_among es (Takes P port cost now n) takes es (recursion_from_All (Contains es) es (All-contains_itself es))) before

-- ---- a command

pub record MaySet (metric : ℕ) : Type 0 where
  pub least : 1 ≤ metric
  pub most : metric ≤ 15

may_set : (network : Bool) (room : Bool) (metric : ℕ) → (network && nat_le 1 metric && nat_le metric 15 && room) ≡ true → MaySet metric
may_set true room metric t = record { least = grind (arith, nat_tests, and_true); most = grind (arith, nat_tests, and_true) }
may_set false room metric t = absurd cc

set_keeps : (c : Puts) (P : Option Held → Type 0) (address len metric now : ℕ) (n : Network) (routes : Routes)
    → ((full : Bool) → MaySet metric → P (connected full metric now (held_at routes n))) → P (held_at routes n) → P (held_at (set routes address len metric now) n)
set_keeps c P address len metric now n routes sets before =
    let k : Network = (address, len) in
    choose (λ (r : Routes). P (held_at r n)) (is_network address len && nat_le 1 metric && nat_le metric 15 && has_room_for_own routes address len)
    (with_own routes address len metric now) routes
    (λ t. put_keeps c P routes k n (connected (is_full routes) metric now (held_at routes k)) before
    (λ same. subst (λ (m : Network). P (connected (is_full routes) metric now (held_at routes m))) (sym same)
    (sets (is_full routes) (may_set (is_network address len) (has_room_for_own routes address len) metric t))))
    (λ _. before)

withdraw_keeps : (c : Puts) (P : Option Held → Type 0) (address len now : ℕ) (n : Network) (routes : Routes)
    → P (option_map (withdrawn now) (held_at routes n)) → P (held_at routes n) → P (held_at (withdraw routes address len now) n)
withdraw_keeps c P address len now n routes withdraws before =
    let k : Network = (address, len) in
    choose (λ (r : Routes). P (held_at r n)) (is_network address len) (without_own routes address len now) routes
    (λ _. put_keeps c P routes k n (option_map (withdrawn now) (held_at routes k)) before
    (λ same. subst (λ (m : Network). P (option_map (withdrawn now) (held_at routes m))) (sym same) withdraws))
    (λ _. before)

pub command_keeps : (c : Puts) (P : Option Held → Type 0) (now : ℕ) (body : List ℕ) (n : Network) (routes : Routes)
    → ((full : Bool) (metric : ℕ) → MaySet metric → P (connected full metric now (held_at routes n)))
    → P (option_map (withdrawn now) (held_at routes n)) → P (held_at routes n) → P (held_at (commanded now body routes) n)
unfolding commanded
command_keeps c P now body n routes sets withdraws before =
    let address = address_at_1 body in
    let len = slice_index body 5 in
    let metric = big_number 2 (drop 6 body) in
    choose (λ (r : Routes). P (held_at r n)) (is_setting body) (set routes address len metric now) _
    (λ _. set_keeps c P address len metric now n routes (λ full may. sets full metric may) before)
    (λ _. choose (λ (r : Routes). P (held_at r n)) (is_withdrawal body) (withdraw routes address len now) routes
    (λ _. withdraw_keeps c P address len now n routes withdraws before) (λ _. before))

-- ---- a step

-- P holds of what is held at the network at each place where a step of this input may come to an end
pub record Keeps (P : Option Held → Type 0) (s : RipState) (i : Input) (n : Network) : Type 0 where
  pub start : P (held_at s.routes n)
  pub settle : (o : Option Held) → P o → P (option_map settled o)
  pub tick : (group : ℕ) → i ≡ input.Tick group → P (held_at (ticked group s.routes) n)
  pub command : (body : List ℕ) → i ≡ input.Cmd body → P (held_at (commanded s.last_tick body s.routes) n)
  pub down : (port : ℕ) → i ≡ input.Down port → P (held_at (all_changed (port_lost port s.last_tick) s.routes) n)
  pub response : (port : ℕ) (es : List Entry) → IsResponse s i port es → P (held_at (entries_taken port (slice_index s.costs port) s.last_tick es s.routes) n)

pub settle_at : (P : Option Held → Type 0) → ((o : Option Held) → P o → P (option_map settled o)) → (routes : Routes) (n : Network) → P (held_at routes n) → P (held_at (all_changed settled routes) n)
settle_at P settle routes n here = subst P (sym (changed_at settled routes n)) (settle (held_at routes n) here)

pub sent_keeps : (P : Option Held → Type 0) → ((o : Option Held) → P o → P (option_map settled o)) → (s : RipState) (n : Network) → P (held_at s.routes n) → P (held_at (triggered_sent s).routes n)
sent_keeps P settle s n here =
    choose (λ (t : RipState). P (held_at t.routes n)) (any_changed s.routes) (with_routes s (all_changed settled s.routes)) s (λ _. settle_at P settle s.routes n here) (λ _. here)

pub there_by : (port ports : ℕ) → nat_lt port ports ≡ true → port < ports
there_by port ports t = grind (arith, nat_tests)

-- a message that isn't a request is a response
command_is : (m : Message) → IsEncodable m → (m.command == 1) ≡ false → m.command ≡ 2
command_is m is other = elim is.command [
  | inl one ↦ let t : (m.command == 1) ≡ true = (Decides-eqb m.command 1).1 one in let e : true ≡ false = sym t ∙ other in absurd cc
  | inr two ↦ two
]

message_keeps : (read : Encodable) (P : Option Held → Type 0) (s : RipState) (i : Input) (n : Network) (k : Keeps P s i n) (port : ℕ) (body : List ℕ) (found : Option Message)
    → message_at body ≡ found → i ≡ input.Msg port body → port < length s.costs → P (held_at (routes_after_message s port found) n)
message_keeps read P s i n k port body None says comes there = k.start
message_keeps read P s i n k port body (Some m) says comes there =
    let Q : Routes → Type 0 = λ r. P (held_at r n) in
    let cost = slice_index s.costs port in
    choose Q (m.command == 1) s.routes (response_taken port cost s.last_tick s.routes m.entries) (λ _. k.start)
    (λ no. choose Q (is_authenticated m.entries) s.routes (entries_taken port cost s.last_tick m.entries s.routes) (λ _. k.start)
    (λ plain. k.response port m.entries (record {
      body = body;
      comes = comes;
      there = there;
      says = says ∙ ap (λ (command : ℕ). Some (record { command = command; entries = m.entries })) (command_is m (read body m says) no);
      plain = plain;
    })))

handled_keeps : (read : Encodable) (P : Option Held → Type 0) (s : RipState) (i : Input) (n : Network) → Keeps P s i n → P (held_at (handled s i).routes n)
handled_keeps read P s (input.Tick group) n k =
    choose (λ (r : Routes). P (held_at r n)) (is_update_due s group) (all_changed settled (ticked group s.routes)) (ticked group s.routes)
    (λ _. settle_at P k.settle (ticked group s.routes) n (k.tick group refl)) (λ _. k.tick group refl)
handled_keeps read P s (input.Cmd body) n k = k.command body refl
handled_keeps read P s (input.Down port) n k =
    choose (λ (t : RipState). P (held_at t.routes n)) (has_port s port) (with_routes s (all_changed (port_lost port s.last_tick) s.routes)) s (λ _. k.down port refl) (λ _. k.start)
handled_keeps read P s (input.Up port) n k = k.start
handled_keeps read P s (input.Msg port body) n k =
    choose (λ (t : RipState). P (held_at t.routes n)) (has_port s port) (with_routes s (routes_after_message s port (message_at body))) s
    (λ t. message_keeps read P s (input.Msg port body) n k port body (message_at body) refl refl (there_by port (length s.costs) t)) (λ _. k.start)

pub step_keeps : (read : Encodable) (P : Option Held → Type 0) (s : RipState) (ports : ℕ) (i : Input) (n : Network) → Keeps P s i n → P (held_at (rip_after s ports i).routes n)
step_keeps read P s ports i n k =
    choose (λ (t : RipState). P (held_at t.routes n)) (is_passed_over s i) s (triggered_sent (handled s i)) (λ _. k.start)
    (λ _. sent_keeps P k.settle (handled s i) n (handled_keeps read P s i n k))
