use Rattle.std.proofs.Common.{◌≡◌, ℕ, Bool, true, false, cond, ◌-◌, ◌*◌, ◌==◌, ◌^◌, ◌≤◌, ◌<◌, List, [], ◌∷◌, ◌++◌, length, map, drop, refl, ap, subst, arith, inl, inr, length-drop}
use Rattle.std.specs.Prelude.{All, Option, Some, None, IfSome, is_some}
use Rattle.std.specs.List.{AllByRecursion, range_with_len}
use Rattle.std.proofs.Math.Nat.{one-le-pow}
use Rattle.std.proofs.lemmas.List.{length-map, length-take}
use Rattle.std.proofs.lemmas.List.Elements.{All-cons, All-drop, All-from_recursion, All-map, All-nil, All-take, All-weaker}
use Rattle.dn_guest.specs.declared.input.Input.{Input}
use Rattle.dn_guest.specs.declared.input.Input.TheVariants as input
use Rattle.dn_guest.specs.declared.outbox.Output.{Output}
use Rattle.dn_guest.specs.Ports.{is_up}
use Rattle.dn_net.specs.Networks.{Network, is_network, mask_len, mask_of}
use Rattle.rip_wire.specs.declared.entry.Entry.{Entry}
use Rattle.rip_wire.specs.declared.message.Message.{Message}
use Rattle.rip_wire.specs.Entries.{FitsEntry}
use Rattle.rip_wire.specs.Messages.{IsEncodable}
use Rattle.rip_wire.specs.Reading.{message_at}
use Rattle.rip_table.specs.declared.held.Held.{Held}
use Rattle.rip_table.specs.Held.{is_via}
use Rattle.rip_table.specs.Routes.{Routes, any_changed, held_at}
use Rattle.rip_table.specs.Sound.{IsSoundRoute, IsSoundTable}
use Rattle.rip_table.specs.Timers.{ticked}
use Rattle.rip_table.specs.Updates.{split_horizon, update_entries, update_entry}
use Rattle.rip_guest.specs.Requests.{answered_entry, asks_for_all, is_authenticated, metric_at, metric_of, request_answers}
use Rattle.rip_guest.specs.Sound.{HasBytes, IsSent, IsSoundState}
use Rattle.rip_guest.specs.State.{RipState, has_port, up_ports}
use Rattle.rip_guest.specs.Step.{handled, handled_outs, is_passed_over, is_update_due, outs_of_message, rip_outs, tick_outs, triggered_update}
use Rattle.rip_guest.specs.Updates.{message_count, message_on, message_part, request_on, requests, responses_on, update_on, updates, whole_table_entry}
use Rattle.rip_guest.proofs.Choice.{choose}
use Rattle.rip_guest.proofs.Inputs.{same_ports, taken, there_by}
use Rattle.rip_guest.proofs.Lists.{each_append, each_below, each_filter, each_flat_map, each_map}
use Rattle.rip_guest.proofs.laws.sound_states_send_messages.Goals as goal

abbrev Laws : Type 0
Laws = goal.After-written_messages_are_read

-- each of these is sent on one of so many ports
abbrev AreSent : ℕ → List Output → Type 0
AreSent count outs = AllByRecursion (IsSent count) outs

sent_message : (c : Laws) (count port command : ℕ) (es : List Entry) → port < count → IsEncodable (record { command = command; entries = es }) → All FitsEntry es → IsSent count (message_on port command es)
sent_message c count port command es there encodable fit =
    let m : Message = record { command = command; entries = es } in
    record {
      port = there;
      bytes = c.written_messages_are_read.ensures.bytes m encodable;
      message = ap is_some (c.written_messages_are_read.ensures.read m encodable fit);
    }

-- ---- requests

ups : (ports count : ℕ) → AllByRecursion (λ p. p < count) (up_ports ports count)
ups ports count = each_filter (λ (p : ℕ). p < count) (is_up ports) (range_with_len 0 count) (each_below 0 count count (omega arith))

whole_fits : FitsEntry whole_table_entry
whole_fits = record { family = omega arith; tag = omega arith; address = omega arith; mask = omega arith; hop = omega arith; metric = omega arith }

sent_request : (c : Laws) (count port : ℕ) → port < count → IsSent count (request_on port)
sent_request c count port there =
    sent_message c count port 1 (whole_table_entry ∷ []) there (record { command = inl refl; least = omega arith; most = omega arith })
    (All-cons FitsEntry whole_table_entry [] whole_fits (All-nil FitsEntry))

sent_requests : (c : Laws) (ports count : ℕ) → AreSent count (requests ports count)
sent_requests c ports count = each_map (λ (p : ℕ). p < count) (IsSent count) request_on (sent_request c count) (up_ports ports count) (ups ports count)

-- ---- updates

part_least : (es : List Entry) (k : ℕ) → k < message_count es → 1 ≤ length (message_part es k)
part_least es k small = omega (arith, length-take 25 (drop (25 * k) es), length-drop (25 * k) es, small)

part_most : (es : List Entry) (k : ℕ) → length (message_part es k) ≤ 25
part_most es k = omega (arith, length-take 25 (drop (25 * k) es))

sent_responses : (c : Laws) (count port : ℕ) (es : List Entry) → port < count → All FitsEntry es → AreSent count (responses_on port es)
sent_responses c count port es there fit =
    each_map (λ (k : ℕ). k < message_count es) (IsSent count) (λ k. message_on port 2 (message_part es k))
    (λ k small. sent_message c count port 2 (message_part es k) there (record { command = inr refl; least = part_least es k small; most = part_most es k })
    (All-take FitsEntry 25 (drop (25 * k) es) (All-drop FitsEntry (25 * k) es fit)))
    (range_with_len 0 (message_count es)) (each_below 0 (message_count es) (message_count es) (omega arith))

told_most : (to : Option ℕ) (h : Held) → h.metric ≤ 16 → split_horizon to h ≤ 16
told_most None h most = most
told_most (Some port) h most = choose (λ (k : ℕ). k ≤ 16) (is_via port h) 16 h.metric (λ _. omega arith) (λ _. most)

mask_fits : (len : ℕ) → mask_of len < 2 ^ 32
mask_fits len =
    let some = one-le-pow (32 - len) 2 (omega arith) in
    omega (arith, some)

update_fits : (ports now : ℕ) (to : Option ℕ) (e : Network × Held) → IsSoundRoute ports now e → FitsEntry (update_entry to e)
update_fits ports now to e sound = record {
  family = omega arith;
  tag = sound.tag;
  address = sound.address;
  mask = mask_fits e.0.1;
  hop = omega arith;
  metric = omega (arith, told_most to e.1 sound.most);
}

updates_fit : (ports now : ℕ) (to : Option ℕ) (only : Bool) (routes : Routes) → AllByRecursion (IsSoundRoute ports now) routes → All FitsEntry (update_entries to only routes)
updates_fit ports now to only routes all =
    All-from_recursion FitsEntry (update_entries to only routes)
    (each_map (IsSoundRoute ports now) FitsEntry (update_entry to) (update_fits ports now to) _ (each_filter (IsSoundRoute ports now) _ routes all))

sent_update : (c : Laws) (count now : ℕ) (only : Bool) (routes : Routes) (port : ℕ) → AllByRecursion (IsSoundRoute count now) routes → port < count → AreSent count (update_on only routes port)
sent_update c count now only routes port all there =
    sent_responses c count port (update_entries (Some port) only routes) there (updates_fit count now (Some port) only routes all)

sent_updates : (c : Laws) (count now : ℕ) (only : Bool) (routes : Routes) (ports : ℕ) → AllByRecursion (IsSoundRoute count now) routes → AreSent count (updates only routes ports count)
sent_updates c count now only routes ports all =
    each_flat_map (λ (p : ℕ). p < count) (IsSent count) (update_on only routes) (λ p there. sent_update c count now only routes p all there) (up_ports ports count) (ups ports count)

-- ---- answers

held_most : (count now : ℕ) (n : Network) (held : Option Held) → IfSome held (λ h. IsSoundRoute count now (n, h)) → metric_of held ≤ 16
held_most count now n None sound = omega arith
held_most count now n (Some h) sound = sound.most

answer_most : (c : Laws) (count now : ℕ) (routes : Routes) (address : ℕ) (len : Option ℕ) → IsSoundTable count now routes → metric_at routes address len ≤ 16
answer_most c count now routes address None sound = omega arith
answer_most c count now routes address (Some len) sound =
    choose (λ (k : ℕ). k ≤ 16) (is_network address len) (metric_of (held_at routes (address, len))) 16
    (λ _. held_most count now (address, len) (held_at routes (address, len)) (c.sound_tables.ensures.held count now routes (address, len) sound)) (λ _. omega arith)

answer_fits : (c : Laws) (count now : ℕ) (routes : Routes) → IsSoundTable count now routes → (e : Entry) → FitsEntry e → FitsEntry (answered_entry routes e)
answer_fits c count now routes sound e fits = record {
  family = fits.family;
  tag = fits.tag;
  address = fits.address;
  mask = fits.mask;
  hop = fits.hop;
  metric = omega (arith, answer_most c count now routes e.address (mask_len e.mask) sound);
}

sent_answers : (c : Laws) (count now : ℕ) (routes : Routes) (port : ℕ) (m : Message) → IsSoundTable count now routes → port < count → IsEncodable m → All FitsEntry m.entries
    → AreSent count (request_answers routes port m.entries)
sent_answers c count now routes port m sound there encodable fit =
    let es = map (answered_entry routes) m.entries in
    let long = length-map m.entries (answered_entry routes) in
    choose (AreSent count) (is_authenticated m.entries) [] _ (λ _. tt)
    (λ _. choose (AreSent count) (asks_for_all m.entries) (update_on false routes port) (message_on port 2 es ∷ []) (λ _. sent_update c count now false routes port sound.each there)
    (λ _. (
      sent_message c count port 2 es there
          (record { command = inr refl; least = omega (arith, long, encodable.least); most = omega (arith, long, encodable.most) })
          (All-map FitsEntry (answered_entry routes) m.entries
          (All-weaker FitsEntry (λ (e : Entry). FitsEntry (answered_entry routes e)) (answer_fits c count now routes sound) m.entries fit)),
      tt,
    )))

sent_for_message : (c : Laws) (s : RipState) (port : ℕ) (found : Option Message) (body : List ℕ) → message_at body ≡ found → All (λ b. b < 2 ^ 8) body → port < length s.costs → IsSoundState s
    → AreSent (length s.costs) (outs_of_message s port found)
sent_for_message c s port None body read bytes there sound = tt
sent_for_message c s port (Some m) body read bytes there sound =
    choose (AreSent (length s.costs)) (m.command == 1) (request_answers s.routes port m.entries) []
    (λ _. sent_answers c (length s.costs) s.last_tick s.routes port m sound.routes there (c.read_messages_fit.ensures.encodable body m read) (c.read_messages_fit.ensures.entries body m bytes read))
    (λ _. tt)

-- ---- a step

sent_at_tick : (c : Laws) (ports : ℕ) (s : RipState) (group : ℕ) → s.last_tick ≤ group → IsSoundState s → AreSent (length s.costs) (tick_outs ports s group)
sent_at_tick c ports s group rises sound =
    let count = length s.costs in
    let routes = ticked group s.routes in
    let timed : IsSoundTable count group routes = c.sound_tables.ensures.tick count s.last_tick group s.routes rises sound.routes in
    each_append (IsSent count) (cond (group == 0) (requests ports count) []) (cond (is_update_due s group) (updates false routes ports count) [])
    (choose (AreSent count) (group == 0) (requests ports count) [] (λ _. sent_requests c ports count) (λ _. tt))
    (choose (AreSent count) (is_update_due s group) (updates false routes ports count) [] (λ _. sent_updates c count group false routes ports timed.each) (λ _. tt))

sent_before_end : (c : Laws) (ports : ℕ) (s : RipState) (i : Input) → HasBytes i → is_passed_over s i ≡ false → IsSoundState s → AreSent (length s.costs) (handled_outs ports s i)
sent_before_end c ports s (input.Tick group) bytes here sound = sent_at_tick c ports s group (taken s.last_tick group here).rises sound
sent_before_end c ports s (input.Cmd body) bytes here sound = tt
sent_before_end c ports s (input.Down port) bytes here sound = tt
sent_before_end c ports s (input.Up port) bytes here sound =
    choose (AreSent (length s.costs)) (has_port s port) (request_on port ∷ []) [] (λ t. (sent_request c (length s.costs) port (there_by port (length s.costs) t), tt)) (λ _. tt)
sent_before_end c ports s (input.Msg port body) bytes here sound =
    choose (AreSent (length s.costs)) (has_port s port) (outs_of_message s port (message_at body)) []
    (λ t. sent_for_message c s port (message_at body) body refl bytes (there_by port (length s.costs) t) sound) (λ _. tt)

sent_at_end : (c : Laws) (ports : ℕ) (s : RipState) → IsSoundState s → AreSent (length s.costs) (triggered_update ports s)
sent_at_end c ports s sound =
    choose (AreSent (length s.costs)) (any_changed s.routes) (updates true s.routes ports (length s.costs)) []
    (λ _. sent_updates c (length s.costs) s.last_tick true s.routes ports sound.routes.each) (λ _. tt)

sent : (c : Laws) (s : RipState) (ports : ℕ) (i : Input) → HasBytes i → IsSoundState s → AreSent (length s.costs) (rip_outs s ports i)
sent c s ports i bytes sound =
    choose (AreSent (length s.costs)) (is_passed_over s i) [] (handled_outs ports s i ++ triggered_update ports (handled s i)) (λ _. tt)
    (λ here. each_append (IsSent (length s.costs)) (handled_outs ports s i) (triggered_update ports (handled s i)) (sent_before_end c ports s i bytes here sound)
    (subst (λ (count : ℕ). AreSent count (triggered_update ports (handled s i))) (same_ports s i)
    (sent_at_end c ports (handled s i) (c.sound_states.ensures.handled s i bytes here sound))))

pub returns : goal.returns
returns c = sent c
