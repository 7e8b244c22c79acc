-- Inputs that change nothing.
use Rattle.std.proofs.Common.{◌≡◌, ℕ, Bool, true, false, ◌&&◌, ◌||◌, ◌==◌, ◌≤◌, cond, List, [], ◌∷◌, length, Some, None, refl, ap, ◌∙◌}
use Rattle.std.specs.Prelude.{drop, fold, nat_le, nat_lt, slice_index}
use Rattle.std.specs.List.{AllByRecursion}
use Rattle.std.proofs.lemmas.Bool.Decides.{Decides-eqb}
use Rattle.byteorder.specs.Endian.{big_number}
use Rattle.dn_guest.specs.declared.input.Input.TheVariants as input
use Rattle.dn_net.specs.Networks.{is_network}
use Rattle.rip_wire.specs.declared.entry.Entry.{Entry}
use Rattle.rip_wire.specs.declared.message.Message.{Message}
use Rattle.rip_wire.specs.Reading.{message_at}
use Rattle.rip_table.specs.Held.{settled}
use Rattle.rip_table.specs.Own.{own_count, with_own}
use Rattle.rip_table.specs.Response.{entry_taken, entry_taken_at}
use Rattle.rip_table.specs.Routes.{Routes, all_changed, any_changed, held_at}
use Rattle.rip_table.specs.Validation.{destination_of}
use Rattle.rip_guest.specs.Commands.{address_at_1, commanded, has_room_for_own, is_current_at, is_setting, set}
use Rattle.rip_guest.specs.Requests.{is_authenticated}
use Rattle.rip_guest.specs.Responses.{response_taken}
use Rattle.rip_guest.specs.State.{RipState, has_port, with_routes}
use Rattle.rip_guest.specs.Step.{handled, rip_after, routes_after_message, triggered_sent}
use Rattle.rip_laws.proofs.Choice.{and_true, choose, never}
use Rattle.rip_laws.proofs.Times.{not_below}

abbrev IsUnmarked : RipState → Type 0
IsUnmarked s = any_changed s.routes ≡ false

quiet_end : (s : RipState) → IsUnmarked s → triggered_sent s ≡ s
quiet_end s none = ap (λ (b : Bool). cond b (with_routes s (all_changed settled s.routes)) s) none

same_end : (s t : RipState) → IsUnmarked s → t ≡ s → triggered_sent t ≡ s
same_end s t none same = ap triggered_sent same ∙ quiet_end s none

-- ---- commands

set_to_full : (address len metric now : ℕ) (routes : Routes) → own_count routes ≡ 32 → is_current_at (held_at routes (address, len)) ≡ false → set routes address len metric now ≡ routes
set_to_full address len metric now routes full other =
    let room : has_room_for_own routes address len ≡ false = ap (λ (b : Bool). b || nat_lt (own_count routes) 32) other ∙ ap (λ (n : ℕ). nat_lt n 32) full in
    choose (λ (r : Routes). r ≡ routes) (is_network address len && nat_le 1 metric && nat_le metric 15 && has_room_for_own routes address len) (with_own routes address len metric now) routes
    (λ t. never (has_room_for_own routes address len) (and_true _ _ t).1 room) (λ _. refl)

full_command : (now : ℕ) (body : List ℕ) (routes : Routes) → own_count routes ≡ 32 → is_setting body ≡ true
    → is_current_at (held_at routes (address_at_1 body, slice_index body 5)) ≡ false → commanded now body routes ≡ routes
unfolding commanded
full_command now body routes full setting other =
    choose (λ (r : Routes). r ≡ routes) (is_setting body) (set routes (address_at_1 body) (slice_index body 5) (big_number 2 (drop 6 body)) now) _
    (λ _. set_to_full (address_at_1 body) (slice_index body 5) (big_number 2 (drop 6 body)) now routes full other) (λ no. never (is_setting body) setting no)

pub full_step : (s : RipState) (ports : ℕ) (body : List ℕ) → IsUnmarked s → own_count s.routes ≡ 32 → is_setting body ≡ true
    → is_current_at (held_at s.routes (address_at_1 body, slice_index body 5)) ≡ false → rip_after s ports (input.Cmd body) ≡ s
full_step s ports body none full setting other =
    same_end s (handled s (input.Cmd body)) none (ap (with_routes s) (full_command s.last_tick body s.routes full setting other))

-- ---- messages

pub no_port : (s : RipState) (ports port : ℕ) (body : List ℕ) → IsUnmarked s → length s.costs ≤ port → rip_after s ports (input.Msg port body) ≡ s
no_port s ports port body none past =
    same_end s (handled s (input.Msg port body)) none
    (ap (λ (b : Bool). cond b (with_routes s (routes_after_message s port (message_at body))) s) (not_below port (length s.costs) past))

pub same_routes : (s : RipState) (ports port : ℕ) (body : List ℕ) → IsUnmarked s → routes_after_message s port (message_at body) ≡ s.routes → rip_after s ports (input.Msg port body) ≡ s
same_routes s ports port body none same =
    same_end s (handled s (input.Msg port body)) none
    (choose (λ (t : RipState). t ≡ s) (has_port s port) (with_routes s (routes_after_message s port (message_at body))) s (λ _. ap (with_routes s) same) (λ _. refl))

pub no_message : (s : RipState) (port : ℕ) (body : List ℕ) → message_at body ≡ None → routes_after_message s port (message_at body) ≡ s.routes
no_message s port body says = ap (routes_after_message s port) says

pub request : (s : RipState) (port : ℕ) (body : List ℕ) (m : Message) → message_at body ≡ Some m → m.command ≡ 1 → routes_after_message s port (message_at body) ≡ s.routes
request s port body m says is =
    ap (routes_after_message s port) says
    ∙ choose (λ (r : Routes). r ≡ s.routes) (m.command == 1) s.routes (response_taken port (slice_index s.costs port) s.last_tick s.routes m.entries) (λ _. refl)
    (λ no. never (m.command == 1) ((Decides-eqb m.command 1).1 is) no)

pub if_response : (s : RipState) (port : ℕ) (body : List ℕ) (m : Message) → message_at body ≡ Some m
    → response_taken port (slice_index s.costs port) s.last_tick s.routes m.entries ≡ s.routes → routes_after_message s port (message_at body) ≡ s.routes
if_response s port body m says same =
    ap (routes_after_message s port) says
    ∙ choose (λ (r : Routes). r ≡ s.routes) (m.command == 1) s.routes (response_taken port (slice_index s.costs port) s.last_tick s.routes m.entries) (λ _. refl) (λ _. same)

pub authentication : (port cost now : ℕ) (routes : Routes) (es : List Entry) → is_authenticated es ≡ true → response_taken port cost now routes es ≡ routes
authentication port cost now routes es is =
    choose (λ (r : Routes). r ≡ routes) (is_authenticated es) routes (fold (λ r e. entry_taken port cost e now r) routes es) (λ _. refl) (λ no. never (is_authenticated es) is no)

passed_over : (port cost now : ℕ) (routes : Routes) (es : List Entry) → AllByRecursion (λ e. destination_of e ≡ None) es → fold (λ r e. entry_taken port cost e now r) routes es ≡ routes
passed_over port cost now routes [] all = refl
passed_over port cost now routes (e ∷ es) all =
    ap (λ (r : Routes). fold (λ q x. entry_taken port cost x now q) r es) (ap (entry_taken_at port cost e now routes) all.0) ∙ passed_over port cost now routes es all.1

pub no_destination : (port cost now : ℕ) (routes : Routes) (es : List Entry) → AllByRecursion (λ e. destination_of e ≡ None) es → response_taken port cost now routes es ≡ routes
no_destination port cost now routes es all =
    choose (λ (r : Routes). r ≡ routes) (is_authenticated es) routes (fold (λ r e. entry_taken port cost e now r) routes es) (λ _. refl) (λ _. passed_over port cost now routes es all)
