-- What is sent on a port tells no metric below 16 for a route by it.
use Rattle.std.proofs.Common.{◌≡◌, inl, inr, ℕ, zero, suc, Bool, true, false, not, ◌&&◌, ◌||◌, ◌==◌, ◌+◌, ◌*◌, ◌≤◌, ◌<◌, cond, List, [], ◌∷◌, ◌++◌, length, map, filter, drop, Option, Some, None, refl, sym, ap, subst, ◌∙◌, arith}
use Rattle.std.specs.Prelude.{All, IfSome, nat_lt, option_map, slice_index}
use Rattle.std.specs.List.{AllByRecursion, flat_map, range_with_len}
use Rattle.std.proofs.lemmas.List.Elements.{All-cons, All-drop, All-from_recursion, All-nil, All-take, recursion_from_All}
use Rattle.std.proofs.lemmas.Option.{none-some, same_Some}
use Rattle.std.proofs.lemmas.Bool.Decides.{Decides-eqb}
use Rattle.dn_guest.specs.declared.input.Input.{Input}
use Rattle.dn_guest.specs.declared.input.Input.TheVariants as input
use Rattle.dn_guest.specs.declared.outbox.Output.{Output}
use Rattle.dn_net.specs.Networks.{Network, is_network, mask_of}
use Rattle.rip_wire.specs.declared.entry.Entry.{Entry}
use Rattle.rip_wire.specs.declared.message.Message.{Message}
use Rattle.rip_wire.specs.Entries.{FitsEntry}
use Rattle.rip_wire.specs.Messages.{IsEncodable, message_bytes}
use Rattle.rip_wire.specs.Reading.{message_at}
use Rattle.rip_table.specs.declared.held.Held.{Held}
use Rattle.rip_table.specs.Held.{is_via, settled}
use Rattle.rip_table.specs.Routes.{Routes, all_changed, any_changed, held_at}
use Rattle.rip_table.specs.Sound.{IsSoundRoute, IsSoundTable}
use Rattle.rip_table.specs.Timers.{ticked}
use Rattle.rip_table.specs.Updates.{split_horizon, update_entries, update_entry}
use Rattle.rip_guest.specs.Requests.{asks_for_all, is_authenticated, request_answers}
use Rattle.rip_guest.specs.Responses.{response_taken}
use Rattle.rip_guest.specs.Sound.{HasBytes, IsSoundState}
use Rattle.rip_guest.specs.State.{RipState, has_port, up_ports, with_routes}
use Rattle.rip_guest.specs.Step.{handled, handled_outs, is_passed_over, is_update_due, outs_of_message, rip_after, rip_outs, routes_after_message, tick_outs, triggered_sent, triggered_update}
use Rattle.rip_guest.specs.Updates.{message_count, message_on, message_part, request_on, requests, responses_on, update_on, updates, whole_table_entry}
use Rattle.rip_laws.specs.Poisoned.{IsPoisoned, IsPoisonedEntry, asks_of_single, is_single_request}
use Rattle.rip_laws.proofs.Choice.{choose, never, not_false, or_false}
use Rattle.rip_laws.proofs.Fits.{part_least, part_most, same_len, short, update_fits, whole_fits}
use Rattle.rip_laws.proofs.Lookups.{changed_at, entries_are_held}
use Rattle.rip_laws.proofs.Times.{not_below_by}

-- what the laws of lower crates say
pub record Laws : Type 0 where
  pub read : (m : Message) → IsEncodable m → All FitsEntry m.entries → message_at (message_bytes m) ≡ Some m
  pub held : (ports now : ℕ) (routes : Routes) (n : Network) → IsSoundTable ports now routes → IfSome (held_at routes n) (λ h. IsSoundRoute ports now (n, h))
  pub tick : (ports before now : ℕ) (routes : Routes) → before ≤ now → IsSoundTable ports before routes → IsSoundTable ports now (ticked now routes)
  pub handled : (s : RipState) (i : Input) → HasBytes i → is_passed_over s i ≡ false → IsSoundState s → IsSoundState (handled s i)

-- ---- lists

each_append : {A : Type 0} (P : A → Type 0) (xs ys : List A) → AllByRecursion P xs → AllByRecursion P ys → AllByRecursion P (xs ++ ys)
each_append P [] ys all more = more
each_append P (x ∷ xs) ys all more = (all.0, each_append P xs ys all.1 more)

each_map : {A B : Type 0} (P : A → Type 0) (Q : B → Type 0) (f : A → B) → ((x : A) → P x → Q (f x)) → (xs : List A) → AllByRecursion P xs → AllByRecursion Q (map f xs)
each_map P Q f keeps [] all = tt
each_map P Q f keeps (x ∷ xs) all = (keeps x all.0, each_map P Q f keeps xs all.1)

each_made : {A : Type 0} (Q : Output → Type 0) (f : A → List Output) → ((x : A) → AllByRecursion Q (f x)) → (xs : List A) → AllByRecursion Q (flat_map f xs)
each_made Q f keeps [] = tt
each_made Q f keeps (x ∷ xs) = each_append Q (f x) (flat_map f xs) (keeps x) (each_made Q f keeps xs)

each_output : (Q : Output → Type 0) (f : ℕ → Output) → ((x : ℕ) → Q (f x)) → (xs : List ℕ) → AllByRecursion Q (map f xs)
each_output Q f keeps [] = tt
each_output Q f keeps (x ∷ xs) = (keeps x, each_output Q f keeps xs)

chosen : {A : Type 0} (P : A → Type 0) (b : Bool) (x : A) (xs : List A) → P x → AllByRecursion P xs → AllByRecursion P (cond b (x ∷ xs) xs)
chosen P true x xs here all = (here, all)
chosen P false x xs here all = all

each_filter : {A : Type 0} (P : A → Type 0) (test : A → Bool) (xs : List A) → AllByRecursion P xs → AllByRecursion P (filter test xs)
each_filter P test [] all = tt
each_filter P test (x ∷ xs) all = chosen P (test x) x (filter test xs) all.0 (each_filter P test xs all.1)

each_below : (from many most : ℕ) → from + many ≤ most → AllByRecursion (λ k. k < most) (range_with_len from many)
each_below from zero most le = tt
each_below from (suc many) most le = (omega arith, each_below (from + 1) many most (omega arith))

each_both : {A : Type 0} (P Q : A → Type 0) (xs : List A) → AllByRecursion P xs → AllByRecursion Q xs → AllByRecursion (λ x. P x × Q x) xs
each_both P Q [] all more = tt
each_both P Q (x ∷ xs) all more = ((all.0, more.0), each_both P Q xs all.1 more.1)

each_weaker : {A : Type 0} (P Q : A → Type 0) → ((x : A) → P x → Q x) → (xs : List A) → AllByRecursion P xs → AllByRecursion Q xs
each_weaker P Q keeps [] all = tt
each_weaker P Q keeps (x ∷ xs) all = (keeps x all.0, each_weaker P Q keeps xs all.1)

-- two values that are chosen by one test
both : {A B : Type 0} (P : A → B → Type 0) (b : Bool) (x y : A) (u v : B) → (b ≡ true → P x u) → (b ≡ false → P y v) → P (cond b x y) (cond b u v)
both P true x y u v f g = f refl
both P false x y u v f g = g refl

-- ---- an entry of an update

via_by : (v : Option ℕ) (port : ℕ) (h : Held) → h.via ≡ v → v ≡ Some port → is_via port h ≡ true
via_by None port h t e = absurd (none-some port e)
via_by (Some q) port h t e = rw t ((Decides-eqb q port).1 (same_Some q port e))

told_infinite : (port : ℕ) (h : Held) → h.via ≡ Some port → split_horizon (Some port) h ≡ 16
told_infinite port h via = ap (λ (b : Bool). cond b 16 h.metric) (via_by h.via port h refl via)

-- what holds of each entry of a table
abbrev IsEntry : ℕ → ℕ → Routes → Network × Held → Type 0
IsEntry count now routes e = IsSoundRoute count now e × (held_at routes e.0 ≡ Some e.1)

same_network : (a b : Network) → is_network a.0 a.1 ≡ true → is_network b.0 b.1 ≡ true → a.0 ≡ b.0 → mask_of a.1 ≡ mask_of b.1 → a ≡ b
same_network a b first second address mask =
    let len = same_len a.1 b.1 (short a first) (short b second) mask in
    λ i. (address i, len i)

poisoned_at : (count now : ℕ) (routes : Routes) (port : ℕ) (e : Network × Held) → IsEntry count now routes e → (n : Network) → e.0.0 ≡ n.0 → mask_of e.0.1 ≡ mask_of n.1
    → (o : Option Held) → held_at routes n ≡ o → IfSome o (λ h. IsSoundRoute count now (n, h)) → IfSome o (λ h. h.via ≡ Some port → split_horizon (Some port) e.1 ≡ 16)
poisoned_at count now routes port e is n address mask None found sound = tt
poisoned_at count now routes port e is n address mask (Some h) found sound = λ via.
    let same : e.0 ≡ n = same_network e.0 n is.0.network sound.network address mask in
    let there : Some e.1 ≡ Some h = sym is.1 ∙ ap (held_at routes) same ∙ found in
    told_infinite port e.1 (ap (λ (x : Held). x.via) (same_Some e.1 h there) ∙ via)

poisoned_entry : (c : Laws) (count now : ℕ) (routes : Routes) (port : ℕ) → IsSoundTable count now routes → (e : Network × Held) → IsEntry count now routes e → IsPoisonedEntry routes port (update_entry (Some port) e)
poisoned_entry c count now routes port sound e is = λ n address mask.
    poisoned_at count now routes port e is n address mask (held_at routes n) refl (c.held count now routes n sound)

-- an entry that tells that its network is unreachable
any_route : (port : ℕ) (e : Entry) → e.metric ≡ 16 → (o : Option Held) → IfSome o (λ h. h.via ≡ Some port → e.metric ≡ 16)
any_route port e far None = tt
any_route port e far (Some h) = λ _. far

poisoned_by : (routes : Routes) (port : ℕ) (e : Entry) → e.metric ≡ 16 → IsPoisonedEntry routes port e
poisoned_by routes port e far = λ n _ _. any_route port e far (held_at routes n)

-- ---- messages

poisoned_message : (c : Laws) (routes : Routes) (port command : ℕ) (es : List Entry) → IsEncodable (record { command = command; entries = es }) → All FitsEntry es
    → AllByRecursion (IsPoisonedEntry routes port) es → IsPoisoned routes (message_on port command es)
poisoned_message c routes port command es encodable fit all =
    let m : Message = record { command = command; entries = es } in
    subst (λ (o : Option Message). IfSome o (λ x. AllByRecursion (IsPoisonedEntry routes port) x.entries)) (sym (c.read m encodable fit)) all

poisoned_request : (c : Laws) (routes : Routes) (port : ℕ) → IsPoisoned routes (request_on port)
poisoned_request c routes port =
    poisoned_message c routes port 1 (whole_table_entry ∷ []) (record { command = inl refl; least = omega arith; most = omega arith })
    (All-cons FitsEntry whole_table_entry [] whole_fits (All-nil FitsEntry)) (poisoned_by routes port whole_table_entry refl, tt)

part : (P : Entry → Type 0) (es : List Entry) (k : ℕ) → AllByRecursion P es → AllByRecursion P (message_part es k)
part P es k all =
    recursion_from_All P (message_part es k) (All-take P 25 (drop (25 * k) es) (All-drop P (25 * k) es (All-from_recursion P es all)))

poisoned_responses : (c : Laws) (routes : Routes) (port : ℕ) (es : List Entry) → AllByRecursion FitsEntry es → AllByRecursion (IsPoisonedEntry routes port) es
    → AllByRecursion (IsPoisoned routes) (responses_on port es)
poisoned_responses c routes port es fit all =
    each_map (λ (k : ℕ). k < message_count es) (IsPoisoned routes) (λ k. message_on port 2 (message_part es k))
    (λ k small. poisoned_message c routes port 2 (message_part es k) (record { command = inr refl; least = part_least es k small; most = part_most es k })
    (All-from_recursion FitsEntry (message_part es k) (part FitsEntry es k fit)) (part (IsPoisonedEntry routes port) es k all))
    (range_with_len 0 (message_count es)) (each_below 0 (message_count es) (message_count es) (omega arith))

-- ---- updates

poisoned_update : (c : Laws) (count now : ℕ) (routes : Routes) → IsSoundTable count now routes → (only : Bool) (port : ℕ) → AllByRecursion (IsPoisoned routes) (update_on only routes port)
poisoned_update c count now routes sound only port =
    let P : Network × Held → Type 0 = IsEntry count now routes in
    let entries : AllByRecursion P routes = each_both (IsSoundRoute count now) (λ e. held_at routes e.0 ≡ Some e.1) routes sound.each (entries_are_held routes sound.rising) in
    let told = each_filter P _ routes entries in
    poisoned_responses c routes port (update_entries (Some port) only routes)
    (each_map P FitsEntry (update_entry (Some port)) (λ e is. update_fits count now port e is.0) _ told)
    (each_map P (IsPoisonedEntry routes port) (update_entry (Some port)) (poisoned_entry c count now routes port sound) _ told)

poisoned_updates : (c : Laws) (count now : ℕ) (routes : Routes) → IsSoundTable count now routes → (only : Bool) (ports many : ℕ) → AllByRecursion (IsPoisoned routes) (updates only routes ports many)
poisoned_updates c count now routes sound only ports many =
    each_made (IsPoisoned routes) (update_on only routes) (poisoned_update c count now routes sound only) (up_ports ports many)

-- ---- marks

settled_route : (port : ℕ) (e : Entry) (o : Option Held) → IfSome o (λ h. h.via ≡ Some port → e.metric ≡ 16) → IfSome (option_map settled o) (λ h. h.via ≡ Some port → e.metric ≡ 16)
settled_route port e None is = tt
settled_route port e (Some h) is = is

settled_entry : (routes : Routes) (port : ℕ) (e : Entry) → IsPoisonedEntry routes port e → IsPoisonedEntry (all_changed settled routes) port e
settled_entry routes port e is = λ n address mask.
    subst (λ (o : Option Held). IfSome o (λ h. h.via ≡ Some port → e.metric ≡ 16)) (sym (changed_at settled routes n)) (settled_route port e (held_at routes n) (is n address mask))

settled_message : (routes : Routes) (port : ℕ) (o : Option Message) → IfSome o (λ m. AllByRecursion (IsPoisonedEntry routes port) m.entries)
    → IfSome o (λ m. AllByRecursion (IsPoisonedEntry (all_changed settled routes) port) m.entries)
settled_message routes port None is = tt
settled_message routes port (Some m) is = each_weaker (IsPoisonedEntry routes port) (IsPoisonedEntry (all_changed settled routes) port) (settled_entry routes port) m.entries is

settled_outs : (routes : Routes) (outs : List Output) → AllByRecursion (IsPoisoned routes) outs → AllByRecursion (IsPoisoned (all_changed settled routes)) outs
settled_outs routes outs all = each_weaker (IsPoisoned routes) (IsPoisoned (all_changed settled routes)) (λ o is. settled_message routes o.port (message_at o.body) is) outs all

-- ---- a step

abbrev ArePoisoned : RipState → List Output → Type 0
ArePoisoned s outs = AllByRecursion (IsPoisoned s.routes) outs

rises_by : (tick group : ℕ) (rest : Bool) → (nat_lt group tick || rest) ≡ false → tick ≤ group
rises_by tick group rest t = not_below_by group tick (or_false (nat_lt group tick) rest t).0

poisoned_tick : (c : Laws) (ports : ℕ) (s : RipState) (group : ℕ) → s.last_tick ≤ group → IsSoundState s → ArePoisoned (handled s (input.Tick group)) (tick_outs ports s group)
poisoned_tick c ports s group rises sound =
    let count = length s.costs in
    let routes = ticked group s.routes in
    let asks = cond (group == 0) (requests ports count) [] in
    let tells = cond (is_update_due s group) (updates false routes ports count) [] in
    let timed : IsSoundTable count group routes = c.tick count s.last_tick group s.routes rises sound.routes in
    let all : AllByRecursion (IsPoisoned routes) (asks ++ tells) =
    each_append (IsPoisoned routes) asks tells
    (choose (AllByRecursion (IsPoisoned routes)) (group == 0) (requests ports count) [] (λ _. each_output (IsPoisoned routes) request_on (poisoned_request c routes) (up_ports ports count)) (λ _. tt))
    (choose (AllByRecursion (IsPoisoned routes)) (is_update_due s group) (updates false routes ports count) [] (λ _. poisoned_updates c count group routes timed false ports count) (λ _. tt)) in
    choose (λ (r : Routes). AllByRecursion (IsPoisoned r) (asks ++ tells)) (is_update_due s group) (all_changed settled routes) routes (λ _. settled_outs routes (asks ++ tells) all) (λ _. all)

asks_all : (b asks : Bool) → b ≡ true → (b && not asks) ≡ false → asks ≡ true
asks_all true asks t single = not_false asks single
asks_all false asks t single = absurd cc

poisoned_answer : (c : Laws) (s : RipState) (port : ℕ) (found : Option Message) → asks_of_single found ≡ false → IsSoundState s → AllByRecursion (IsPoisoned (routes_after_message s port found)) (outs_of_message s port found)
poisoned_answer c s port None single sound = tt
poisoned_answer c s port (Some m) single sound =
    both (λ (r : Routes) (outs : List Output). AllByRecursion (IsPoisoned r) outs) (m.command == 1) s.routes
    (response_taken port (slice_index s.costs port) s.last_tick s.routes m.entries) (request_answers s.routes port m.entries) []
    (λ asks. choose (AllByRecursion (IsPoisoned s.routes)) (is_authenticated m.entries) [] _ (λ _. tt)
    (λ _. choose (AllByRecursion (IsPoisoned s.routes)) (asks_for_all m.entries) (update_on false s.routes port) _
    (λ _. poisoned_update c (length s.costs) s.last_tick s.routes sound.routes false port)
    (λ other. never (asks_for_all m.entries) (asks_all (m.command == 1) (asks_for_all m.entries) asks single) other)))
    (λ _. tt)

poisoned_before_end : (c : Laws) (ports : ℕ) (s : RipState) (i : Input) → is_passed_over s i ≡ false → is_single_request i ≡ false → IsSoundState s → ArePoisoned (handled s i) (handled_outs ports s i)
poisoned_before_end c ports s (input.Tick group) here single sound = poisoned_tick c ports s group (rises_by s.last_tick group _ here) sound
poisoned_before_end c ports s (input.Cmd body) here single sound = tt
poisoned_before_end c ports s (input.Down port) here single sound = tt
poisoned_before_end c ports s (input.Up port) here single sound =
    choose (ArePoisoned s) (has_port s port) (request_on port ∷ []) [] (λ _. (poisoned_request c s.routes port, tt)) (λ _. tt)
poisoned_before_end c ports s (input.Msg port body) here single sound =
    both ArePoisoned (has_port s port) (with_routes s (routes_after_message s port (message_at body))) s (outs_of_message s port (message_at body)) []
    (λ _. poisoned_answer c s port (message_at body) single sound) (λ _. tt)

poisoned_end : (c : Laws) (ports : ℕ) (s : RipState) → IsSoundState s → ArePoisoned s (triggered_update ports s)
poisoned_end c ports s sound =
    choose (ArePoisoned s) (any_changed s.routes) (updates true s.routes ports (length s.costs)) []
    (λ _. poisoned_updates c (length s.costs) s.last_tick s.routes sound.routes true ports (length s.costs)) (λ _. tt)

sent_outs : (s : RipState) (outs : List Output) → ArePoisoned s outs → ArePoisoned (triggered_sent s) outs
sent_outs s outs all =
    choose (λ (t : RipState). ArePoisoned t outs) (any_changed s.routes) (with_routes s (all_changed settled s.routes)) s (λ _. settled_outs s.routes outs all) (λ _. all)

pub poisoned : (c : Laws) (s : RipState) (ports : ℕ) (i : Input) → HasBytes i → is_single_request i ≡ false → IsSoundState s → AllByRecursion (IsPoisoned (rip_after s ports i).routes) (rip_outs s ports i)
poisoned c s ports i bytes single sound =
    both ArePoisoned (is_passed_over s i) s (triggered_sent (handled s i)) [] (handled_outs ports s i ++ triggered_update ports (handled s i)) (λ _. tt)
    (λ here. sent_outs (handled s i) (handled_outs ports s i ++ triggered_update ports (handled s i))
    (each_append (IsPoisoned (handled s i).routes) (handled_outs ports s i) (triggered_update ports (handled s i))
    (poisoned_before_end c ports s i here single sound) (poisoned_end c ports (handled s i) (c.handled s i bytes here sound))))
