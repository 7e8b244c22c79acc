-- Each call leaves a sound table.
use Rattle.std.proofs.Common.{◌≡◌, ℕ, Bool, true, false, cond, not, ◌&&◌, ◌||◌, ◌==◌, ◌+◌, ◌-◌, ◌≤◌, ◌<◌, ◌^◌, List, [], ◌∷◌, length, filter, Option, Some, None, refl, sym, ap, subst, ◌∙◌, arith}
use Rattle.std.specs.Prelude.{IfSome, is_some, nat_le, nat_lt, option_and_then, option_map}
use Rattle.std.specs.List.{AllByRecursion}
use Rattle.std.specs.List.Sorted.{IsStrictlySortedBy}
use Rattle.std.specs.Map.{keys_of}
use Rattle.std.specs.BTreeMap.{insert_entry, is_at}
use Rattle.std.specs.declared.cmp.Ordering.{Ordering}
use Rattle.std.specs.declared.cmp.Ordering.TheVariants.{Less, Equal, Greater}
use Rattle.std.specs.Ordering.{is_eq, match_ordering, ordering_reverse}
use Rattle.std.proofs.lemmas.Bool.Decides.{nat_tests}
use Rattle.std.proofs.lemmas.List.{length-map}
use Rattle.std.proofs.lemmas.List.Elements.{All-from_recursion, recursion_from_All}
use Rattle.std.proofs.lemmas.Map.{length-set_value}
use Rattle.std.proofs.lemmas.Map.Keys.{sorted_head, sorted_tail}
use Rattle.std.proofs.lemmas.Map.Views.{All-keys-insert_entry}
use Rattle.std.proofs.lemmas.Option.{cond_some, none-some}
use Rattle.dn_net.specs.Networks.{Network, is_network, mask_len, network_cmp}
use Rattle.rip_wire.specs.Constants.{infinity}
use Rattle.rip_wire.specs.declared.entry.Entry.{Entry}
use Rattle.rip_wire.specs.Entries.{FitsEntry}
use Rattle.rip_table.specs.declared.held.Held.{Held}
use Rattle.rip_table.specs.Held.{is_current, is_gone, is_lost_via, is_own, is_reachable, is_timed_out, is_via, learnt, lost, refreshed, settled}
use Rattle.rip_table.specs.Own.{connected, own, own_at, own_count, with_own, withdrawn, without_own}
use Rattle.rip_table.specs.Response.{entry_taken, entry_taken_at, existing_after, metric_with_cost, route_after}
use Rattle.rip_table.specs.Routes.{Routes, all_changed, held_at, is_full, put}
use Rattle.rip_table.specs.Sound.{IsSoundRoute, IsSoundTable}
use Rattle.rip_table.specs.Timers.{port_lost, ticked, timed_out}
use Rattle.rip_table.specs.Validation.{destination_of, destination_with_len, is_valid_destination, is_valid_route}
use Rattle.rip_table.proofs.OwnLaws.{gone_is_not, heard_own, lost_is_not, own_changed, own_kept, own_put, port_same, timed_same}
use Rattle.rip_table.proofs.RouteLaws.{exact_networks, networks_total, put_here, written}

abbrev Rises : Routes → Type 0
Rises es = IsStrictlySortedBy network_cmp (keys_of es)

-- the networks of these routes are above this one
abbrev IsBelow : Network → Routes → Type 0
IsBelow n es = AllByRecursion (λ k. network_cmp n k ≡ Less) (keys_of es)

choose : {A : Type 0} (P : A → Type 0) (b : Bool) (x y : A) → (b ≡ true → P x) → (b ≡ false → P y) → P (cond b x y)
choose P true x y f g = f refl
choose P false x y f g = g refl

-- ---- a route that is put

below_more : (n : Network) (k : Network) (ks : List Network) → network_cmp n k ≡ Less → AllByRecursion (λ j. network_cmp k j ≡ Less) ks → AllByRecursion (λ j. network_cmp n j ≡ Less) ks
below_more n k [] less all = tt
below_more n k (j ∷ ks) less all = (networks_total.trans n k j less all.0, below_more n k ks less all.1)

below_put : (k n : Network) (h : Held) (es : Routes) → network_cmp k n ≡ Less → IsBelow k es → IsBelow k (insert_entry network_cmp es n h)
below_put k n h es less all =
    recursion_from_All (λ (j : Network). network_cmp k j ≡ Less) (keys_of (insert_entry network_cmp es n h))
    (All-keys-insert_entry network_cmp n h (λ (j : Network). network_cmp k j ≡ Less) es (All-from_recursion (λ (j : Network). network_cmp k j ≡ Less) (keys_of es) all) less)

rises_by : (o : Ordering) (n : Network) (h : Held) (e : Network × Held) (es : Routes) → network_cmp n e.0 ≡ o → Rises (e ∷ es) → Rises (insert_entry network_cmp es n h)
    → Rises (match_ordering o ((n, h) ∷ e ∷ es) ((e.0, h) ∷ es) (e ∷ insert_entry network_cmp es n h))
unfolding IsStrictlySortedBy
rises_by Less n h e es t up more = ((t, below_more n e.0 (keys_of es) t (sorted_head network_cmp e.0 (keys_of es) up)), up)
rises_by Equal n h e es t up more = up
rises_by Greater n h e es t up more =
    let under : network_cmp e.0 n ≡ Less = networks_total.antisymm e.0 n ∙ ap ordering_reverse t in
    (below_put e.0 n h es under (sorted_head network_cmp e.0 (keys_of es) up), more)

rises_put : (n : Network) (h : Held) (es : Routes) → Rises es → Rises (insert_entry network_cmp es n h)
unfolding IsStrictlySortedBy
rises_put n h [] up = (tt, tt)
rises_put n h (e ∷ es) up = rises_by (network_cmp n e.0) n h e es refl up (rises_put n h es (sorted_tail network_cmp e.0 (keys_of es) up))

each_by : (P : Network × Held → Type 0) (o : Ordering) (n : Network) (h : Held) (e : Network × Held) (es rest : Routes) → network_cmp n e.0 ≡ o
    → P (n, h) → P e → AllByRecursion P es → AllByRecursion P rest → AllByRecursion P (match_ordering o ((n, h) ∷ e ∷ es) ((e.0, h) ∷ es) (e ∷ rest))
each_by P Less n h e es rest t new here all more = (new, (here, all))
each_by P Equal n h e es rest t new here all more = (subst (λ (m : Network). P (m, h)) (exact_networks n e.0 t) new, all)
each_by P Greater n h e es rest t new here all more = (here, more)

each_put : (P : Network × Held → Type 0) (n : Network) (h : Held) (es : Routes) → P (n, h) → AllByRecursion P es → AllByRecursion P (insert_entry network_cmp es n h)
each_put P n h [] new all = (new, tt)
each_put P n h (e ∷ es) new all = each_by P (network_cmp n e.0) n h e es (insert_entry network_cmp es n h) refl new all.0 all.1 (each_put P n h es new all.1)

long_by : (o : Ordering) (n : Network) (h : Held) (e : Network × Held) (es rest : Routes) → length rest ≤ length es + 1
    → length (match_ordering o ((n, h) ∷ e ∷ es) ((e.0, h) ∷ es) (e ∷ rest)) ≤ length (e ∷ es) + 1
long_by Less n h e es rest le = omega arith
long_by Equal n h e es rest le = omega arith
long_by Greater n h e es rest le = omega (arith, le)

one_more : (n : Network) (h : Held) (es : Routes) → length (insert_entry network_cmp es n h) ≤ length es + 1
one_more n h [] = omega arith
one_more n h (e ∷ es) = long_by (network_cmp n e.0) n h e es (insert_entry network_cmp es n h) (one_more n h es)

not_full : (k : ℕ) → nat_le 65535 k ≡ false → k + 1 ≤ 65535
not_full k free = grind (arith, nat_tests)

few_put : (n : Network) (h : Held) (held : Option Held) (es : Routes) → held_at es n ≡ held → Rises es → (held ≡ None → is_full es ≡ false) → length es ≤ 65535
    → length (insert_entry network_cmp es n h) ≤ 65535
few_put n h None es found up room few = omega (arith, one_more n h es, not_full (length es) (room refl))
few_put n h (Some v) es found up room few =
    let same : length (insert_entry network_cmp es n h) ≡ length es =
    ap (λ (x : Routes). length x) (sym (written n h v es up found)) ∙ length-set_value (is_at (network_cmp n)) es h in
    omega (arith, same, few)

-- a route is put where one was, or where there is room
sound_put : (ports now : ℕ) (n : Network) (route : Option Held) (es : Routes) → IfSome route (λ h. IsSoundRoute ports now (n, h))
    → (is_some route ≡ true → held_at es n ≡ None → is_full es ≡ false) → own_count (put es n route) ≤ 32
    → IsSoundTable ports now es → IsSoundTable ports now (put es n route)
sound_put ports now n None es new room own sound = sound
sound_put ports now n (Some h) es new room own sound = record {
  rising = rises_put n h es sound.rising;
  each = each_put (IsSoundRoute ports now) n h es new sound.each;
  few = few_put n h (held_at es n) es refl sound.rising (room refl) sound.few;
  own = own;
}

-- ---- the route that is held

held_by : (P : Network × Held → Type 0) (o : Ordering) (n : Network) (e : Network × Held) (found : Option Held) → network_cmp n e.0 ≡ o → P e
    → IfSome found (λ h. P (n, h)) → IfSome (cond (is_eq o) (Some e.1) found) (λ h. P (n, h))
held_by P Less n e found t here more = more
held_by P Equal n e found t here more = subst (λ (m : Network). P (m, e.1)) (sym (exact_networks n e.0 t)) here
held_by P Greater n e found t here more = more

held_is : (P : Network × Held → Type 0) (n : Network) (es : Routes) → AllByRecursion P es → IfSome (held_at es n) (λ h. P (n, h))
held_is P n [] all = tt
held_is P n (e ∷ es) all = held_by P (network_cmp n e.0) n e (held_at es n) refl all.0 (held_is P n es all.1)

-- ---- timers that have just begun

no_time : (now : ℕ) → (now - now) ≡ 0
no_time now = omega arith

not_timed_out : (a b : Bool) (now : ℕ) → (a && b && nat_le 180 (now - now)) ≡ false
not_timed_out true true now = rw (no_time now) refl
not_timed_out true false now = refl
not_timed_out false b now = refl

not_gone : (a : Bool) (now : ℕ) → (a && nat_le 120 (now - now)) ≡ false
not_gone true now = rw (no_time now) refl
not_gone false now = refl

-- ---- one route

sound_lost : (ports before now : ℕ) (n : Network) (h : Held) → IsSoundRoute ports before (n, h) → IsSoundRoute ports now (n, lost now h)
sound_lost ports before now n h sound = record {
  address = sound.address;
  network = sound.network;
  tag = sound.tag;
  least = omega arith;
  most = omega arith;
  via = sound.via;
  time = omega arith;
  heard = not_timed_out (not (is_own h)) false now;
  kept = not_gone true now;
}

sound_refreshed : (ports now : ℕ) (n : Network) (h : Held) → IsSoundRoute ports now (n, h) → IsSoundRoute ports now (n, refreshed now h)
sound_refreshed ports now n h sound = record {
  address = sound.address;
  network = sound.network;
  tag = sound.tag;
  least = sound.least;
  most = sound.most;
  via = sound.via;
  time = omega arith;
  heard = not_timed_out (not (is_own h)) (is_reachable h) now;
  kept = not_gone (not (is_reachable h)) now;
}

sound_settled : (ports now : ℕ) (e : Network × Held) → IsSoundRoute ports now e → IsSoundRoute ports now (e.0, settled e.1)
sound_settled ports now e sound = record {
  address = sound.address;
  network = sound.network;
  tag = sound.tag;
  least = sound.least;
  most = sound.most;
  via = sound.via;
  time = sound.time;
  heard = sound.heard;
  kept = sound.kept;
}

-- what an entry of a response tells of a network
record IsTold (e : Entry) (n : Network) : Type 0 where
  address : n.0 ≡ e.address
  network : is_network n.0 n.1 ≡ true
  valid : is_valid_destination n.0 n.1 ≡ true
  least : 1 ≤ e.metric

sound_learnt : (ports port m now : ℕ) (e : Entry) (n : Network) → port < ports → FitsEntry e → IsTold e n → 1 ≤ m → m ≤ 16 → IsSoundRoute ports now (n, learnt port e.tag m now)
sound_learnt ports port m now e n there fits told least most = record {
  address = omega (arith, told.address, fits.address);
  network = told.network;
  tag = fits.tag;
  least = least;
  most = most;
  via = (there, told.valid);
  time = omega arith;
  heard = not_timed_out true (nat_lt m infinity) now;
  kept = not_gone (not (nat_lt m infinity)) now;
}

sound_own : (ports m now : ℕ) (n : Network) (changed : Bool) → n.0 < 2 ^ 32 → is_network n.0 n.1 ≡ true → 1 ≤ m → m ≤ 16 → IsSoundRoute ports now (n, own m now changed)
sound_own ports m now n changed address network least most = record {
  address = address;
  network = network;
  tag = omega arith;
  least = least;
  most = most;
  via = tt;
  time = omega arith;
  heard = refl;
  kept = not_gone (not (nat_lt m infinity)) now;
}

-- ---- an entry of a response

not_both : (a b c : Bool) (n : ℕ) → (a && nat_le 1 n && c) ≡ true → 1 ≤ n
not_both a b c n t = grind (arith, nat_tests)

and_parts_of : (a b : Bool) → (a && b) ≡ true → (a ≡ true) × (b ≡ true)
and_parts_of true b t = (refl, t)
and_parts_of false b t = absurd cc

told_by : (b : Bool) (len : Option ℕ) (e : Entry) (n : Network) → is_valid_route e ≡ b → cond b (option_and_then (destination_with_len e.address) len) None ≡ Some n → IsTold e n
told_by false len e n t found = absurd (none-some n found)
told_by true None e n t found = absurd (none-some n found)
told_by true (Some len) e n t found =
    let both = cond_some (is_network e.address len && is_valid_destination e.address len) (e.address, len) n found in
    let parts = and_parts_of (is_network e.address len) (is_valid_destination e.address len) both.0 in
    record {
      address = sym (ap (λ (m : Network). m.0) both.1);
      network = subst (λ (m : Network). is_network m.0 m.1 ≡ true) both.1 parts.0;
      valid = subst (λ (m : Network). is_valid_destination m.0 m.1 ≡ true) both.1 parts.1;
      least = not_both (e.family == 2) true (nat_le e.metric 16) e.metric t;
    }

told : (e : Entry) (n : Network) → destination_of e ≡ Some n → IsTold e n
told e n found = told_by (is_valid_route e) (mask_len e.mask) e n refl found

existing_is : (P : Held → Type 0) (port tag m now : ℕ) (h : Held) → P h → P (learnt port tag m now) → P (refreshed now h) → P (lost now h) → P (existing_after port tag m now h)
existing_is P port tag m now h old new again gone =
    choose P (is_current h) h _ (λ _. old)
    (λ _. choose P (is_via port h && m == h.metric && nat_lt m infinity) (refreshed now h) _ (λ _. again)
    (λ _. choose P (is_via port h && m == h.metric) h _ (λ _. old)
    (λ _. choose P (is_via port h && nat_lt m infinity) (learnt port tag m now) _ (λ _. new)
    (λ _. choose P (is_via port h) (lost now h) _ (λ _. gone)
    (λ _. choose P (nat_lt m h.metric) (learnt port tag m now) h (λ _. new) (λ _. old))))))

route_is : (ports : ℕ) (n : Network) (full : Bool) (port tag m now : ℕ) (held : Option Held) → IfSome held (λ h. IsSoundRoute ports now (n, h))
    → IsSoundRoute ports now (n, learnt port tag m now) → IfSome (route_after full port tag m now held) (λ h. IsSoundRoute ports now (n, h))
route_is ports n full port tag m now None old new =
    choose (λ (o : Option Held). IfSome o (λ h. IsSoundRoute ports now (n, h))) (nat_lt m infinity && not full) (Some (learnt port tag m now)) None (λ _. new) (λ _. tt)
route_is ports n full port tag m now (Some h) old new =
    existing_is (λ (x : Held). IsSoundRoute ports now (n, x)) port tag m now h old new (sound_refreshed ports now n h old) (sound_lost ports now now n h old)

room_by : (b full : Bool) (h : Held) → is_some (cond (b && not full) (Some h) None) ≡ true → full ≡ false
room_by true true h t = absurd cc
room_by true false h t = refl
room_by false full h t = absurd cc

route_room : (full : Bool) (port tag m now : ℕ) (held : Option Held) → is_some (route_after full port tag m now held) ≡ true → held ≡ None → full ≡ false
route_room full port tag m now None t none = room_by (nat_lt m infinity) full (learnt port tag m now) t
route_room full port tag m now (Some h) t none = absurd (none-some h (sym none))

sound_taken_at : (port cost : ℕ) (e : Entry) (ports now : ℕ) (es : Routes) (to : Option Network) → destination_of e ≡ to → port < ports → FitsEntry e
    → IsSoundTable ports now es → IsSoundTable ports now (entry_taken_at port cost e now es to)
sound_taken_at port cost e ports now es None t there fits sound = sound
sound_taken_at port cost e ports now es (Some n) t there fits sound =
    let m = metric_with_cost cost e in
    let from = told e n t in
    let least : 1 ≤ m = omega (arith, from.least) in
    let most : m ≤ 16 = omega arith in
    let route = route_after (is_full es) port e.tag m now (held_at es n) in
    let same = heard_own (is_full es) port e.tag m now (held_at es n) route n es (put es n route) sound.rising refl refl refl in
    sound_put ports now n route es
    (route_is ports n (is_full es) port e.tag m now (held_at es n) (held_is (IsSoundRoute ports now) n es sound.each) (sound_learnt ports port m now e n there fits from least most))
    (route_room (is_full es) port e.tag m now (held_at es n)) (omega (arith, same, sound.own)) sound

pub sound_response : (port cost : ℕ) (e : Entry) (ports now : ℕ) (es : Routes) → port < ports → FitsEntry e → IsSoundTable ports now es → IsSoundTable ports now (entry_taken port cost e now es)
sound_response port cost e ports now es there fits sound = sound_taken_at port cost e ports now es (destination_of e) refl there fits sound

-- ---- own networks

at_most_one : (o : Option Held) → own_at o ≤ 1
at_most_one None = omega arith
at_most_one (Some h) = choose (λ (k : ℕ). k ≤ 1) (is_current h) 1 0 (λ _. omega arith) (λ _. omega arith)

connected_is : (ports : ℕ) (n : Network) (full : Bool) (m now : ℕ) (held : Option Held) → n.0 < 2 ^ 32 → is_network n.0 n.1 ≡ true → 1 ≤ m → m ≤ 16
    → IfSome (connected full m now held) (λ h. IsSoundRoute ports now (n, h))
connected_is ports n true m now None address network least most = tt
connected_is ports n false m now None address network least most = sound_own ports m now n true address network least most
connected_is ports n full m now (Some h) address network least most =
    sound_own ports m now n (not (is_own h) || not (h.metric == m) || h.changed) address network least most

connected_room : (full : Bool) (m now : ℕ) (held : Option Held) → is_some (connected full m now held) ≡ true → held ≡ None → full ≡ false
connected_room true m now None t none = absurd cc
connected_room false m now None t none = refl
connected_room full m now (Some h) t none = absurd (none-some h (sym none))

-- setting one makes at most one more of them
pub own_more : (address len m now : ℕ) (es : Routes) → Rises es → own_count (with_own es address len m now) + own_at (held_at es (address, len)) ≤ own_count es + 1
own_more address len m now es up =
    let n : Network = (address, len) in
    let route = connected (is_full es) m now (held_at es n) in
    omega (arith, own_put n route es up, at_most_one (held_at (put es n route) n))

pub sound_connect : (address len m ports now : ℕ) (es : Routes) → address < 2 ^ 32 → is_network address len ≡ true → 1 ≤ m → m ≤ 16
    → own_count es < 32 + own_at (held_at es (address, len)) → IsSoundTable ports now es → IsSoundTable ports now (with_own es address len m now)
sound_connect address len m ports now es few network least most room sound =
    let n : Network = (address, len) in
    let route = connected (is_full es) m now (held_at es n) in
    let more = own_more address len m now es sound.rising in
    sound_put ports now n route es (connected_is ports n (is_full es) m now (held_at es n) few network least most)
    (connected_room (is_full es) m now (held_at es n)) (omega (arith, more, room)) sound

none_by : (now : ℕ) (held : Option Held) → option_map (withdrawn now) held ≡ None → held ≡ None
none_by now None t = refl
none_by now (Some h) t = absurd (none-some (withdrawn now h) (sym t))

withdrawn_room : (now : ℕ) (held : Option Held) (full : Bool) → is_some (option_map (withdrawn now) held) ≡ true → held ≡ None → full ≡ false
withdrawn_room now None full t none = absurd cc
withdrawn_room now (Some h) full t none = absurd (none-some h (sym none))

withdrawn_is : (ports now : ℕ) (n : Network) (held : Option Held) → IfSome held (λ h. IsSoundRoute ports now (n, h)) → IfSome (option_map (withdrawn now) held) (λ h. IsSoundRoute ports now (n, h))
withdrawn_is ports now n None old = tt
withdrawn_is ports now n (Some h) old = choose (λ (x : Held). IsSoundRoute ports now (n, x)) (is_current h) (lost now h) h (λ _. sound_lost ports now now n h old) (λ _. old)

none_own : (now : ℕ) (h : Held) → own_at (Some (lost now h)) ≤ own_at (Some h)
none_own now h =
    let none : own_at (Some (lost now h)) ≡ 0 = ap (λ (b : Bool). cond b 1 0) (lost_is_not now h) in
    omega (arith, none)

withdrawn_own : (now : ℕ) (held : Option Held) → own_at (option_map (withdrawn now) held) ≤ own_at held
withdrawn_own now None = omega arith
withdrawn_own now (Some h) = choose (λ (x : Held). own_at (Some x) ≤ own_at (Some h)) (is_current h) (lost now h) h (λ _. none_own now h) (λ _. omega arith)

pub sound_lose : (address len ports now : ℕ) (es : Routes) → IsSoundTable ports now es → IsSoundTable ports now (without_own es address len now)
sound_lose address len ports now es sound =
    let n : Network = (address, len) in
    let held = held_at es n in
    let route = option_map (withdrawn now) held in
    let counted = own_put n route es sound.rising in
    let here : held_at (put es n route) n ≡ route = put_here es n route (none_by now held) in
    let fewer : own_at (held_at (put es n route) n) ≤ own_at held = rw here (withdrawn_own now held) in
    sound_put ports now n route es (withdrawn_is ports now n held (held_is (IsSoundRoute ports now) n es sound.each))
    (withdrawn_room now held (is_full es)) (omega (arith, counted, fewer, sound.own)) sound

-- ---- a change of each route, and routes that are removed

keys_changed : (change : Held → Held) (es : Routes) → keys_of (all_changed change es) ≡ keys_of es
keys_changed change [] = refl
keys_changed change (e ∷ es) = ap (λ (ks : List Network). e.0 ∷ ks) (keys_changed change es)

length_changed : (change : Held → Held) (es : Routes) → length (all_changed change es) ≡ length es
length_changed change es = length-map {B = Network × Held} es (λ e. (e.0, change e.1))

each_changed : (P Q : Network × Held → Type 0) (change : Held → Held) → ((e : Network × Held) → P e → Q (e.0, change e.1)) → (es : Routes) → AllByRecursion P es → AllByRecursion Q (all_changed change es)
each_changed P Q change keeps [] all = tt
each_changed P Q change keeps (e ∷ es) all = (keeps e all.0, each_changed P Q change keeps es all.1)

sound_changed : (ports now : ℕ) (change : Held → Held) → ((e : Network × Held) → IsSoundRoute ports now e → IsSoundRoute ports now (e.0, change e.1)) → ((h : Held) → is_current (change h) ≡ is_current h)
    → (es : Routes) → IsSoundTable ports now es → IsSoundTable ports now (all_changed change es)
sound_changed ports now change keeps same es sound = record {
  rising = rw (keys_changed change es) sound.rising;
  each = each_changed (IsSoundRoute ports now) (IsSoundRoute ports now) change keeps es sound.each;
  few = omega (arith, length_changed change es, sound.few);
  own = omega (arith, own_changed change same es, sound.own);
}

pub sound_settle : (ports now : ℕ) (es : Routes) → IsSoundTable ports now es → IsSoundTable ports now (all_changed settled es)
sound_settle ports now es sound = sound_changed ports now settled (sound_settled ports now) (λ h. refl) es sound

pub sound_lose_port : (port ports now : ℕ) (es : Routes) → IsSoundTable ports now es → IsSoundTable ports now (all_changed (port_lost port now) es)
sound_lose_port port ports now es sound =
    sound_changed ports now (port_lost port now)
    (λ e old. choose (λ (x : Held). IsSoundRoute ports now (e.0, x)) (is_lost_via port e.1) (lost now e.1) e.1 (λ _. sound_lost ports now now e.0 e.1 old) (λ _. old))
    (port_same port now) es sound

below_left : (k : Network) (b : Bool) (e : Network × Held) (rest : Routes) → network_cmp k e.0 ≡ Less → IsBelow k rest → IsBelow k (cond b (e ∷ rest) rest)
below_left k true e rest here all = (here, all)
below_left k false e rest here all = all

below_kept : (k : Network) (test : Network × Held → Bool) (es : Routes) → IsBelow k es → IsBelow k (filter test es)
below_kept k test [] all = tt
below_kept k test (e ∷ es) all = below_left k (test e) e (filter test es) all.0 (below_kept k test es all.1)

rises_left : (b : Bool) (e : Network × Held) (rest : Routes) → IsBelow e.0 rest → Rises rest → Rises (cond b (e ∷ rest) rest)
unfolding IsStrictlySortedBy
rises_left true e rest under up = (under, up)
rises_left false e rest under up = up

rises_kept : (test : Network × Held → Bool) (es : Routes) → Rises es → Rises (filter test es)
rises_kept test [] up = up
rises_kept test (e ∷ es) up =
    rises_left (test e) e (filter test es) (below_kept e.0 test es (sorted_head network_cmp e.0 (keys_of es) up)) (rises_kept test es (sorted_tail network_cmp e.0 (keys_of es) up))

each_left : (P : Network × Held → Type 0) (b : Bool) (e : Network × Held) (rest : Routes) → (b ≡ true → P e) → AllByRecursion P rest → AllByRecursion P (cond b (e ∷ rest) rest)
each_left P true e rest here all = (here refl, all)
each_left P false e rest here all = all

each_kept : (P : Network × Held → Type 0) (test : Network × Held → Bool) (es : Routes) → AllByRecursion (λ e. test e ≡ true → P e) es → AllByRecursion P (filter test es)
each_kept P test [] all = tt
each_kept P test (e ∷ es) all = each_left P (test e) e (filter test es) all.0 (each_kept P test es all.1)

fewer_by : (b : Bool) (e : Network × Held) (es rest : Routes) → length rest ≤ length es → length (cond b (e ∷ rest) rest) ≤ length (e ∷ es)
fewer_by true e es rest le = omega (arith, le)
fewer_by false e es rest le = omega (arith, le)

fewer : (test : Network × Held → Bool) (es : Routes) → length (filter test es) ≤ length es
fewer test [] = omega arith
fewer test (e ∷ es) = fewer_by (test e) e es (filter test es) (fewer test es)

-- ---- a tick

not_true : (b : Bool) → not b ≡ true → b ≡ false
not_true true t = absurd cc
not_true false t = refl

-- a route that isn't removed
sound_later : (ports before now : ℕ) (e : Network × Held) → before ≤ now → IsSoundRoute ports before e → is_timed_out now e.1 ≡ false → not (is_gone now e.1) ≡ true → IsSoundRoute ports now e
sound_later ports before now e le sound heard there = record {
  address = sound.address;
  network = sound.network;
  tag = sound.tag;
  least = sound.least;
  most = sound.most;
  via = sound.via;
  time = omega (arith, sound.time, le);
  heard = heard;
  kept = not_true (is_gone now e.1) there;
}

sound_timed : (ports before now : ℕ) (e : Network × Held) → before ≤ now → IsSoundRoute ports before e → not (is_gone now (timed_out now e.1)) ≡ true → IsSoundRoute ports now (e.0, timed_out now e.1)
sound_timed ports before now e le sound =
    choose (λ (x : Held). not (is_gone now x) ≡ true → IsSoundRoute ports now (e.0, x)) (is_timed_out now e.1) (lost now e.1) e.1
    (λ _ _. sound_lost ports before now e.0 e.1 sound) (λ heard there. sound_later ports before now e le sound heard there)

pub sound_tick : (ports before now : ℕ) (es : Routes) → before ≤ now → IsSoundTable ports before es → IsSoundTable ports now (ticked now es)
sound_tick ports before now es le sound =
    let timed = all_changed (timed_out now) es in
    let test : Network × Held → Bool = λ e. not (is_gone now e.1) in
    record {
      rising = rises_kept test timed (rw (keys_changed (timed_out now) es) sound.rising);
      each = each_kept (IsSoundRoute ports now) test timed
          (each_changed (IsSoundRoute ports before) (λ e. not (is_gone now e.1) ≡ true → IsSoundRoute ports now e) (timed_out now) (λ e old. sound_timed ports before now e le old) es sound.each);
      few = omega (arith, fewer test timed, length_changed (timed_out now) es, sound.few);
      own = omega (arith, own_kept (λ h. not (is_gone now h)) (gone_is_not now) timed, own_changed (timed_out now) (timed_same now) es, sound.own);
    }

-- ---- the start

pub sound_empty : (ports : ℕ) → IsSoundTable ports 0 []
unfolding IsStrictlySortedBy
sound_empty ports = record { rising = tt; each = tt; few = omega arith; own = omega arith }

-- ---- a look-up

pub sound_held : (ports now : ℕ) (es : Routes) (n : Network) → IsSoundTable ports now es → IfSome (held_at es n) (λ h. IsSoundRoute ports now (n, h))
sound_held ports now es n sound = held_is (IsSoundRoute ports now) n es sound.each
