-- How many own networks can be reached: what changes it, and what doesn't.
use Rattle.std.proofs.Common.{◌≡◌, ℕ, ◌+◌, ◌-◌, ◌≤◌, ◌==◌, ◌&&◌, Bool, true, false, not, cond, List, [], ◌∷◌, Option, Some, None, length, filter, refl, sym, ap, ◌∙◌, arith}
use Rattle.std.specs.Prelude.{nat_le, nat_lt}
use Rattle.std.specs.Map.{keys_of, values_of}
use Rattle.std.specs.BTreeMap.{insert_entry, is_at}
use Rattle.std.specs.List.Sorted.{IsStrictlySortedBy}
use Rattle.std.specs.declared.cmp.Ordering.{Ordering}
use Rattle.std.specs.declared.cmp.Ordering.TheVariants.{Less, Equal, Greater}
use Rattle.std.specs.Ordering.{match_ordering}
use Rattle.std.proofs.lemmas.Map.Keys.{sorted_tail}
use Rattle.std.proofs.lemmas.Map.{lookup-none}
use Rattle.std.proofs.lemmas.Map.Entries.{none_below_head}
use Rattle.rip_wire.specs.Constants.{garbage_collection, infinity, timeout}
use Rattle.rip_table.specs.declared.held.Held.{Held}
use Rattle.rip_table.specs.Held.{is_current, is_gone, is_lost_via, is_own, is_reachable, is_timed_out, is_via, learnt, lost, refreshed}
use Rattle.dn_net.specs.Networks.{Network, network_cmp}
use Rattle.rip_table.specs.Own.{own_at, own_count}
use Rattle.rip_table.specs.Response.{existing_after, route_after}
use Rattle.rip_table.specs.Routes.{Routes, all_changed, held_at, put}
use Rattle.rip_table.specs.Timers.{port_lost, timed_out}
use Rattle.rip_table.proofs.RouteLaws.{held_here, kept_none, networks_total, put_here}

-- ---- one entry more

counted_by : (b : Bool) (h : Held) (hs : List Held) → length (cond b (h ∷ hs) hs) ≡ cond b 1 0 + length hs
counted_by true h hs = omega arith
counted_by false h hs = omega arith

counted : (e : Network × Held) (es : Routes) → own_count (e ∷ es) ≡ own_at (Some e.1) + own_count es
counted e es = counted_by (is_current e.1) e.1 (filter is_current (values_of es))

one_by : (b : Bool) → cond b 1 0 ≤ 1
one_by true = omega arith
one_by false = omega arith

one : (h : Held) → own_at (Some h) ≤ 1
one h = one_by (is_current h)

-- there are no more of them than routes
pub own_few : (es : Routes) → own_count es ≤ length es
own_few [] = omega arith
own_few (e ∷ es) = omega (arith, counted e es, one e.1, own_few es)

among_by : (b : Bool) (x : Held) (o : Option Held) (n : ℕ) → own_at o ≤ n → own_at (cond b (Some x) o) ≤ own_at (Some x) + n
among_by true x o n le = omega arith
among_by false x o n le = omega (arith, le)

-- the one that is held at a network is one of them
pub own_among : (n : Network) (es : Routes) → own_at (held_at es n) ≤ own_count es
own_among n [] = omega arith
own_among n (e ∷ es) = omega (arith, counted e es, among_by (is_at (network_cmp n) e.0) e.1 (held_at es n) (own_count es) (own_among n es))

pub own_there : (n : Network) (h : Held) (es : Routes) → held_at es n ≡ Some h → is_current h ≡ true → 1 ≤ own_count es
own_there n h es found current =
    let here : own_at (held_at es n) ≡ 1 = ap own_at found ∙ ap (λ (b : Bool). cond b 1 0) current in
    omega (arith, own_among n es, here)

-- ---- a route that is put

put_by : (o : Ordering) (n : Network) (h : Held) (e : Network × Held) (es : Routes) → network_cmp n e.0 ≡ o
    → IsStrictlySortedBy network_cmp (keys_of (e ∷ es))
    → own_count (insert_entry network_cmp es n h) + own_at (held_at es n) ≡ own_count es + own_at (Some h)
    → own_count (match_ordering o ((n, h) ∷ e ∷ es) ((e.0, h) ∷ es) (e ∷ insert_entry network_cmp es n h)) + own_at (held_at (e ∷ es) n)
    ≡ own_count (e ∷ es) + own_at (Some h)
put_by Less n h e es t sorted more =
    let none : held_at (e ∷ es) n ≡ None = lookup-none (is_at (network_cmp n)) (e ∷ es) (none_below_head networks_total n e es sorted t) in
    rw none (omega (arith, counted (n, h) (e ∷ es)))
put_by Equal n h e es t sorted more = rw t (omega (arith, counted (e.0, h) es, counted e es))
put_by Greater n h e es t sorted more = rw t (omega (arith, counted e (insert_entry network_cmp es n h), counted e es, more))

inserted : (n : Network) (h : Held) (es : Routes) → IsStrictlySortedBy network_cmp (keys_of es)
    → own_count (insert_entry network_cmp es n h) + own_at (held_at es n) ≡ own_count es + own_at (Some h)
inserted n h [] sorted = omega (arith, counted (n, h) [])
inserted n h (e ∷ es) sorted =
    put_by (network_cmp n e.0) n h e es refl sorted (inserted n h es (sorted_tail network_cmp e.0 (keys_of es) sorted))

pub own_put : (n : Network) (route : Option Held) (es : Routes) → IsStrictlySortedBy network_cmp (keys_of es)
    → own_count (put es n route) + own_at (held_at es n) ≡ own_count es + own_at (held_at (put es n route) n)
own_put n None es sorted = refl
own_put n (Some h) es sorted = inserted n h es sorted ∙ ap (λ (o : Option Held). own_count es + own_at o) (sym (held_here n h es))

pub own_after : (n : Network) (route : Option Held) (es new : Routes) → IsStrictlySortedBy network_cmp (keys_of es) → new ≡ put es n route
    → own_count new + own_at (held_at es n) ≡ own_count es + own_at (held_at new n)
own_after n route es new sorted after = rw after (own_put n route es sorted)

-- ---- routes of which each is changed, and routes of which some are removed

pub own_changed : (change : Held → Held) → ((h : Held) → is_current (change h) ≡ is_current h) → (es : Routes) → own_count (all_changed change es) ≡ own_count es
own_changed change same [] = refl
own_changed change same (e ∷ es) =
    let here : own_at (Some (change e.1)) ≡ own_at (Some e.1) = ap (λ (b : Bool). cond b 1 0) (same e.1) in
    omega (arith, counted (e.0, change e.1) (all_changed change es), counted e es, here, own_changed change same es)

kept_by : (b : Bool) (e : Network × Held) (es rest : Routes) → (b ≡ false → is_current e.1 ≡ false) → own_count rest ≡ own_count es
    → own_count (cond b (e ∷ rest) rest) ≡ own_count (e ∷ es)
kept_by true e es rest gone same = omega (arith, counted e rest, counted e es, same)
kept_by false e es rest gone same =
    let none : own_at (Some e.1) ≡ 0 = ap (λ (b : Bool). cond b 1 0) (gone refl) in
    omega (arith, counted e es, none, same)

pub own_kept : (keep : Held → Bool) → ((h : Held) → keep h ≡ false → is_current h ≡ false) → (es : Routes) → own_count (filter (λ e. keep e.1) es) ≡ own_count es
own_kept keep gone [] = refl
own_kept keep gone (e ∷ es) = kept_by (keep e.1) e es (filter (λ e. keep e.1) es) (gone e.1) (own_kept keep gone es)

-- ---- the changes of the table

and_false : (b : Bool) → (b && false) ≡ false
and_false true = refl
and_false false = refl

pub lost_is_not : (now : ℕ) (h : Held) → is_current (lost now h) ≡ false
lost_is_not now h = and_false (is_own h)

lost_by : (b : Bool) (now : ℕ) (h : Held) → (b ≡ true → is_own h ≡ false) → is_current (cond b (lost now h) h) ≡ is_current h
lost_by true now h other = rw (other refl) refl
lost_by false now h other = refl

not_own : (o r t : Bool) → (not o && r && t) ≡ true → o ≡ false
not_own true r t e = absurd cc
not_own false r t e = refl

-- of the routes by a port only
pub timed_same : (now : ℕ) (h : Held) → is_current (timed_out now h) ≡ is_current h
timed_same now h = lost_by (is_timed_out now h) now h (not_own (is_own h) (is_reachable h) (nat_le timeout (now - h.time)))

via_some : (v : Option ℕ) (port : ℕ) (h : Held) → h.via ≡ v → is_lost_via port h ≡ true → is_own h ≡ false
via_some None port h t e = let none : false ≡ true = rw t at e in absurd cc
via_some (Some via) port h t e = rw t refl

pub port_same : (port now : ℕ) (h : Held) → is_current (port_lost port now h) ≡ is_current h
port_same port now h = lost_by (is_lost_via port h) now h (via_some h.via port h refl)

gone_by : (o r rest : Bool) → not (not r && rest) ≡ false → (o && r) ≡ false
gone_by o true rest e = absurd cc
gone_by o false rest e = and_false o

-- one that can't be reached
pub gone_is_not : (now : ℕ) (h : Held) → not (is_gone now h) ≡ false → is_current h ≡ false
gone_is_not now h = gone_by (is_own h) (is_reachable h) (nat_le garbage_collection (now - h.time))

revised_by : (c a b d v k : Bool) (port tag m now : ℕ) (h : Held) → is_current h ≡ c
    → is_current (cond c h (cond a (refreshed now h) (cond b h (cond d (learnt port tag m now) (cond v (lost now h) (cond k (learnt port tag m now) h)))))) ≡ c
revised_by true a b d v k port tag m now h e = e
revised_by false true b d v k port tag m now h e = e
revised_by false false true d v k port tag m now h e = e
revised_by false false false true v k port tag m now h e = refl
revised_by false false false false true k port tag m now h e = lost_is_not now h
revised_by false false false false false true port tag m now h e = refl
revised_by false false false false false false port tag m now h e = e

revised_same : (port tag m now : ℕ) (h : Held) → is_current (existing_after port tag m now h) ≡ is_current h
revised_same port tag m now h =
    revised_by (is_current h) (is_via port h && m == h.metric && nat_lt m infinity) (is_via port h && m == h.metric) (is_via port h && nat_lt m infinity) (is_via port h) (nat_lt m h.metric) port tag m now h refl

added_by : (b : Bool) (port tag m now : ℕ) → own_at (cond b (Some (learnt port tag m now)) None) ≡ 0
added_by true port tag m now = refl
added_by false port tag m now = refl

-- an entry of a response makes no own network, and takes none that can be reached
pub heard_same : (full : Bool) (port tag m now : ℕ) (held : Option Held) → own_at (route_after full port tag m now held) ≡ own_at held
heard_same full port tag m now None = added_by (nat_lt m infinity && not full) port tag m now
heard_same full port tag m now (Some h) = ap (λ (b : Bool). cond b 1 0) (revised_same port tag m now h)

pub heard_own : (full : Bool) (port tag m now : ℕ) (held route : Option Held) (n : Network) (es new : Routes)
    → IsStrictlySortedBy network_cmp (keys_of es) → held ≡ held_at es n → route ≡ route_after full port tag m now held → new ≡ put es n route
    → own_count new ≡ own_count es
heard_own full port tag m now held route n es new sorted found made after =
    let here : held_at (put es n route) n ≡ route = put_here es n route (λ none. sym found ∙ kept_none full port tag m now held (sym made ∙ none)) in
    let same : own_at (held_at (put es n route) n) ≡ own_at (held_at es n) =
    ap own_at here ∙ ap own_at made ∙ heard_same full port tag m now held ∙ ap own_at found in
    ap own_count after ∙ omega (arith, own_put n route es sorted, same)
