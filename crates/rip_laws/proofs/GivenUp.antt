-- A route that was learnt is given up only for a reason, and none is removed early.
use Rattle.std.proofs.Common.{◌≡◌, ◌⊎◌, inl, inr, ℕ, Bool, true, false, not, ◌&&◌, ◌||◌, ◌==◌, ◌+◌, ◌-◌, ◌≤◌, ◌<◌, min, cond, List, Option, Some, None, refl, sym, ap, subst, ◌∙◌, arith}
use Rattle.std.specs.Prelude.{option_map, IfSome, is_some, nat_le, nat_lt, slice_index}
use Rattle.std.proofs.lemmas.Map.Entries.{option_filter}
use Rattle.std.proofs.lemmas.Option.{none-some, same_Some}
use Rattle.dn_guest.specs.declared.input.Input.{Input}
use Rattle.dn_guest.specs.declared.input.Input.TheVariants as input
use Rattle.dn_net.specs.Networks.{Network}
use Rattle.rip_wire.specs.declared.entry.Entry.{Entry}
use Rattle.rip_table.specs.declared.held.Held.{Held}
use Rattle.rip_table.specs.Held.{is_current, is_gone, is_lost_via, is_own, is_reachable, is_timed_out, is_via, learnt, lost, refreshed, settled}
use Rattle.rip_table.specs.Own.{connected, own, withdrawn}
use Rattle.rip_table.specs.Response.{existing_after, metric_with_cost, route_after}
use Rattle.rip_table.specs.Routes.{Routes, held_at}
use Rattle.rip_table.specs.Timers.{port_lost, timed_out}
use Rattle.rip_guest.specs.State.{RipState}
use Rattle.rip_guest.specs.Step.{rip_after}
use Rattle.rip_laws.specs.GivenUp.{IsHeld, IsOver, IsReachable, MayGiveUp, TellsOf, TellsShorter}
use Rattle.rip_laws.specs.Told.{IsResponse}
use Rattle.rip_laws.proofs.Choice.{and_true, choose, never, not_false, not_true}
use Rattle.rip_laws.proofs.Lookups.{Puts, Rises, changed_at, stays_at, ticked_at}
use Rattle.rip_laws.proofs.Steps.{Encodable, Keeps, MaySet, command_keeps, entries_taken, step_keeps, taken_keeps}
use Rattle.rip_laws.proofs.Times.{below, below_by, most_by, not_below_by}
use Rattle.rip_laws.proofs.Told.{via_of}

-- ---- a route that is removed

second_false : (a b : Bool) → a ≡ true → (a && b) ≡ false → b ≡ false
second_false true b t f = f
second_false false b t f = absurd cc

-- a route is held still, or its deletion is over
abbrev IsKept : Input → Held → Option Held → Type 0
IsKept i h o = (is_some o ≡ true) ⊎ ((h.metric ≡ 16) × IsOver i h 120)

kept_settled : (i : Input) (h : Held) (o : Option Held) → IsKept i h o → IsKept i h (option_map settled o)
kept_settled i h None kept = kept
kept_settled i h (Some k) kept = inl refl

kept_down : (i : Input) (h : Held) (port now : ℕ) (o : Option Held) → IsKept i h o → IsKept i h (option_map (port_lost port now) o)
kept_down i h port now None kept = kept
kept_down i h port now (Some k) kept = inl refl

kept_set : (i : Input) (h : Held) (full : Bool) (metric now : ℕ) (o : Option Held) → IsKept i h o → IsKept i h (connected full metric now o)
kept_set i h true metric now None kept = kept
kept_set i h false metric now None kept = inl refl
kept_set i h full metric now (Some k) kept = inl refl

kept_withdrawn : (i : Input) (h : Held) (now : ℕ) (o : Option Held) → IsKept i h o → IsKept i h (option_map (withdrawn now) o)
kept_withdrawn i h now None kept = kept
kept_withdrawn i h now (Some k) kept = inl refl

kept_taken : (i : Input) (h : Held) (full : Bool) (port tag m now : ℕ) (o : Option Held) → IsKept i h o → IsKept i h (route_after full port tag m now o)
kept_taken i h full port tag m now None kept = elim kept [
  | inl held ↦ absurd cc
  | inr over ↦ inr over
]
kept_taken i h full port tag m now (Some k) kept = inl refl

gone_by : (now : ℕ) (h : Held) → is_gone now h ≡ true → (16 ≤ h.metric) × (h.time + 120 ≤ now)
gone_by now h gone =
    let parts = and_true (not (is_reachable h)) (nat_le 120 (now - h.time)) gone in
    let past = most_by 120 (now - h.time) parts.1 in
    (not_below_by h.metric 16 (not_true (is_reachable h) parts.0), omega (arith, past))

minus_itself : (now : ℕ) → now - now ≡ 0
minus_itself now = omega arith

not_gone_yet : (now : ℕ) → nat_le 120 (now - now) ≡ false
not_gone_yet now = ap (nat_le 120) (minus_itself now)

lost_stays : (now : ℕ) (h : Held) → stays_at now (lost now h) ≡ true
lost_stays now h = ap (λ (b : Bool). not b) (not_gone_yet now)

kept_stays : (i : Input) (h : Held) (now : ℕ) → i ≡ input.Tick now → h.metric ≤ 16 → IsKept i h (option_filter (stays_at now) (Some h))
kept_stays i h now comes most =
    choose (IsKept i h) (stays_at now h) (Some h) None (λ _. inl refl)
    (λ gone. let by = gone_by now h (not_false (is_gone now h) gone) in
    inr (omega (arith, by.0, most), record { group = now; comes = comes; over = by.1 }))

kept_ticked : (i : Input) (h : Held) (now : ℕ) → i ≡ input.Tick now → h.metric ≤ 16 → IsKept i h (option_filter (stays_at now) (Some (timed_out now h)))
kept_ticked i h now comes most =
    choose (λ (x : Held). IsKept i h (option_filter (stays_at now) (Some x))) (is_timed_out now h) (lost now h) h
    (λ _. subst (λ (b : Bool). IsKept i h (cond b (Some (lost now h)) None)) (sym (lost_stays now h)) (inl refl))
    (λ _. kept_stays i h now comes most)

kept_keeps : (c : Puts) (s : RipState) (i : Input) (n : Network) (h : Held) → Rises s.routes → h.metric ≤ 16 → held_at s.routes n ≡ Some h → Keeps (IsKept i h) s i n
kept_keeps c s i n h up most found =
    let P : Option Held → Type 0 = IsKept i h in
    let before : P (held_at s.routes n) = inl (ap is_some found) in
    record {
      start = before;
      settle = kept_settled i h;
      tick = λ group comes. subst P (sym (ticked_at group s.routes n up))
          (subst (λ (o : Option Held). P (option_filter (stays_at group) (option_map (timed_out group) o))) (sym found) (kept_ticked i h group comes most));
      command = λ body _. command_keeps c P s.last_tick body n s.routes (λ full metric _. kept_set i h full metric s.last_tick (held_at s.routes n) before)
          (kept_withdrawn i h s.last_tick (held_at s.routes n) before) before;
      down = λ port _. subst P (sym (changed_at (port_lost port s.last_tick) s.routes n)) (kept_down i h port s.last_tick (held_at s.routes n) before);
      response = λ port es _. taken_keeps c P port (slice_index s.costs port) s.last_tick n es s.routes
          (λ e _ _ full o old. kept_taken i h full port e.tag (metric_with_cost (slice_index s.costs port) e) s.last_tick o old) before;
    }

pub not_removed : (c : Puts) (read : Encodable) (s : RipState) (ports : ℕ) (i : Input) → Rises s.routes → (n : Network) (h : Held) → h.metric ≤ 16 → held_at s.routes n ≡ Some h
    → IsHeld (rip_after s ports i).routes n ⊎ ((h.metric ≡ 16) × IsOver i h 120)
not_removed c read s ports i up n h most found = step_keeps read (IsKept i h) s ports i n (kept_keeps c s i n h up most found)

-- ---- a route that is given up

-- the network can be reached, or there is a reason
abbrev IsHere : RipState → Input → ℕ → Network → Held → Option Held → Type 0
IsHere s i port n h o = IfSome o (λ k. (k.metric < 16) ⊎ MayGiveUp s i port n h) × ((is_some o ≡ true) ⊎ MayGiveUp s i port n h)

here : (s : RipState) (i : Input) (port : ℕ) (n : Network) (h k : Held) → k.metric < 16 → IsHere s i port n h (Some k)
here s i port n h k small = (inl small, inl refl)

gone : (s : RipState) (i : Input) (port : ℕ) (n : Network) (h : Held) (o : Option Held) → MayGiveUp s i port n h → IsHere s i port n h o
gone s i port n h None may = (tt, inr may)
gone s i port n h (Some k) may = (inr may, inr may)

here_settled : (s : RipState) (i : Input) (port : ℕ) (n : Network) (h : Held) (o : Option Held) → IsHere s i port n h o → IsHere s i port n h (option_map settled o)
here_settled s i port n h None is = is
here_settled s i port n h (Some k) is = is

here_set : (s : RipState) (i : Input) (port : ℕ) (n : Network) (h : Held) (full : Bool) (metric now : ℕ) → MaySet metric → IsHere s i port n h (connected full metric now (Some h))
here_set s i port n h full metric now may =
    here s i port n h (own metric now (not (is_own h) || not (h.metric == metric) || h.changed)) (omega (arith, may.most))

not_current : (v : Option ℕ) (port : ℕ) (r : Bool) → v ≡ Some port → (not (is_some v) && r) ≡ false
not_current None port r e = absurd (none-some port e)
not_current (Some q) port r e = refl

here_withdrawn : (s : RipState) (i : Input) (port : ℕ) (n : Network) (h : Held) (now : ℕ) → h.via ≡ Some port → h.metric < 16 → IsHere s i port n h (Some (withdrawn now h))
here_withdrawn s i port n h now via small =
    choose (λ (x : Held). IsHere s i port n h (Some x)) (is_current h) (lost now h) h
    (λ t. never (is_current h) t (not_current h.via port (is_reachable h) via)) (λ _. here s i port n h h small)

here_down : (s : RipState) (i : Input) (port down now : ℕ) (n : Network) (h : Held) → i ≡ input.Down down → h.via ≡ Some port → h.metric < 16
    → IsHere s i port n h (Some (port_lost down now h))
here_down s i port down now n h comes via small =
    choose (λ (x : Held). IsHere s i port n h (Some x)) (is_lost_via down h) (lost now h) h
    (λ t. let same : down ≡ port = same_Some down port (sym (via_of down h (and_true (is_via down h) (is_reachable h) t).0) ∙ via) in
    gone s i port n h (Some (lost now h)) (inr (inl (comes ∙ ap (λ (k : ℕ). input.Down k) same))))
    (λ _. here s i port n h h small)

reachable_stays : (now : ℕ) (h : Held) → h.metric < 16 → stays_at now h ≡ true
reachable_stays now h small = ap (λ (r : Bool). not (not r && nat_le 120 (now - h.time))) (below h.metric 16 small)

timed_by : (now : ℕ) (h : Held) → is_timed_out now h ≡ true → h.time + 180 ≤ now
timed_by now h out =
    let past = most_by 180 (now - h.time) (and_true (not (is_own h) && is_reachable h) (nat_le 180 (now - h.time)) out).1 in
    omega (arith, past)

here_ticked : (s : RipState) (i : Input) (port now : ℕ) (n : Network) (h : Held) → i ≡ input.Tick now → h.metric < 16
    → IsHere s i port n h (option_filter (stays_at now) (Some (timed_out now h)))
here_ticked s i port now n h comes small =
    choose (λ (x : Held). IsHere s i port n h (option_filter (stays_at now) (Some x))) (is_timed_out now h) (lost now h) h
    (λ out. gone s i port n h (option_filter (stays_at now) (Some (lost now h))) (inl (record { group = now; comes = comes; over = timed_by now h out })))
    (λ _. subst (λ (b : Bool). IsHere s i port n h (cond b (Some h) None)) (sym (reachable_stays now h small)) (here s i port n h h small))

-- ---- a response

-- The route is as it was but for the tick; or it goes by the port of the response, which is the route's own or told
-- a shorter way; or the network was told as unreachable.
abbrev MayLeave : RipState → ℕ → ℕ → List Entry → Network → Held → Type 0
MayLeave s from port es n h = (from ≡ port) ⊎ TellsShorter es (slice_index s.costs from) n h.metric

record IsOn (s : RipState) (from port : ℕ) (es : List Entry) (n : Network) (h k : Held) : Type 0 where
  small : k.metric < 16
  source : ((k.via ≡ h.via) × (k.metric ≡ h.metric)) ⊎ MayLeave s from port es n h

abbrev IsAfter : RipState → Input → ℕ → ℕ → List Entry → Network → Held → Option Held → Type 0
IsAfter s i from port es n h o = IfSome o (λ k. IsOn s from port es n h k ⊎ MayGiveUp s i port n h) × ((is_some o ≡ true) ⊎ MayGiveUp s i port n h)

after_is : (s : RipState) (i : Input) (from port : ℕ) (es : List Entry) (n : Network) (h k : Held) → IsOn s from port es n h k → IsAfter s i from port es n h (Some k)
after_is s i from port es n h k is = (inl is, inl refl)

after_gone : (s : RipState) (i : Input) (from port : ℕ) (es : List Entry) (n : Network) (h : Held) (o : Option Held) → MayGiveUp s i port n h → IsAfter s i from port es n h o
after_gone s i from port es n h None may = (tt, inr may)
after_gone s i from port es n h (Some k) may = (inr may, inr may)

-- what the entry tells
record Heard (s : RipState) (i : Input) (from port : ℕ) (es : List Entry) (n : Network) (h : Held) (e : Entry) : Type 0 where
  response : IsResponse s i from es
  tells : TellsOf es n e
  via : h.via ≡ Some port
  reached : h.metric < 16

unreachable : (m cost : ℕ) → (nat_lt (min 16 (m + cost)) 16) ≡ false → 16 ≤ m + cost
unreachable m cost far =
    let past = not_below_by (min 16 (m + cost)) 16 far in
    omega (arith, past)

shorter : (m cost bound : ℕ) → min 16 (m + cost) < bound → bound ≤ 16 → m + cost < bound
shorter m cost bound less most = omega (arith, less, most)

-- the port of a route that the response gives up
leaves : (s : RipState) (i : Input) (from port : ℕ) (es : List Entry) (n : Network) (h k : Held) → h.via ≡ Some port → is_via from k ≡ true → IsOn s from port es n h k → MayLeave s from port es n h
leaves s i from port es n h k via by is = elim is.source [
  | inl same ↦ inl (same_Some from port (sym (via_of from k by) ∙ same.0 ∙ via))
  | inr may ↦ may
]

-- a lesser metric is told by the port of the response
moves : (s : RipState) (i : Input) (from port : ℕ) (es : List Entry) (n : Network) (h k : Held) (e : Entry) → Heard s i from port es n h e
    → metric_with_cost (slice_index s.costs from) e < k.metric → IsOn s from port es n h k → MayLeave s from port es n h
moves s i from port es n h k e heard less is = elim is.source [
  | inl same ↦
      let told : metric_with_cost (slice_index s.costs from) e < h.metric = subst (λ (m : ℕ). metric_with_cost (slice_index s.costs from) e < m) same.1 less in
      inr (record { entry = e; tells = heard.tells; shorter = shorter e.metric (slice_index s.costs from) h.metric told (omega (arith, heard.reached)) })
  | inr may ↦ may
]

after_existing : (s : RipState) (i : Input) (from port : ℕ) (es : List Entry) (n : Network) (h k : Held) (e : Entry) → Heard s i from port es n h e → IsOn s from port es n h k
    → IsAfter s i from port es n h (Some (existing_after from e.tag (metric_with_cost (slice_index s.costs from) e) s.last_tick k))
after_existing s i from port es n h k e heard is =
    let m = metric_with_cost (slice_index s.costs from) e in
    let P : Held → Type 0 = λ x. IsAfter s i from port es n h (Some x) in
    choose P (is_current k) k _ (λ _. after_is s i from port es n h k is)
    (λ _. choose P (is_via from k && m == k.metric && nat_lt m 16) (refreshed s.last_tick k) _
    (λ _. after_is s i from port es n h (refreshed s.last_tick k) (record { small = is.small; source = is.source }))
    (λ _. choose P (is_via from k && m == k.metric) k _ (λ _. after_is s i from port es n h k is)
    (λ _. choose P (is_via from k && nat_lt m 16) (learnt from e.tag m s.last_tick) _
    (λ t. let by = and_true (is_via from k) (nat_lt m 16) t in
    after_is s i from port es n h (learnt from e.tag m s.last_tick) (record { small = below_by m 16 by.1; source = inr (leaves s i from port es n h k heard.via by.0 is) }))
    (λ far. choose P (is_via from k) (lost s.last_tick k) _
    (λ by. after_gone s i from port es n h (Some (lost s.last_tick k))
    (inr (inr (record {
      from = from;
      entries = es;
      response = heard.response;
      entry = e;
      tells = heard.tells;
      unreachable = unreachable e.metric (slice_index s.costs from) (second_false (is_via from k) (nat_lt m 16) by far);
      source = leaves s i from port es n h k heard.via by is;
    }))))
    (λ _. choose P (nat_lt m k.metric) (learnt from e.tag m s.last_tick) k
    (λ t. let less = below_by m k.metric t in
    after_is s i from port es n h (learnt from e.tag m s.last_tick)
    (record { small = omega (arith, less, is.small); source = inr (moves s i from port es n h k e heard less is) }))
    (λ _. after_is s i from port es n h k is))))))

after_taken : (s : RipState) (i : Input) (from port : ℕ) (es : List Entry) (n : Network) (h : Held) (e : Entry) → Heard s i from port es n h e → (full : Bool) (o : Option Held)
    → IsAfter s i from port es n h o → IsAfter s i from port es n h (route_after full from e.tag (metric_with_cost (slice_index s.costs from) e) s.last_tick o)
after_taken s i from port es n h e heard full None is = elim is.1 [
  | inl held ↦ absurd cc
  | inr may ↦ after_gone s i from port es n h (route_after full from e.tag (metric_with_cost (slice_index s.costs from) e) s.last_tick None) may
]
after_taken s i from port es n h e heard full (Some k) is = elim is.0 [
  | inl on ↦ after_existing s i from port es n h k e heard on
  | inr may ↦ after_gone s i from port es n h (Some (existing_after from e.tag (metric_with_cost (slice_index s.costs from) e) s.last_tick k)) may
]

here_after : (s : RipState) (i : Input) (from port : ℕ) (es : List Entry) (n : Network) (h : Held) (o : Option Held) → IsAfter s i from port es n h o → IsHere s i port n h o
here_after s i from port es n h None is = is
here_after s i from port es n h (Some k) is = elim is.0 [
  | inl on ↦ here s i port n h k on.small
  | inr may ↦ gone s i port n h (Some k) may
]

-- ---- a step

keeps : (c : Puts) (s : RipState) (i : Input) (n : Network) (h : Held) (port : ℕ) → Rises s.routes → held_at s.routes n ≡ Some h → h.via ≡ Some port → h.metric < 16
    → Keeps (IsHere s i port n h) s i n
keeps c s i n h port up found via small =
    let P : Option Held → Type 0 = IsHere s i port n h in
    let before : P (held_at s.routes n) = subst P (sym found) (here s i port n h h small) in
    record {
      start = before;
      settle = here_settled s i port n h;
      tick = λ group comes. subst P (sym (ticked_at group s.routes n up))
          (subst (λ (o : Option Held). P (option_filter (stays_at group) (option_map (timed_out group) o))) (sym found) (here_ticked s i port group n h comes small));
      command = λ body _. command_keeps c P s.last_tick body n s.routes
          (λ full metric may. subst (λ (o : Option Held). P (connected full metric s.last_tick o)) (sym found) (here_set s i port n h full metric s.last_tick may))
          (subst (λ (o : Option Held). P (option_map (withdrawn s.last_tick) o)) (sym found) (here_withdrawn s i port n h s.last_tick via small)) before;
      down = λ down comes. subst P (sym (changed_at (port_lost down s.last_tick) s.routes n))
          (subst (λ (o : Option Held). P (option_map (port_lost down s.last_tick) o)) (sym found) (here_down s i port down s.last_tick n h comes via small));
      response = λ from es response. here_after s i from port es n h (held_at (entries_taken from (slice_index s.costs from) s.last_tick es s.routes) n)
          (taken_keeps c (IsAfter s i from port es n h) from (slice_index s.costs from) s.last_tick n es s.routes
          (λ e among network full o old. after_taken s i from port es n h e
          (record { response = response; tells = record { among = among; network = network }; via = via; reached = small }) full o old)
          (subst (IsAfter s i from port es n h) (sym found) (after_is s i from port es n h h (record { small = small; source = inl (refl, refl) }))));
    }

told_by : (s : RipState) (i : Input) (port : ℕ) (n : Network) (h : Held) (routes : Routes) (o : Option Held) → held_at routes n ≡ o → IsHere s i port n h o
    → IsReachable routes n ⊎ MayGiveUp s i port n h
told_by s i port n h routes None found is = elim is.1 [ inl held ↦ absurd cc | inr may ↦ inr may ]
told_by s i port n h routes (Some k) found is = elim is.0 [
  | inl small ↦ inl (record { route = k; held = found; metric = small })
  | inr may ↦ inr may
]

pub not_given_up : (c : Puts) (read : Encodable) (s : RipState) (ports : ℕ) (i : Input) → Rises s.routes → (n : Network) (h : Held) (port : ℕ)
    → held_at s.routes n ≡ Some h → h.via ≡ Some port → h.metric < 16 → IsReachable (rip_after s ports i).routes n ⊎ MayGiveUp s i port n h
not_given_up c read s ports i up n h port found via small =
    told_by s i port n h (rip_after s ports i).routes (held_at (rip_after s ports i).routes n) refl
    (step_keeps read (IsHere s i port n h) s ports i n (keeps c s i n h port up found via small))
