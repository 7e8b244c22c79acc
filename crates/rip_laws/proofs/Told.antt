-- A route that was learnt comes from a message.
use Rattle.std.proofs.Common.{◌≡◌, ◌⊎◌, inl, inr, ℕ, Bool, true, false, not, ◌&&◌, ◌||◌, ◌==◌, ◌+◌, ◌≤◌, ◌<◌, cond, List, length, Option, Some, None, refl, sym, ap, subst, ◌∙◌, arith}
use Rattle.std.specs.Prelude.{option_map, Contains, IfSome, nat_lt, slice_index}
use Rattle.std.proofs.lemmas.Bool.Decides.{Decides-eqb}
use Rattle.std.proofs.lemmas.Map.Entries.{option_filter}
use Rattle.std.proofs.lemmas.Option.{none-some, same_Some}
use Rattle.dn_guest.specs.declared.input.Input.{Input}
use Rattle.dn_net.specs.Networks.{Network}
use Rattle.rip_wire.specs.declared.entry.Entry.{Entry}
use Rattle.rip_table.specs.declared.held.Held.{Held}
use Rattle.rip_table.specs.Held.{is_current, is_lost_via, is_own, is_timed_out, is_via, learnt, lost, refreshed, settled}
use Rattle.rip_table.specs.Own.{connected, own, withdrawn}
use Rattle.rip_table.specs.Response.{existing_after, metric_with_cost, route_after}
use Rattle.rip_table.specs.Routes.{any_changed, held_at}
use Rattle.rip_table.specs.Timers.{port_lost, timed_out}
use Rattle.rip_table.specs.Validation.{destination_of}
use Rattle.rip_guest.specs.State.{RipState}
use Rattle.rip_guest.specs.Step.{rip_after}
use Rattle.rip_laws.specs.Told.{IsResponse, IsTold}
use Rattle.rip_laws.proofs.Choice.{and_true, choose}
use Rattle.rip_laws.proofs.Lookups.{Puts, Rises, changed_at, settled_is, stays_at, ticked_at, unmarked_at}
use Rattle.rip_laws.proofs.Steps.{Encodable, Keeps, command_keeps, step_keeps, taken_keeps}

-- each port of the router has a cost
abbrev pub HaveCosts : RipState → Type 0
HaveCosts s = (port : ℕ) → port < length s.costs → 1 ≤ slice_index s.costs port

-- the route is as it was, or was told, but that it may have a mark
abbrev IsFrom : RipState → Input → Network → Held → Type 0
IsFrom s i n h = h.metric < 16 → (port : ℕ) → h.via ≡ Some port → (held_at s.routes n ≡ Some (settled h)) ⊎ IsTold s i port n (settled h)

abbrev AreFrom : RipState → Input → Network → Option Held → Type 0
AreFrom s i n o = IfSome o (IsFrom s i n)

from_start : (s : RipState) (i : Input) (n : Network) (o : Option Held) → any_changed s.routes ≡ false → held_at s.routes n ≡ o → AreFrom s i n o
from_start s i n None none found = tt
from_start s i n (Some h) none found = λ small port via. inl (found ∙ ap (λ (x : Held). Some x) (sym (settled_is h (unmarked_at s.routes n h none found))))

from_settled : (s : RipState) (i : Input) (n : Network) (o : Option Held) → AreFrom s i n o → AreFrom s i n (option_map settled o)
from_settled s i n None from = tt
from_settled s i n (Some h) from = from

-- one whose deletion begins can't be reached
from_lost : (s : RipState) (i : Input) (n : Network) (now : ℕ) (h : Held) → IsFrom s i n (lost now h)
from_lost s i n now h = λ small port via. absurd (omega (arith, small))

-- and one that is own isn't learnt
from_own : (s : RipState) (i : Input) (n : Network) (metric now : ℕ) (changed : Bool) → IsFrom s i n (own metric now changed)
from_own s i n metric now changed = λ small port via. absurd (none-some port via)

from_kept : (s : RipState) (i : Input) (n : Network) (b : Bool) (h : Held) → IsFrom s i n h → AreFrom s i n (cond b (Some h) None)
from_kept s i n true h from = from
from_kept s i n false h from = tt

from_ticked : (s : RipState) (i : Input) (n : Network) (now : ℕ) (o : Option Held) → AreFrom s i n o → AreFrom s i n (option_filter (stays_at now) (option_map (timed_out now) o))
from_ticked s i n now None from = tt
from_ticked s i n now (Some h) from =
    from_kept s i n (stays_at now (timed_out now h)) (timed_out now h)
    (choose (IsFrom s i n) (is_timed_out now h) (lost now h) h (λ _. from_lost s i n now h) (λ _. from))

from_down : (s : RipState) (i : Input) (n : Network) (port now : ℕ) (o : Option Held) → AreFrom s i n o → AreFrom s i n (option_map (port_lost port now) o)
from_down s i n port now None from = tt
from_down s i n port now (Some h) from = choose (IsFrom s i n) (is_lost_via port h) (lost now h) h (λ _. from_lost s i n now h) (λ _. from)

from_set : (s : RipState) (i : Input) (n : Network) (full : Bool) (metric now : ℕ) (o : Option Held) → AreFrom s i n (connected full metric now o)
from_set s i n true metric now None = tt
from_set s i n false metric now None = from_own s i n metric now true
from_set s i n full metric now (Some h) = from_own s i n metric now (not (is_own h) || not (h.metric == metric) || h.changed)

from_withdrawn : (s : RipState) (i : Input) (n : Network) (now : ℕ) (o : Option Held) → AreFrom s i n o → AreFrom s i n (option_map (withdrawn now) o)
from_withdrawn s i n now None from = tt
from_withdrawn s i n now (Some h) from = choose (IsFrom s i n) (is_current h) (lost now h) h (λ _. from_lost s i n now h) (λ _. from)

-- ---- an entry of a response

via_by : (v : Option ℕ) (port : ℕ) (h : Held) → h.via ≡ v → is_via port h ≡ true → v ≡ Some port
via_by None port h t is = let e : false ≡ true = rw t at is in absurd cc
via_by (Some q) port h t is =
    let e : (q == port) ≡ true = rw t at is in
    ap (λ (k : ℕ). Some k) ((Decides-eqb q port).0 e)

pub via_of : (port : ℕ) (h : Held) → is_via port h ≡ true → h.via ≡ Some port
via_of port h is = via_by h.via port h refl is

-- what an entry of the response told
record Heard (s : RipState) (i : Input) (port : ℕ) (n : Network) (e : Entry) : Type 0 where
  entries : List Entry
  response : IsResponse s i port entries
  among : Contains entries e
  network : destination_of e ≡ Some n
  cost : 1 ≤ slice_index s.costs port

told : (s : RipState) (i : Input) (port : ℕ) (n : Network) (e : Entry) (h : Held) → Heard s i port n e → h.metric ≡ metric_with_cost (slice_index s.costs port) e → h.metric < 16
    → h.time ≡ s.last_tick → (h.tag ≡ e.tag) ⊎ IfSome (held_at s.routes n) (λ k. h ≡ refreshed s.last_tick k) → IsTold s i port n h
told s i port n e h heard metric small now tag =
    let sum : h.metric ≡ e.metric + slice_index s.costs port = omega (arith, metric, small) in
    record {
      entries = heard.entries;
      entry = e;
      response = heard.response;
      among = heard.among;
      network = heard.network;
      metric = sum;
      farther = omega (arith, sum, heard.cost);
      now = now;
      tag = tag;
    }

on_port : (s : RipState) (i : Input) (n : Network) (port q : ℕ) (h : Held) → h.via ≡ Some port → h.via ≡ Some q → IsTold s i port n h → IsTold s i q n h
on_port s i n port q h here there is = subst (λ (p : ℕ). IsTold s i p n h) (same_Some port q (sym here ∙ there)) is

from_learnt : (s : RipState) (i : Input) (n : Network) (port : ℕ) (e : Entry) → Heard s i port n e
    → IsFrom s i n (learnt port e.tag (metric_with_cost (slice_index s.costs port) e) s.last_tick)
from_learnt s i n port e heard = λ small q via.
    let h : Held = settled (learnt port e.tag (metric_with_cost (slice_index s.costs port) e) s.last_tick) in
    inr (on_port s i n port q h refl via (told s i port n e h heard refl small refl (inl refl)))

-- heard again: it was told before in this message, or it was held
again : (s : RipState) (i : Input) (n : Network) (port : ℕ) (e : Entry) (h : Held) → Heard s i port n e → h.metric ≡ metric_with_cost (slice_index s.costs port) e → h.metric < 16
    → (held_at s.routes n ≡ Some (settled h)) ⊎ IsTold s i port n (settled h) → IsTold s i port n (settled (refreshed s.last_tick h))
again s i n port e h heard metric small from = elim from [
  | inl held ↦ told s i port n e (settled (refreshed s.last_tick h)) heard metric small refl
      (inr (subst (λ (o : Option Held). IfSome o (λ k. settled (refreshed s.last_tick h) ≡ refreshed s.last_tick k)) (sym held) refl))
  | inr before ↦
      let now : h.time ≡ s.last_tick = before.now in
      subst (λ (t : ℕ). IsTold s i port n (record (settled h) { time = t })) now before
]

from_again : (s : RipState) (i : Input) (n : Network) (port : ℕ) (e : Entry) (h : Held) → Heard s i port n e → is_via port h ≡ true
    → metric_with_cost (slice_index s.costs port) e ≡ h.metric → IsFrom s i n h → IsFrom s i n (refreshed s.last_tick h)
from_again s i n port e h heard by same from = λ small q via.
    let here = via_of port h by in
    inr (on_port s i n port q (settled (refreshed s.last_tick h)) here via (again s i n port e h heard (sym same) small (from small port here)))

from_existing : (s : RipState) (i : Input) (n : Network) (port : ℕ) (e : Entry) (h : Held) → Heard s i port n e → IsFrom s i n h
    → IsFrom s i n (existing_after port e.tag (metric_with_cost (slice_index s.costs port) e) s.last_tick h)
from_existing s i n port e h heard from =
    let m = metric_with_cost (slice_index s.costs port) e in
    let new = from_learnt s i n port e heard in
    choose (IsFrom s i n) (is_current h) h _ (λ _. from)
    (λ _. choose (IsFrom s i n) (is_via port h && m == h.metric && nat_lt m 16) (refreshed s.last_tick h) _
    (λ t. let by = and_true (is_via port h) (m == h.metric) (and_true (is_via port h && m == h.metric) (nat_lt m 16) t).0 in
    from_again s i n port e h heard by.0 ((Decides-eqb m h.metric).0 by.1) from)
    (λ _. choose (IsFrom s i n) (is_via port h && m == h.metric) h _ (λ _. from)
    (λ _. choose (IsFrom s i n) (is_via port h && nat_lt m 16) (learnt port e.tag m s.last_tick) _ (λ _. new)
    (λ _. choose (IsFrom s i n) (is_via port h) (lost s.last_tick h) _ (λ _. from_lost s i n s.last_tick h)
    (λ _. choose (IsFrom s i n) (nat_lt m h.metric) (learnt port e.tag m s.last_tick) h (λ _. new) (λ _. from))))))

from_taken : (s : RipState) (i : Input) (n : Network) (full : Bool) (port : ℕ) (e : Entry) (o : Option Held) → Heard s i port n e → AreFrom s i n o
    → AreFrom s i n (route_after full port e.tag (metric_with_cost (slice_index s.costs port) e) s.last_tick o)
from_taken s i n full port e None heard from =
    let m = metric_with_cost (slice_index s.costs port) e in
    from_kept s i n (nat_lt m 16 && not full) (learnt port e.tag m s.last_tick) (from_learnt s i n port e heard)
from_taken s i n full port e (Some h) heard from = from_existing s i n port e h heard from

-- ---- a step

keeps : (c : Puts) (s : RipState) (i : Input) (n : Network) → Rises s.routes → any_changed s.routes ≡ false → HaveCosts s → Keeps (AreFrom s i n) s i n
keeps c s i n up none costs =
    let before = from_start s i n (held_at s.routes n) none refl in
    record {
      start = before;
      settle = from_settled s i n;
      tick = λ group _. subst (AreFrom s i n) (sym (ticked_at group s.routes n up)) (from_ticked s i n group (held_at s.routes n) before);
      command = λ body _. command_keeps c (AreFrom s i n) s.last_tick body n s.routes
          (λ full metric _. from_set s i n full metric s.last_tick (held_at s.routes n)) (from_withdrawn s i n s.last_tick (held_at s.routes n) before) before;
      down = λ port _. subst (AreFrom s i n) (sym (changed_at (port_lost port s.last_tick) s.routes n)) (from_down s i n port s.last_tick (held_at s.routes n) before);
      response = λ port es response. taken_keeps c (AreFrom s i n) port (slice_index s.costs port) s.last_tick n es s.routes
          (λ e among network full o old. from_taken s i n full port e o
          (record { entries = es; response = response; among = among; network = network; cost = costs port response.there }) old) before;
    }

without_mark : (s : RipState) (i : Input) (n : Network) (o : Option Held) → ((h : Held) → o ≡ Some h → h.changed ≡ false) → AreFrom s i n o
    → IfSome o (λ h. h.metric < 16 → (port : ℕ) → h.via ≡ Some port → (held_at s.routes n ≡ Some h) ⊎ IsTold s i port n h)
without_mark s i n None unmarked from = tt
without_mark s i n (Some h) unmarked from = λ small port via.
    subst (λ (x : Held). (held_at s.routes n ≡ Some x) ⊎ IsTold s i port n x) (settled_is h (unmarked h refl)) (from small port via)

pub comes_from : (c : Puts) (read : Encodable) (s : RipState) (ports : ℕ) (i : Input) → Rises s.routes → any_changed s.routes ≡ false
    → any_changed (rip_after s ports i).routes ≡ false → HaveCosts s → (n : Network)
    → IfSome (held_at (rip_after s ports i).routes n) (λ h. h.metric < 16 → (port : ℕ) → h.via ≡ Some port → (held_at s.routes n ≡ Some h) ⊎ IsTold s i port n h)
comes_from c read s ports i up none after costs n =
    without_mark s i n (held_at (rip_after s ports i).routes n) (λ h there. unmarked_at (rip_after s ports i).routes n h after there)
    (step_keeps read (AreFrom s i n) s ports i n (keeps c s i n up none costs))
