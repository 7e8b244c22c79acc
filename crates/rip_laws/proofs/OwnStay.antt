-- An own network that can be reached stays as it is.
use Rattle.std.proofs.Common.{◌≡◌, ◌≢◌, ℕ, Bool, true, false, not, ◌&&◌, ◌-◌, cond, List, Option, Some, None, refl, sym, ap, subst, ◌∙◌}
use Rattle.std.specs.Prelude.{option_map, is_some, nat_le, slice_index}
use Rattle.std.proofs.lemmas.Option.{none-some, same_Some}
use Rattle.dn_guest.specs.declared.input.Input.{Input}
use Rattle.dn_guest.specs.declared.input.Input.TheVariants as input
use Rattle.dn_net.specs.Networks.{Network}
use Rattle.std.proofs.lemmas.Map.Entries.{option_filter}
use Rattle.rip_table.specs.declared.held.Held.{Held}
use Rattle.rip_table.specs.Held.{is_current, is_lost_via, is_own, is_reachable, is_timed_out, is_via, lost, settled}
use Rattle.rip_table.specs.Response.{metric_with_cost, route_after}
use Rattle.rip_table.specs.Routes.{any_changed, held_at}
use Rattle.rip_table.specs.Timers.{port_lost, timed_out}
use Rattle.rip_guest.specs.State.{RipState}
use Rattle.rip_guest.specs.Step.{rip_after}
use Rattle.rip_laws.proofs.Choice.{and_true, choose, never}
use Rattle.rip_laws.proofs.Lookups.{Puts, Rises, changed_at, stays_at, ticked_at, settled_is, unmarked_at}
use Rattle.rip_laws.proofs.Steps.{Encodable, Keeps, step_keeps, taken_keeps}

-- this route is held, but that it may have a mark
abbrev IsStill : Held → Option Held → Type 0
IsStill h o = option_map settled o ≡ Some h

settle_again : (h : Held) (o : Option Held) → IsStill h o → IsStill h (option_map settled o)
settle_again h None still = still
settle_again h (Some k) still = still

current_by : (k h : Held) → is_current h ≡ true → IsStill h (Some k) → is_current k ≡ true
current_by k h current still = ap is_current (same_Some (settled k) h still) ∙ current

own_by : (v : Option ℕ) (r : Bool) → (not (is_some v) && r) ≡ true → v ≡ None
own_by None r t = refl
own_by (Some port) r t = absurd cc

own_of : (k : Held) → is_current k ≡ true → k.via ≡ None
own_of k current = own_by k.via (is_reachable k) current

not_timed : (v : Option ℕ) (r t : Bool) → v ≡ None → (not (not (is_some v)) && r && t) ≡ false
not_timed None r t none = refl
not_timed (Some port) r t none = absurd (none-some port (sym none))

still_timed : (now : ℕ) (k h : Held) → is_current h ≡ true → IsStill h (Some k) → IsStill h (Some (timed_out now k))
still_timed now k h current still =
    choose (λ (x : Held). IsStill h (Some x)) (is_timed_out now k) (lost now k) k
    (λ t. never (is_timed_out now k) t (not_timed k.via (is_reachable k) (nat_le 180 (now - k.time)) (own_of k (current_by k h current still)))) (λ _. still)

not_gone : (r t : Bool) → r ≡ true → not (not r && t) ≡ true
not_gone true t e = refl
not_gone false t e = absurd cc

still_stays : (now : ℕ) (k h : Held) → is_current h ≡ true → IsStill h (Some k) → IsStill h (option_filter (stays_at now) (Some k))
still_stays now k h current still =
    let reachable = (and_true (is_own k) (is_reachable k) (current_by k h current still)).1 in
    let stays : stays_at now k ≡ true = not_gone (is_reachable k) (nat_le 120 (now - k.time)) reachable in
    ap (λ (b : Bool). option_map settled (cond b (Some k) None)) stays ∙ still

still_ticked : (now : ℕ) (o : Option Held) (h : Held) → is_current h ≡ true → IsStill h o → IsStill h (option_filter (stays_at now) (option_map (timed_out now) o))
still_ticked now None h current still = absurd (none-some h still)
still_ticked now (Some k) h current still = still_stays now (timed_out now k) h current (still_timed now k h current still)

not_by_port : (v : Option ℕ) (port : ℕ) (k : Held) → k.via ≡ v → v ≡ None → is_via port k ≡ false
not_by_port None port k t none = rw t refl
not_by_port (Some q) port k t none = absurd (none-some q (sym none))

still_down : (port now : ℕ) (o : Option Held) (h : Held) → is_current h ≡ true → IsStill h o → IsStill h (option_map (port_lost port now) o)
still_down port now None h current still = still
still_down port now (Some k) h current still =
    choose (λ (x : Held). IsStill h (Some x)) (is_lost_via port k) (lost now k) k
    (λ t. never (is_via port k) (and_true (is_via port k) (is_reachable k) t).0 (not_by_port k.via port k refl (own_of k (current_by k h current still)))) (λ _. still)

still_taken : (full : Bool) (port tag m now : ℕ) (o : Option Held) (h : Held) → is_current h ≡ true → IsStill h o → IsStill h (route_after full port tag m now o)
still_taken full port tag m now None h current still = absurd (none-some h still)
still_taken full port tag m now (Some k) h current still =
    choose (λ (x : Held). IsStill h (Some x)) (is_current k) k _ (λ _. still) (λ no. never (is_current k) (current_by k h current still) no)

keeps : (c : Puts) (s : RipState) (i : Input) (n : Network) (h : Held) → Rises s.routes → ((body : List ℕ) → i ≢ input.Cmd body)
    → is_current h ≡ true → IsStill h (held_at s.routes n) → Keeps (IsStill h) s i n
keeps c s i n h up other current still = record {
  start = still;
  settle = settle_again h;
  tick = λ group _. subst (IsStill h) (sym (ticked_at group s.routes n up)) (still_ticked group (held_at s.routes n) h current still);
  command = λ body is. absurd (other body is);
  down = λ port _. subst (IsStill h) (sym (changed_at (port_lost port s.last_tick) s.routes n)) (still_down port s.last_tick (held_at s.routes n) h current still);
  response = λ port es _. taken_keeps c (IsStill h) port (slice_index s.costs port) s.last_tick n es s.routes
      (λ e _ _ full o old. still_taken full port e.tag (metric_with_cost (slice_index s.costs port) e) s.last_tick o h current old) still;
}

without_mark : (o : Option Held) (h : Held) → ((k : Held) → o ≡ Some k → k.changed ≡ false) → IsStill h o → o ≡ Some h
without_mark None h unmarked still = absurd (none-some h still)
without_mark (Some k) h unmarked still = ap (λ (x : Held). Some x) (sym (settled_is k (unmarked k refl))) ∙ still

pub own_stays : (c : Puts) (read : Encodable) (s : RipState) (ports : ℕ) (i : Input) → Rises s.routes → any_changed s.routes ≡ false
    → any_changed (rip_after s ports i).routes ≡ false → ((body : List ℕ) → i ≢ input.Cmd body)
    → (n : Network) (h : Held) → held_at s.routes n ≡ Some h → is_current h ≡ true → held_at (rip_after s ports i).routes n ≡ Some h
own_stays c read s ports i up none after other n h found current =
    let still : IsStill h (held_at s.routes n) = ap (option_map settled) found ∙ ap (λ (x : Held). Some x) (settled_is h (unmarked_at s.routes n h none found)) in
    without_mark (held_at (rip_after s ports i).routes n) h (λ k there. unmarked_at (rip_after s ports i).routes n k after there)
    (step_keeps read (IsStill h) s ports i n (keeps c s i n h up other current still))
