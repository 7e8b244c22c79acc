-- What the tests of timers and metrics say.
use Rattle.std.proofs.Common.{◌≡◌, ℕ, Bool, true, false, not, ◌&&◌, ◌||◌, ◌+◌, ◌-◌, ◌≤◌, ◌<◌, Option, Some, refl, ap, arith}
use Rattle.std.specs.Prelude.{is_some, nat_le, nat_lt}
use Rattle.std.proofs.lemmas.Bool.Decides.{nat_tests}
use Rattle.dn_guest.specs.declared.input.Input.TheVariants as input
use Rattle.dn_net.specs.Networks.{Network}
use Rattle.rip_table.specs.declared.held.Held.{Held}
use Rattle.rip_table.specs.Held.{is_gone, is_own, is_reachable, is_timed_out}
use Rattle.rip_table.specs.Sound.{IsSoundRoute}
use Rattle.rip_guest.specs.State.{RipState}
use Rattle.rip_guest.specs.Step.{handled, is_passed_over, rip_after, triggered_sent}
use Rattle.rip_laws.specs.Timely.{IsTimely}
use Rattle.rip_laws.proofs.Choice.{choose, never}

pub below : (a b : ℕ) → a < b → nat_lt a b ≡ true
below a b lt = grind (arith, nat_tests)

pub below_by : (a b : ℕ) → nat_lt a b ≡ true → a < b
below_by a b t = grind (arith, nat_tests)

pub not_below : (a b : ℕ) → b ≤ a → nat_lt a b ≡ false
not_below a b le = grind (arith, nat_tests)

pub not_below_by : (a b : ℕ) → nat_lt a b ≡ false → b ≤ a
not_below_by a b f = grind (arith, nat_tests)

pub most_by : (a b : ℕ) → nat_le a b ≡ true → a ≤ b
most_by a b t = grind (arith, nat_tests)

pub not_most_by : (a b : ℕ) → nat_le a b ≡ false → b < a
not_most_by a b f = grind (arith, nat_tests)

last_of_three : (a b c : Bool) → (a && b && c) ≡ false → a ≡ true → b ≡ true → c ≡ false
last_of_three true true c t x y = t
last_of_three true false c t x y = absurd cc
last_of_three false b c t x y = absurd cc

last_of_two : (a b : Bool) → (a && b) ≡ false → a ≡ true → b ≡ false
last_of_two true b t x = t
last_of_two false b t x = absurd cc

-- ---- timers

timely_heard : (now : ℕ) (h : Held) → is_timed_out now h ≡ false → (port : ℕ) → h.via ≡ Some port → h.metric < 16 → now < h.time + 180
timely_heard now h heard port via small =
    let learnt : not (is_own h) ≡ true = ap (λ (v : Option ℕ). not (not (is_some v))) via in
    let early = not_most_by 180 (now - h.time) (last_of_three (not (is_own h)) (is_reachable h) (nat_le 180 (now - h.time)) heard learnt (below h.metric 16 small)) in
    omega (arith, early)

timely_kept : (now : ℕ) (h : Held) → is_gone now h ≡ false → h.metric ≡ 16 → now < h.time + 120
timely_kept now h kept far =
    let lost : not (is_reachable h) ≡ true = ap (λ (b : Bool). not b) (not_below h.metric 16 (omega (arith, far))) in
    let early = not_most_by 120 (now - h.time) (last_of_two (not (is_reachable h)) (nat_le 120 (now - h.time)) kept lost) in
    omega (arith, early)

pub timely : (ports now : ℕ) (e : Network × Held) → IsSoundRoute ports now e → IsTimely now e.1
timely ports now e sound = record { past = sound.time; heard = timely_heard now e.1 sound.heard; kept = timely_kept now e.1 sound.kept }

-- ---- ticks

either : (a b : Bool) → a ≡ false → b ≡ false → (a || b) ≡ false
either true b x y = absurd cc
either false b x y = y

sent_tick : (s : RipState) → (triggered_sent s).last_tick ≡ s.last_tick
sent_tick s = choose (λ (t : RipState). t.last_tick ≡ s.last_tick) _ _ s (λ _. refl) (λ _. refl)

pub tick_kept : (s : RipState) (ports group : ℕ) → s.last_tick ≤ group → group ≤ 65535 → (rip_after s ports (input.Tick group)).last_tick ≡ group
tick_kept s ports group rises early =
    choose (λ (t : RipState). t.last_tick ≡ group) (is_passed_over s (input.Tick group)) s (triggered_sent (handled s (input.Tick group)))
    (λ over. never (is_passed_over s (input.Tick group)) over
    (either (nat_lt group s.last_tick) (nat_lt 65535 group) (not_below group s.last_tick rises) (not_below 65535 group early)))
    (λ _. sent_tick (handled s (input.Tick group)))
