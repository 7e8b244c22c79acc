-- What holds in the world of every legal run.
use Rattle.std.proofs.Common.{◌≡◌, ℕ, zero, suc, ◌+◌, ◌<◌, ◌≤◌, Bool, true, false, List, [], ◌∷◌, length, get_or, refl, sym, ap, ◌∙◌, subst, arith, replicate}
use Rattle.std.specs.Prelude.{Option, Some, None, slice_get}
use Rattle.std.specs.List.{filter, AllByRecursion}
use Rattle.std.proofs.lemmas.List.{length-replicate}
use Rattle.std.proofs.Math.Nat.{mul-lt-mul_of_pos_right}
use Rattle.dn_guest.specs.declared.node.Sent.{Sent}
use Rattle.dn_model.specs.declared.key.Key.{Key}
use Rattle.dn_model.specs.declared.event.Event.{Event}
use Rattle.dn_model.specs.Order.{key_cmp, event_cmp, key_total, sorted}
use Rattle.dn_model.specs.Network.{Network, Family, emitted, tick, ticks, external, externals, injected, is_at, joined, routers, sent_from, sent, sent_to}
use Rattle.dn_model.specs.Settled.{IsTimed, IsFeedOf}
use Rattle.dn_lists.proofs.Lists.{all_weaker, all_append}
use Rattle.dn_lists.proofs.Sorting.{count, count_append, Rises, turn}
use Rattle.dn_model.proofs.Causes.{IsTimely, IsEffect, emitted_ok}
use Rattle.dn_world.specs.declared.packet.Packet.{Packet}
use Rattle.dn_world.specs.declared.step.Step.{Step}
use Rattle.dn_world.specs.declared.step.Step.TheVariants.{Beacon, Inject, Close, Deliver, Handle, RollBack, Commit}
use Rattle.dn_world.specs.World.{Part, World, no_part, part, dones, plus_of, minus_of, key_of, ticked, with_todo, cancelled, without_each, unmatched, opening, floor_bound}
use Rattle.dn_world.specs.Steps.{is_enabled, beacon, inject, deliver, handle, kept, taken_off, is_wrong, roll_back, after}
use Rattle.dn_world.specs.Runs.{IsLegalFrom, IsLegal, run, world, IsPast, IsAllPast, IsPlayable}
use Rattle.dn_world.proofs.Parts.{all_set, all_get, all_since, all_until, todo_done, get_ticked, length_ticked, Waits, waits_ticked}
use Rattle.dn_world.proofs.Balance.{IsCounted, arrived_done, step_counted}
use Rattle.dn_world.proofs.Past.{same_first, AllWait, to_waiting, waits_at, IsFed, step_waits, beacon_open, inject_open, close_open, boundary_kept}

-- ---- what holds of all that a router has handled

abbrev pub AllDone : (Event → Type 0) → World → Type 0
AllDone P w = AllByRecursion (λ q. AllByRecursion P q.done) w.parts

pub done_at : (P : Event → Type 0) (w : World) (r : ℕ) → AllDone P w → AllByRecursion P (part w r).done
unfolding part
done_at P w r a = all_get (λ q. AllByRecursion P q.done) w.parts r no_part a tt

done_ticked : (P : Event → Type 0) (group r : ℕ) (qs : List Part) → AllByRecursion (λ q. AllByRecursion P q.done) qs → AllByRecursion (λ q. AllByRecursion P q.done) (ticked group r qs)
unfolding ticked
done_ticked P group r [] a = tt
done_ticked P group r (q ∷ qs) a = (subst (AllByRecursion P) (sym (todo_done (tick group r ∷ []) q)) a.0, done_ticked P group (suc r) qs a.1)

module _ {S : Type 0} (net : Network S) where
  handle_done : (P : Event → Type 0) (w : World) (r : ℕ) → AllWait P w → AllDone P w → (es : List Event) → (part w r).todo ≡ es → AllDone P (handle net w r (part w r) es)
  unfolding handle
  handle_done P w r a d [] e = d
  handle_done P w r a d (x ∷ xs) e =
      let todo : AllByRecursion P (x ∷ xs) = subst (AllByRecursion P) e (waits_at P w r a).0 in
      all_set (λ q. AllByRecursion P q.done) w.parts r _ d (all_append P (part w r).done (x ∷ []) (done_at P w r d) (todo.0, tt))

  deliver_done : (P : Event → Type 0) (w : World) (place : ℕ) → AllDone P w → (o : Option Packet) → AllDone P (deliver w place o)
  unfolding deliver
  deliver_done P w place d None = d
  deliver_done P w place d (Some k) =
      all_set (λ q. AllByRecursion P q.done) w.parts k.event.router _ d (subst (AllByRecursion P) (sym (arrived_done net k (part w k.event.router))) (done_at P w k.event.router d))

  step_done : (P : Event → Type 0) (w : World) (s : Step) → AllWait P w → AllDone P w → AllDone P (after net w s)
  unfolding after beacon inject roll_back
  step_done P w Beacon a d = done_ticked P (suc w.floor) 0 w.parts d
  step_done P w (Inject x) a d =
      all_set (λ q. AllByRecursion P q.done) w.parts x.router _ d (subst (AllByRecursion P) (sym (todo_done (external (length w.accepted) x ∷ []) (part w x.router))) (done_at P w x.router d))
  step_done P w Close a d = d
  step_done P w (Deliver place) a d = deliver_done P w place d (slice_get w.flight place)
  step_done P w (Handle r) a d = handle_done P w r a d (part w r).todo refl
  step_done P w (RollBack r) a d =
      let q = part w r in
      all_set (λ q. AllByRecursion P q.done) w.parts r _ d
      (subst (AllByRecursion P) (sym (todo_done (taken_off net q) (record { done = kept net q; todo = q.todo; voids = q.voids })))
      (all_until P (is_wrong q) q.done (done_at P w r d)))
  step_done P w Commit a d = d

  -- ---- what holds

  abbrev pub Timely : Event → Type 0
  Timely e = IsTimely net.header e

  pub record IsSound (w : World) : Type 0 where
    pub counted : IsCounted net w
    pub past : IsAllPast net w.boundary w
    pub waits : AllWait Timely w
    pub done : AllDone Timely w
    pub floor : suc w.floor ≤ net.header.groups
    pub closing : w.closed ≡ true → suc w.floor ≡ net.header.groups
    pub accepted : IsFeedOf net.header w.accepted

  -- ---- the floor and the accepted externals

  abbrev pub HasFloor : World → Type 0
  HasFloor w = (suc w.floor ≤ net.header.groups) × (w.closed ≡ true → suc w.floor ≡ net.header.groups) × IsFeedOf net.header w.accepted

  deliver_floor : (w : World) (place : ℕ) → HasFloor w → (o : Option Packet) → HasFloor (deliver w place o)
  unfolding deliver
  deliver_floor w place f None = f
  deliver_floor w place f (Some k) = f

  handle_floor : (w : World) (r : ℕ) → HasFloor w → (es : List Event) → HasFloor (handle net w r (part w r) es)
  unfolding handle
  handle_floor w r f [] = f
  handle_floor w r f (e ∷ es) = f

  step_floor : (w : World) (s : Step) → is_enabled net w s ≡ true → HasFloor w → HasFloor (after net w s)
  unfolding after beacon inject roll_back
  step_floor w Beacon h f =
      let opn = beacon_open net w Beacon h refl in (omega (arith, opn.1), (λ c. absurd (let no : true ≡ false = sym c ∙ opn.0 in cc)), f.2)
  step_floor w (Inject x) h f =
      let opn = inject_open net w x h in
      let small : x.group < net.header.groups = omega (arith, opn.1, f.0) in
      (f.0, f.1, all_append (λ x. x.group < net.header.groups) w.accepted (x ∷ []) f.2 (small, tt))
  step_floor w Close h f = (f.0, (λ _. (close_open net w h).1), f.2)
  step_floor w (Deliver place) h f = deliver_floor w place f (slice_get w.flight place)
  step_floor w (Handle r) h f = handle_floor w r f (part w r).todo
  step_floor w (RollBack r) h f = f
  step_floor w Commit h f = f

  -- ---- each event is timely

  timely_effects : IsTimed net.header → (cause : Event) (sents : List Sent) → Timely cause → AllByRecursion Timely (emitted net.header cause sents)
  timely_effects t cause sents h =
      all_weaker (IsEffect net.header cause) Timely (emitted net.header cause sents) (λ x e. e.0) (emitted_ok net.header t cause sents)

  fed_timely : (w : World) (s : Step) → IsTimed net.header → is_enabled net w s ≡ true → HasFloor w → AllDone Timely w → IsFed net Timely w s
  fed_timely w s t h f d = record {
    tick = λ e r.
        let opn = beacon_open net w s h e in
        (t.period, omega (arith, mul-lt-mul_of_pos_right opn.1 t.period));
    external = λ x e.
        let opn = inject_open net w x (subst (λ z. is_enabled net w z ≡ true) e h) in
        let small : x.group < net.header.groups = omega (arith, opn.1, f.0) in
        (t.period, omega (arith, mul-lt-mul_of_pos_right small t.period));
    effects = timely_effects t;
    off = λ r e. all_since Timely (is_wrong (part w r)) (part w r).done (done_at Timely w r d);
  }

  pub step_sound : (w : World) (s : Step) → IsTimed net.header → is_enabled net w s ≡ true → IsSound w → IsSound (after net w s)
  step_sound w s t h a =
      let f = step_floor w s h (a.floor, a.closing, a.accepted) in
      record {
        counted = step_counted net w s h a.counted;
        past = boundary_kept net t w s h a.counted.rises a.past;
        waits = step_waits net Timely w s (fed_timely w s t h (a.floor, a.closing, a.accepted) a.done) a.waits;
        done = step_done Timely w s a.waits a.done;
        floor = f.0;
        closing = f.1;
        accepted = f.2;
      }

  -- ---- the opening

  all_replicate : (P : Part → Type 0) (n : ℕ) → P no_part → AllByRecursion P (replicate n no_part)
  all_replicate P zero h = tt
  all_replicate P (suc n) h = (h, all_replicate P n h)

  fresh : (e : Event) → with_todo (e ∷ []) no_part ≡ record { done = []; todo = e ∷ []; voids = [] }
  unfolding with_todo cancelled without_each unmatched sorted
  fresh e = refl

  opening_part : (n r : ℕ) → r < n → part (opening n) r ≡ record { done = []; todo = tick 0 r ∷ []; voids = [] }
  unfolding part opening
  opening_part n r l =
      let none : get_or (replicate n no_part) r no_part ≡ no_part = all_get (λ q. q ≡ no_part) (replicate n no_part) r no_part (all_replicate (λ q. q ≡ no_part) n refl) refl in
      get_ticked 0 0 (replicate n no_part) r (omega (arith, length-replicate n no_part, l))
      ∙ ap (λ q. with_todo (tick 0 (0 + r) ∷ []) q) none
      ∙ ap (λ k. with_todo (tick 0 k ∷ []) no_part) (let e : 0 + r ≡ r = omega arith in e)
      ∙ fresh (tick 0 r)

  none_joined : (p : Event → Bool) (n : ℕ) (f : Family) → ((s : ℕ) → s < n → count p (f s) ≡ 0) → count p (joined n f) ≡ 0
  unfolding joined
  none_joined p zero f h = refl
  none_joined p (suc n) f h =
      let ih = none_joined p n f (λ s l. h s (omega arith)) in
      let a = count_append p (joined n f) (f n) in
      let b = h n (omega arith) in
      omega (arith, ih, a, b)

  nothing_sent : (r s : ℕ) → filter (is_at r) (sent net s []) ≡ []
  unfolding sent sent_from
  nothing_sent r s = refl

  opening_sends : (p : Event → Bool) (f : Family) (r : ℕ) → ((s : ℕ) → s < routers net → f s ≡ []) → count p (sent_to net f r) ≡ 0
  unfolding sent_to
  opening_sends p f r h =
      none_joined p (routers net) (λ s. filter (is_at r) (sent net s (f s))) (λ s l. ap (λ es. count p (filter (is_at r) (sent net s es))) (h s l) ∙ ap (count p) (nothing_sent r s))

  opening_injected : (r : ℕ) → injected 1 [] r ≡ tick 0 r ∷ []
  unfolding injected ticks externals
  opening_injected r = refl

  opening_equal : (r : ℕ) → r < routers net → (p : Event → Bool) → count p (part (opening (routers net)) r).todo + count p (part (opening (routers net)) r).done + 0 ≡ count p (injected 1 [] r) + count p (sent_to net (dones (opening (routers net))) r) + 0 + count p (part (opening (routers net)) r).voids
  opening_equal r l p =
      let own = opening_part (routers net) r l in
      let t : count p (part (opening (routers net)) r).todo ≡ count p (tick 0 r ∷ []) = ap (λ (q : Part). count p q.todo) own in
      let d : count p (part (opening (routers net)) r).done ≡ 0 = ap (λ (q : Part). count p q.done) own in
      let v : count p (part (opening (routers net)) r).voids ≡ 0 = ap (λ (q : Part). count p q.voids) own in
      let i : count p (injected 1 [] r) ≡ count p (tick 0 r ∷ []) = ap (count p) (opening_injected r) in
      let s = opening_sends p (dones (opening (routers net))) r (λ s k. ap (λ (q : Part). q.done) (opening_part (routers net) s k)) in
      omega (arith, t, d, v, i, s)

  pub opening_counted : IsCounted net (opening (routers net))
  unfolding opening plus_of minus_of
  opening_counted = record {
    count = length_ticked 0 0 (replicate (routers net) no_part) ∙ length-replicate (routers net) no_part;
    rises = λ r l. subst (λ (q : Part). Rises event_cmp q.done) (sym (opening_part (routers net) r l)) tt;
    equal = λ r l p. opening_equal r l p;
  }

  -- the key of zeros
  any_past : (k : Key) → IsPast (key_of 0 0) k
  unfolding key_cmp
  any_past k =
      sym (turn key_cmp key_total k (key_of 0 0))
      ∙ same_first 0 k.group _ (omega arith) (same_first 0 k.sum _ (omega arith) (same_first 0 k.class _ (omega arith) (same_first 0 k.tie _ (omega arith) (same_first 0 k.origin _ (omega arith) (same_first 0 k.seq _ (omega arith) refl)))))

  pub opening_past : IsAllPast net (opening (routers net)).boundary (opening (routers net))
  unfolding opening
  opening_past = record {
    waiting = to_waiting (λ e. IsPast (key_of 0 0) e.key) (opening (routers net)) (waits_ticked (λ e. IsPast (key_of 0 0) e.key) 0 0 (replicate (routers net) no_part) (λ s. any_past (tick 0 s).key) (all_replicate (Waits (λ e. IsPast (key_of 0 0) e.key)) (routers net) (tt, tt)), tt);
    bound = any_past (floor_bound net.header (opening (routers net)));
  }

  pub opening_sound : IsPlayable net.header → IsSound (opening (routers net))
  unfolding opening
  opening_sound h = record {
    counted = opening_counted;
    past = opening_past;
    waits = (waits_ticked Timely 0 0 (replicate (routers net) no_part) (λ s. (h.timed.period, omega (arith, mul-lt-mul_of_pos_right h.groups h.timed.period))) (all_replicate (Waits Timely) (routers net) (tt, tt)), tt);
    done = done_ticked Timely 0 0 (replicate (routers net) no_part) (all_replicate (λ q. AllByRecursion Timely q.done) (routers net) tt);
    floor = omega (arith, h.groups);
    closing = λ c. absurd (cc);
    accepted = tt;
  }

  -- ---- every legal run

  pub run_sound : IsTimed net.header → (w : World) → IsSound w → (steps : List Step) → IsLegalFrom net w steps → IsSound (run net w steps)
  unfolding IsLegalFrom run
  run_sound t w a [] l = a
  run_sound t w a (s ∷ ss) l = run_sound t (after net w s) (step_sound w s t l.0 a) ss l.1

  pub world_sound : IsPlayable net.header → (steps : List Step) → IsLegal net steps → IsSound (world net steps)
  world_sound h steps l = run_sound h.timed (opening (routers net)) (opening_sound h) steps l

  -- the equation and the boundary need less of the header

  pub run_counted : (w : World) → IsCounted net w → (steps : List Step) → IsLegalFrom net w steps → IsCounted net (run net w steps)
  unfolding IsLegalFrom run
  run_counted w a [] l = a
  run_counted w a (s ∷ ss) l = run_counted (after net w s) (step_counted net w s l.0 a) ss l.1

  pub run_past : IsTimed net.header → (w : World) → IsCounted net w → IsAllPast net w.boundary w → (steps : List Step) → IsLegalFrom net w steps → IsAllPast net (run net w steps).boundary (run net w steps)
  unfolding IsLegalFrom run
  run_past t w a p [] l = p
  run_past t w a p (s ∷ ss) l = run_past t (after net w s) (step_counted net w s l.0 a) (boundary_kept net t w s l.0 a.rises p) ss l.1
