-- The equation: each step keeps the balance.
use Rattle.std.proofs.Common.{◌≡◌, ℕ, zero, suc, ◌+◌, ◌<◌, ◌≤◌, Bool, true, false, not, ◌&&◌, eqb, List, [], ◌∷◌, ◌++◌, length, get_or, set, refl, sym, ap, ◌∙◌, subst, arith, append-nil}
use Rattle.std.specs.Prelude.{◌||◌, Option, Some, None, slice_get, nat_lt}
use Rattle.std.specs.List.{filter, list_any, AllByRecursion}
use Rattle.std.specs.Ordering.{is_gt}
use Rattle.std.specs.Cmp.{upto}
use Rattle.std.proofs.lemmas.Bool.{eqb-true, eqb-false, ltb-true}
use Rattle.std.proofs.lemmas.List.{length-set, get_or-set_same, get_or-set_other}
use Rattle.dn_guest.specs.Node.{node_sent}
use Rattle.dn_model.specs.declared.event.Event.{Event}
use Rattle.dn_model.specs.declared.feed.External.{External}
use Rattle.dn_model.specs.Order.{event_cmp, event_total}
use Rattle.dn_model.specs.Network.{Network, Family, emitted, tick, ticks, external, externals, injected, is_at, joined, routers, opening_node, sent_from, state, sent, sent_to}
use Rattle.dn_lists.proofs.Lists.{by_test, filter_append}
use Rattle.dn_lists.proofs.Sorting.{one_if, turn, count, count_filter, count_append, count_permutation, permutation_from_counts, rises_from_sorted, sorted_from_rises}
use Rattle.dn_model.proofs.EventOrder.{event_same}
use Rattle.dn_model.proofs.Waves.{IsRising}
use Rattle.dn_model.proofs.Steps.{sent_from_append}
use Rattle.dn_model.proofs.Rows.{pairs_append, joined_same}
use Rattle.dn_world.specs.declared.packet.Packet.{Packet}
use Rattle.dn_world.specs.declared.step.Step.{Step}
use Rattle.dn_world.specs.declared.step.Step.TheVariants.{Beacon, Inject, Close, Deliver, Handle, RollBack, Commit}
use Rattle.dn_world.specs.World.{Part, World, no_part, part, dones, plus_of, minus_of, ticked, with_todo, is_before_last, is_behind, is_ready, is_empty, stands}
use Rattle.dn_world.specs.Steps.{is_enabled, beacon, inject, arrived, deliver, signed, until, since, is_wrong, emits, handle, roll_back, after}
use Rattle.dn_world.specs.Runs.{IsBalanced}
use Rattle.dn_world.proofs.Parts.{get_kept, todo_done, void_done, count_todo, count_void, get_ticked, length_ticked, count_plus_of, count_minus_of, plus_of_plus, plus_of_minus, minus_of_plus, minus_of_minus, taken_plus, taken_minus, until_since, all_until}

-- ---- tests

pub both_true : (a b : Bool) → (a && b) ≡ true → (a ≡ true) × (b ≡ true)
both_true true b h = (refl, h)
both_true false b h = absurd (cc)

pub or_false : (a b : Bool) → (a || b) ≡ false → (a ≡ false) × (b ≡ false)
or_false true b h = absurd (cc)
or_false false b h = (refl, h)

pub not_false : (b : Bool) → not b ≡ true → b ≡ false
not_false true h = absurd (cc)
not_false false h = refl

-- at the router, and passes p
abbrev pub at_and : ℕ → (Event → Bool) → Event → Bool
at_and r p e = is_at r e && p e

pub count_at : (p : Event → Bool) (r : ℕ) (es : List Event) → count p (filter (is_at r) es) ≡ count (at_and r p) es
count_at p r es = count_filter p (is_at r) es

pub here : (r : ℕ) (p : Event → Bool) (e : Event) → is_at r e ≡ true → one_if (at_and r p e) ≡ one_if (p e)
here r p e h = simp h

pub elsewhere : (r : ℕ) (p : Event → Bool) (e : Event) → is_at r e ≡ false → one_if (at_and r p e) ≡ 0
elsewhere r p e h = simp h

pub is_at_true : (r : ℕ) (e : Event) → is_at r e ≡ true → e.router ≡ r
unfolding is_at
is_at_true r e h = eqb-true e.router r h

pub is_at_false : (r : ℕ) (e : Event) → is_at r e ≡ false → e.router ≡ r → ⊥
unfolding is_at
is_at_false r e h = eqb-false e.router r h

-- ---- one part changed

pub set_here : (ps : List Part) (f : Part → Part) (q r : ℕ) → q ≡ r → r < length ps → get_or (set ps q (f (get_or ps q no_part))) r no_part ≡ f (get_or ps r no_part)
set_here ps f q r e h =
    let P : ℕ → Type 0 = λ n. get_or (set ps n (f (get_or ps n no_part))) r no_part ≡ f (get_or ps r no_part) in
    subst P (sym e) (get_or-set_same ps r (f (get_or ps r no_part)) no_part h)

pub set_there : (ps : List Part) (x : Part) (q r : ℕ) → (q ≡ r → ⊥) → get_or (set ps q x) r no_part ≡ get_or ps r no_part
set_there ps x q r ne = get_or-set_other ps q r x no_part (λ e. ne (sym e))

-- ---- sorted lists of done

all_upto : (done : List Event) (e : Event) → IsRising done → is_before_last done e ≡ false → AllByRecursion (λ x. is_gt (event_cmp x e) ≡ false) done
unfolding is_before_last
all_upto [] e r h = tt
all_upto (x ∷ []) e r h = (turn event_cmp event_total e x ∙ h, tt)
all_upto (x ∷ y ∷ ys) e r h =
    let rest = all_upto (y ∷ ys) e r.1 h in
    (upto event_total x y e r.0.0 rest.0, rest)

rises_more : (done : List Event) (e : Event) → IsRising done → AllByRecursion (λ x. is_gt (event_cmp x e) ≡ false) done → IsRising (done ++ e ∷ [])
rises_more done e r a = pairs_append (λ x y. is_gt (event_cmp x y) ≡ false) done (e ∷ []) r (tt, tt) (a, tt)

pairs_until : (q : Event → Bool) (es : List Event) → IsRising es → IsRising (until q es)
unfolding until
pairs_until q [] r = tt
pairs_until q (e ∷ es) r =
    by_test (q e) (λ h. simp h tt) (λ h. simp h (all_until (λ y. is_gt (event_cmp e y) ≡ false) q es r.0, pairs_until q es r.1))

ready_last : (q : Part) (e : Event) (es : List Event) → q.todo ≡ e ∷ es → is_ready q ≡ true → is_before_last q.done e ≡ false
unfolding is_ready is_behind
ready_last q e es first h =
    let ready = both_true (not (list_any (is_before_last q.done) q.todo || list_any (λ v. stands v q.done) q.voids)) (not (is_empty q.todo)) h in
    let calm = or_false (list_any (is_before_last q.done) q.todo) (list_any (λ v. stands v q.done) q.voids) (not_false _ ready.0) in
    let all : list_any (is_before_last q.done) (e ∷ es) ≡ false = ap (list_any (is_before_last q.done)) (sym first) ∙ calm.0 in
    (or_false (is_before_last q.done e) (list_any (is_before_last q.done) es) all).0

-- ---- what one router's history adds to what all send

joined_more : (p : Event → Bool) (q n : ℕ) (f g : Family) (x : ℕ) → ((s : ℕ) → (q ≡ s → ⊥) → g s ≡ f s) → count p (g q) ≡ count p (f q) + x → (q < n → count p (joined n g) ≡ count p (joined n f) + x) × (n ≤ q → count p (joined n g) ≡ count p (joined n f))
unfolding joined
joined_more p q zero f g x h e = (λ l. absurd (omega (arith, l)), λ l. refl)
joined_more p q (suc n) f g x h e =
    let ih = joined_more p q n f g x h e in
    let a = count_append p (joined n g) (g n) in
    let b = count_append p (joined n f) (f n) in (
      λ l.
          by_test (eqb q n)
          (λ k.
          let same : q ≡ n = eqb-true q n k in
          let rest = ih.1 (omega (arith, same)) in
          let g_here : count p (g q) ≡ count p (g n) = ap (λ s. count p (g s)) same in
          let f_here : count p (f q) ≡ count p (f n) = ap (λ s. count p (f s)) same in
          omega (arith, a, b, rest, g_here, f_here, e))
          (λ k.
          let ne = eqb-false q n k in
          let rest = ih.0 (omega (arith, l, ne)) in
          let last : count p (g n) ≡ count p (f n) = ap (count p) (h n ne) in
          omega (arith, a, b, rest, last)),
      λ l.
          let rest = ih.1 (omega (arith, l)) in
          let last : count p (g n) ≡ count p (f n) = ap (count p) (h n (λ k. omega (arith, l, k))) in
          omega (arith, a, b, rest, last),
    )

module _ {S : Type 0} (net : Network S) where
  pub sent_append : (r : ℕ) (xs ys : List Event) → sent net r (xs ++ ys) ≡ sent net r xs ++ sent_from net (state net r xs) ys
  unfolding sent state
  sent_append r xs ys = sent_from_append net (opening_node net r) xs ys

  emits_is : (r : ℕ) (done : List Event) (e : Event) → sent_from net (state net r done) (e ∷ []) ≡ emits net r done e
  unfolding sent_from emits
  emits_is r done e = append-nil (emitted net.header e (node_sent net.guests (state net r done) e.input))

  pub sent_more : (r : ℕ) (xs : List Event) (e : Event) → sent net r (xs ++ e ∷ []) ≡ sent net r xs ++ emits net r xs e
  sent_more r xs e = sent_append r xs (e ∷ []) ∙ ap (λ l. sent net r xs ++ l) (emits_is r xs e)

  -- the history of router q grows, and what it sends by these
  sent_to_more : (p : Event → Bool) (r q : ℕ) (f g : Family) (es : List Event) → q < routers net → ((s : ℕ) → (q ≡ s → ⊥) → g s ≡ f s) → sent net q (g q) ≡ sent net q (f q) ++ es → count p (sent_to net g r) ≡ count p (sent_to net f r) + count (at_and r p) es
  unfolding sent_to
  sent_to_more p r q f g es l others e =
      let a = ap (λ l. count p (filter (is_at r) l)) e in
      let b = ap (count p) (filter_append (is_at r) (sent net q (f q)) es) in
      let c = count_append p (filter (is_at r) (sent net q (f q))) (filter (is_at r) es) in
      let d = count_at p r es in
      (joined_more p q (routers net) (λ s. filter (is_at r) (sent net s (f s))) (λ s. filter (is_at r) (sent net s (g s))) (count (at_and r p) es)
      (λ s ne. ap (λ l. filter (is_at r) (sent net s l)) (others s ne))
      (omega (arith, a, b, c, d))).0 l

  -- routers with the same histories send the same
  same_sent : (p : Event → Bool) (r : ℕ) (f g : Family) → ((s : ℕ) → s < routers net → f s ≡ g s) → count p (sent_to net f r) ≡ count p (sent_to net g r)
  unfolding sent_to
  same_sent p r f g h =
      ap (count p) (joined_same (routers net) (λ s. filter (is_at r) (sent net s (f s))) (λ s. filter (is_at r) (sent net s (g s))) (λ s l. ap (λ es. filter (is_at r) (sent net s es)) (h s l)))

  -- ---- the balance by counts

  abbrev pub Equal : World → ℕ → (Event → Bool) → Type 0
  Equal w r p =
      count p (part w r).todo + count p (part w r).done + count (at_and r p) (plus_of w.flight) ≡ count p (injected (suc w.floor) w.accepted r) + count p (sent_to net (dones w) r) + count (at_and r p) (minus_of w.flight) + count p (part w r).voids

  pub record IsCounted (w : World) : Type 0 where
    pub count : length w.parts ≡ routers net
    pub rises : (r : ℕ) → r < routers net → IsRising (part w r).done
    pub equal : (r : ℕ) → r < routers net → (p : Event → Bool) → Equal w r p

  left_count : (w : World) (r : ℕ) (p : Event → Bool) → count p ((part w r).todo ++ (part w r).done ++ filter (is_at r) (plus_of w.flight)) ≡ count p (part w r).todo + count p (part w r).done + count (at_and r p) (plus_of w.flight)
  left_count w r p =
      let a = count_append p ((part w r).todo ++ (part w r).done) (filter (is_at r) (plus_of w.flight)) in
      let b = count_append p (part w r).todo (part w r).done in
      let c = count_at p r (plus_of w.flight) in
      omega (arith, a, b, c)

  right_count : (w : World) (r : ℕ) (p : Event → Bool) → count p (injected (suc w.floor) w.accepted r ++ sent_to net (dones w) r ++ filter (is_at r) (minus_of w.flight) ++ (part w r).voids) ≡ count p (injected (suc w.floor) w.accepted r) + count p (sent_to net (dones w) r) + count (at_and r p) (minus_of w.flight) + count p (part w r).voids
  right_count w r p =
      let inj = injected (suc w.floor) w.accepted r in
      let minus = filter (is_at r) (minus_of w.flight) in
      let a = count_append p ((inj ++ sent_to net (dones w) r) ++ minus) (part w r).voids in
      let b = count_append p (inj ++ sent_to net (dones w) r) minus in
      let c = count_append p inj (sent_to net (dones w) r) in
      let d = count_at p r (minus_of w.flight) in
      omega (arith, a, b, c, d)

  pub counted : (w : World) → IsBalanced net w → IsCounted w
  counted w b = record {
    count = b.count;
    rises = λ r l. rises_from_sorted event_cmp event_total (part w r).done (b.sorted r l);
    equal = λ r l p. sym (left_count w r p) ∙ sym (count_permutation p _ _ (b.equal r l)) ∙ right_count w r p;
  }

  pub balanced : (w : World) → IsCounted w → IsBalanced net w
  balanced w b = record {
    count = b.count;
    sorted = λ r l. sorted_from_rises event_cmp event_total (part w r).done (b.rises r l);
    equal = λ r l. permutation_from_counts event_cmp event_total event_same _ _ (λ p. left_count w r p ∙ b.equal r l p ∙ sym (right_count w r p));
  }

  -- ---- deliver

  pub arrived_done : (k : Packet) (q : Part) → (arrived k q).done ≡ q.done
  unfolding arrived
  arrived_done k q = by_test k.plus (λ h. simp h (todo_done (k.event ∷ []) q)) (λ h. simp h (void_done k.event q))

  arrived_plus : (p : Event → Bool) (k : Packet) (q : Part) → k.plus ≡ true → count p (arrived k q).todo + count p q.voids ≡ count p q.todo + one_if (p k.event) + count p (arrived k q).voids
  unfolding arrived
  arrived_plus p k q h = simp h (let a = count_todo p (k.event ∷ []) q in omega (arith, a))

  arrived_minus : (p : Event → Bool) (k : Packet) (q : Part) → k.plus ≡ false → count p (arrived k q).todo + one_if (p k.event) + count p q.voids ≡ count p q.todo + count p (arrived k q).voids
  unfolding arrived
  arrived_minus p k q h = simp h (count_void p k.event q)

  deliver_counted : (w : World) (place : ℕ) (k : Packet) → slice_get w.flight place ≡ Some k → IsCounted w → IsCounted (deliver w place (Some k))
  unfolding deliver part
  deliver_counted w place k got b =
      let to = k.event.router in
      let new = arrived k (get_or w.parts to no_part) in
      let same : (s : ℕ) → (get_or (set w.parts to new) s no_part).done ≡ (get_or w.parts s no_part).done =
      λ s. get_kept (λ q. q.done) w.parts to s new no_part (arrived_done k (get_or w.parts to no_part)) in
      record {
        count = length-set w.parts to new ∙ b.count;
        rises = λ r l. subst IsRising (sym (same r)) (b.rises r l);
        equal = λ r l p.
            let old = get_or w.parts r no_part in
            let now = get_or (set w.parts to new) r no_part in
            let was : count p old.todo + count p old.done + count (at_and r p) (plus_of w.flight) ≡ count p (injected (suc w.floor) w.accepted r) + count p (sent_to net (λ s. (get_or w.parts s no_part).done) r) + count (at_and r p) (minus_of w.flight) + count p old.voids = b.equal r l p in
            let sends : count p (sent_to net (λ s. (get_or (set w.parts to new) s no_part).done) r) ≡ count p (sent_to net (λ s. (get_or w.parts s no_part).done) r) =
            ap (λ (f : Family). count p (sent_to net f r)) (λ i s. same s i) in
            let done : count p now.done ≡ count p old.done = ap (count p) (same r) in
            let inside : r < length w.parts = omega (arith, l, b.count) in
            by_test (is_at r k.event)
            (λ at.
            let there : now ≡ arrived k old = set_here w.parts (arrived k) to r (is_at_true r k.event at) inside in
            let t : count p now.todo ≡ count p (arrived k old).todo = ap (λ q. count p q.todo) there in
            let v : count p now.voids ≡ count p (arrived k old).voids = ap (λ q. count p q.voids) there in
            let one = here r p k.event at in
            by_test k.plus
            (λ h.
            let out = taken_plus (at_and r p) w.flight place k got h in
            let more = arrived_plus p k old h in
            omega (arith, was, sends, done, t, v, one, out.0, out.1, more))
            (λ h.
            let out = taken_minus (at_and r p) w.flight place k got h in
            let more = arrived_minus p k old h in
            omega (arith, was, sends, done, t, v, one, out.0, out.1, more)))
            (λ at.
            let there : now ≡ old = set_there w.parts new to r (is_at_false r k.event at) in
            let t : count p now.todo ≡ count p old.todo = ap (λ q. count p q.todo) there in
            let v : count p now.voids ≡ count p old.voids = ap (λ q. count p q.voids) there in
            let one = elsewhere r p k.event at in
            by_test k.plus
            (λ h.
            let out = taken_plus (at_and r p) w.flight place k got h in
            omega (arith, was, sends, done, t, v, one, out.0, out.1))
            (λ h.
            let out = taken_minus (at_and r p) w.flight place k got h in
            omega (arith, was, sends, done, t, v, one, out.0, out.1)));
      }

  -- ---- beacon, inject

  beacon_counted : (w : World) → IsCounted w → IsCounted (beacon w)
  unfolding beacon part injected ticks
  beacon_counted w b =
      let f = suc w.floor in
      let now : (s : ℕ) → s < length w.parts → get_or (ticked f 0 w.parts) s no_part ≡ with_todo (tick f s ∷ []) (get_or w.parts s no_part) =
      λ s l. get_ticked f 0 w.parts s l ∙ ap (λ n. with_todo (tick f n ∷ []) (get_or w.parts s no_part)) (let e : 0 + s ≡ s = omega arith in e) in
      let same : (s : ℕ) → s < length w.parts → (get_or (ticked f 0 w.parts) s no_part).done ≡ (get_or w.parts s no_part).done =
      λ s l. ap (λ q. q.done) (now s l) ∙ todo_done (tick f s ∷ []) (get_or w.parts s no_part) in
      record {
        count = length_ticked f 0 w.parts ∙ b.count;
        rises = λ r l. subst IsRising (sym (same r (omega (arith, l, b.count)))) (b.rises r l);
        equal = λ r l p.
            let inside : r < length w.parts = omega (arith, l, b.count) in
            let old = get_or w.parts r no_part in
            let ext = filter (is_at r) (externals 0 w.accepted) in
            let was : count p old.todo + count p old.done + count (at_and r p) (plus_of w.flight) ≡ count p (ticks f r ++ ext) + count p (sent_to net (λ s. (get_or w.parts s no_part).done) r) + count (at_and r p) (minus_of w.flight) + count p old.voids = b.equal r l p in
            let sends : count p (sent_to net (λ s. (get_or (ticked f 0 w.parts) s no_part).done) r) ≡ count p (sent_to net (λ s. (get_or w.parts s no_part).done) r) =
            same_sent p r (λ s. (get_or (ticked f 0 w.parts) s no_part).done) (λ s. (get_or w.parts s no_part).done) (λ s k. same s (omega (arith, k, b.count))) in
            let done : count p (get_or (ticked f 0 w.parts) r no_part).done ≡ count p old.done = ap (count p) (same r inside) in
            let t : count p (get_or (ticked f 0 w.parts) r no_part).todo ≡ count p (with_todo (tick f r ∷ []) old).todo = ap (λ q. count p q.todo) (now r inside) in
            let v : count p (get_or (ticked f 0 w.parts) r no_part).voids ≡ count p (with_todo (tick f r ∷ []) old).voids = ap (λ q. count p q.voids) (now r inside) in
            let more = count_todo p (tick f r ∷ []) old in
            let inj_was = count_append p (ticks f r) ext in
            let inj_now = count_append p (ticks f r ++ tick f r ∷ []) ext in
            let inj_tick = count_append p (ticks f r) (tick f r ∷ []) in
            omega (arith, was, sends, done, t, v, more, inj_was, inj_now, inj_tick);
      }

  externals_append : (place : ℕ) (xs : List External) (x : External) → externals place (xs ++ x ∷ []) ≡ externals place xs ++ external (place + length xs) x ∷ []
  unfolding externals
  externals_append place [] x = ap (λ n. external n x ∷ []) (let e : place ≡ place + 0 = omega arith in e)
  externals_append place (y ∷ ys) x =
      ap (λ l. external place y ∷ l)
      (externals_append (suc place) ys x ∙ ap (λ n. externals (suc place) ys ++ external n x ∷ []) (let e : suc place + length ys ≡ place + suc (length ys) = omega arith in e))

  inject_counted : (w : World) (x : External) → IsCounted w → IsCounted (inject w x)
  unfolding inject part injected
  inject_counted w x b =
      let to = x.router in
      let e = external (length w.accepted) x in
      let new = with_todo (e ∷ []) (get_or w.parts to no_part) in
      let same : (s : ℕ) → (get_or (set w.parts to new) s no_part).done ≡ (get_or w.parts s no_part).done =
      λ s. get_kept (λ q. q.done) w.parts to s new no_part (todo_done (e ∷ []) (get_or w.parts to no_part)) in
      record {
        count = length-set w.parts to new ∙ b.count;
        rises = λ r l. subst IsRising (sym (same r)) (b.rises r l);
        equal = λ r l p.
            let old = get_or w.parts r no_part in
            let now = get_or (set w.parts to new) r no_part in
            let tks = ticks (suc w.floor) r in
            let was : count p old.todo + count p old.done + count (at_and r p) (plus_of w.flight) ≡ count p (tks ++ filter (is_at r) (externals 0 w.accepted)) + count p (sent_to net (λ s. (get_or w.parts s no_part).done) r) + count (at_and r p) (minus_of w.flight) + count p old.voids = b.equal r l p in
            let sends : count p (sent_to net (λ s. (get_or (set w.parts to new) s no_part).done) r) ≡ count p (sent_to net (λ s. (get_or w.parts s no_part).done) r) =
            ap (λ (f : Family). count p (sent_to net f r)) (λ i s. same s i) in
            let done : count p now.done ≡ count p old.done = ap (count p) (same r) in
            let inside : r < length w.parts = omega (arith, l, b.count) in
            let inj_was = count_append p tks (filter (is_at r) (externals 0 w.accepted)) in
            let inj_now = count_append p tks (filter (is_at r) (externals 0 (w.accepted ++ x ∷ []))) in
            let ext_was = count_at p r (externals 0 w.accepted) in
            let ext_now = count_at p r (externals 0 (w.accepted ++ x ∷ [])) in
            let ext_more : count (at_and r p) (externals 0 (w.accepted ++ x ∷ [])) ≡ count (at_and r p) (externals 0 w.accepted ++ e ∷ []) =
            ap (count (at_and r p)) (externals_append 0 w.accepted x ∙ ap (λ n. externals 0 w.accepted ++ external n x ∷ []) (let z : 0 + length w.accepted ≡ length w.accepted = omega arith in z)) in
            let ext_split = count_append (at_and r p) (externals 0 w.accepted) (e ∷ []) in
            by_test (is_at r e)
            (λ at.
            let there : now ≡ with_todo (e ∷ []) old = set_here w.parts (with_todo (e ∷ [])) to r (is_at_true r e at) inside in
            let t : count p now.todo ≡ count p (with_todo (e ∷ []) old).todo = ap (λ q. count p q.todo) there in
            let v : count p now.voids ≡ count p (with_todo (e ∷ []) old).voids = ap (λ q. count p q.voids) there in
            let one = here r p e at in
            let more = count_todo p (e ∷ []) old in
            omega (arith, was, sends, done, t, v, one, more, inj_was, inj_now, ext_was, ext_now, ext_more, ext_split))
            (λ at.
            let there : now ≡ old = set_there w.parts new to r (is_at_false r e at) in
            let t : count p now.todo ≡ count p old.todo = ap (λ q. count p q.todo) there in
            let v : count p now.voids ≡ count p old.voids = ap (λ q. count p q.voids) there in
            let one = elsewhere r p e at in
            omega (arith, was, sends, done, t, v, one, inj_was, inj_now, ext_was, ext_now, ext_more, ext_split));
      }

  -- ---- handle

  handle_counted : (w : World) (q : ℕ) (e : Event) (es : List Event) → q < routers net → (part w q).todo ≡ e ∷ es → is_before_last (part w q).done e ≡ false → IsCounted w → IsCounted (handle net w q (part w q) (e ∷ es))
  unfolding handle part
  handle_counted w q e es inside_q first last b =
      let from = get_or w.parts q no_part in
      let new : Part = record { done = from.done ++ e ∷ []; todo = es; voids = from.voids } in
      let ps = set w.parts q new in
      let within : q < length w.parts = omega (arith, inside_q, b.count) in
      let own : get_or ps q no_part ≡ new = get_or-set_same w.parts q new no_part within in
      let others : (s : ℕ) → (q ≡ s → ⊥) → get_or ps s no_part ≡ get_or w.parts s no_part = λ s ne. set_there w.parts new q s ne in
      let out = emits net q from.done e in
      record {
        count = length-set w.parts q new ∙ b.count;
        rises = λ r l.
            by_test (eqb q r)
            (λ k.
            let same : q ≡ r = eqb-true q r k in
            subst (λ n. IsRising (get_or ps n no_part).done) same
            (subst (λ (x : Part). IsRising x.done) (sym own) (rises_more from.done e (b.rises q inside_q) (all_upto from.done e (b.rises q inside_q) last))))
            (λ k. subst (λ (x : Part). IsRising x.done) (sym (others r (eqb-false q r k))) (b.rises r l));
        equal = λ r l p.
            let old = get_or w.parts r no_part in
            let now = get_or ps r no_part in
            let was : count p old.todo + count p old.done + count (at_and r p) (plus_of w.flight) ≡ count p (injected (suc w.floor) w.accepted r) + count p (sent_to net (λ s. (get_or w.parts s no_part).done) r) + count (at_and r p) (minus_of w.flight) + count p old.voids = b.equal r l p in
            let sends =
            sent_to_more p r q (λ s. (get_or w.parts s no_part).done) (λ s. (get_or ps s no_part).done) out inside_q
            (λ s ne. ap (λ (x : Part). x.done) (others s ne))
            (ap (λ (x : Part). sent net q x.done) own ∙ sent_more q from.done e) in
            let plus = count_plus_of (at_and r p) w.flight (signed true out) in
            let plus_new : count (at_and r p) (plus_of (signed true out)) ≡ count (at_and r p) out = ap (count (at_and r p)) (plus_of_plus out) in
            let minus = count_minus_of (at_and r p) w.flight (signed true out) in
            let minus_new : count (at_and r p) (minus_of (signed true out)) ≡ 0 = ap (count (at_and r p)) (minus_of_plus out) in
            by_test (eqb q r)
            (λ k.
            let same : q ≡ r = eqb-true q r k in
            let there : now ≡ new = ap (λ n. get_or ps n no_part) (sym same) ∙ own in
            let t : count p now.todo ≡ count p es = ap (λ (x : Part). count p x.todo) there in
            let v : count p now.voids ≡ count p from.voids = ap (λ (x : Part). count p x.voids) there in
            let d : count p now.done ≡ count p (from.done ++ e ∷ []) = ap (λ (x : Part). count p x.done) there in
            let d_more = count_append p from.done (e ∷ []) in
            let t_was : count p from.todo ≡ count p (e ∷ es) = ap (count p) first in
            let old_t : count p old.todo ≡ count p from.todo = ap (λ n. count p (get_or w.parts n no_part).todo) (sym same) in
            let old_v : count p old.voids ≡ count p from.voids = ap (λ n. count p (get_or w.parts n no_part).voids) (sym same) in
            let old_d : count p old.done ≡ count p from.done = ap (λ n. count p (get_or w.parts n no_part).done) (sym same) in
            omega (arith, was, sends, plus, plus_new, minus, minus_new, t, v, d, d_more, t_was, old_t, old_v, old_d))
            (λ k.
            let there : now ≡ old = others r (eqb-false q r k) in
            let t : count p now.todo ≡ count p old.todo = ap (λ (x : Part). count p x.todo) there in
            let v : count p now.voids ≡ count p old.voids = ap (λ (x : Part). count p x.voids) there in
            let d : count p now.done ≡ count p old.done = ap (λ (x : Part). count p x.done) there in
            omega (arith, was, sends, plus, plus_new, minus, minus_new, t, v, d));
      }

  -- ---- roll back

  roll_back_counted : (w : World) (q : ℕ) → q < routers net → IsCounted w → IsCounted (roll_back net w q (part w q))
  unfolding roll_back part
  roll_back_counted w q inside_q b =
      let from = get_or w.parts q no_part in
      let stay = until (is_wrong from) from.done in
      let off = since (is_wrong from) from.done in
      let mid : Part = record { done = stay; todo = from.todo; voids = from.voids } in
      let new : Part = with_todo off mid in
      let ps = set w.parts q new in
      let within : q < length w.parts = omega (arith, inside_q, b.count) in
      let own : get_or ps q no_part ≡ new = get_or-set_same w.parts q new no_part within in
      let own_done : (get_or ps q no_part).done ≡ stay = ap (λ (x : Part). x.done) own ∙ todo_done off mid in
      let others : (s : ℕ) → (q ≡ s → ⊥) → get_or ps s no_part ≡ get_or w.parts s no_part = λ s ne. set_there w.parts new q s ne in
      let out = sent_from net (state net q stay) off in
      record {
        count = length-set w.parts q new ∙ b.count;
        rises = λ r l.
            by_test (eqb q r)
            (λ k.
            let same : q ≡ r = eqb-true q r k in
            subst (λ n. IsRising (get_or ps n no_part).done) same
            (subst IsRising (sym own_done) (pairs_until (is_wrong from) from.done (b.rises q inside_q))))
            (λ k. subst (λ (x : Part). IsRising x.done) (sym (others r (eqb-false q r k))) (b.rises r l));
        equal = λ r l p.
            let old = get_or w.parts r no_part in
            let now = get_or ps r no_part in
            let was : count p old.todo + count p old.done + count (at_and r p) (plus_of w.flight) ≡ count p (injected (suc w.floor) w.accepted r) + count p (sent_to net (λ s. (get_or w.parts s no_part).done) r) + count (at_and r p) (minus_of w.flight) + count p old.voids = b.equal r l p in
            let sends =
            sent_to_more p r q (λ s. (get_or ps s no_part).done) (λ s. (get_or w.parts s no_part).done) out inside_q
            (λ s ne. ap (λ (x : Part). x.done) (sym (others s ne)))
            (ap (sent net q) (sym (until_since (is_wrong from) from.done)) ∙ sent_append q stay off ∙ ap (λ l. sent net q l ++ out) (sym own_done)) in
            let plus = count_plus_of (at_and r p) w.flight (signed false out) in
            let plus_new : count (at_and r p) (plus_of (signed false out)) ≡ 0 = ap (count (at_and r p)) (plus_of_minus out) in
            let minus = count_minus_of (at_and r p) w.flight (signed false out) in
            let minus_new : count (at_and r p) (minus_of (signed false out)) ≡ count (at_and r p) out = ap (count (at_and r p)) (minus_of_minus out) in
            by_test (eqb q r)
            (λ k.
            let same : q ≡ r = eqb-true q r k in
            let there : now ≡ new = ap (λ n. get_or ps n no_part) (sym same) ∙ own in
            let t : count p now.todo ≡ count p new.todo = ap (λ (x : Part). count p x.todo) there in
            let v : count p now.voids ≡ count p new.voids = ap (λ (x : Part). count p x.voids) there in
            let d : count p now.done ≡ count p stay = ap (λ (x : Part). count p x.done) there ∙ ap (count p) (todo_done off mid) in
            let d_was : count p from.done ≡ count p (stay ++ off) = ap (count p) (sym (until_since (is_wrong from) from.done)) in
            let d_split = count_append p stay off in
            let more = count_todo p off mid in
            let old_t : count p old.todo ≡ count p from.todo = ap (λ n. count p (get_or w.parts n no_part).todo) (sym same) in
            let old_v : count p old.voids ≡ count p from.voids = ap (λ n. count p (get_or w.parts n no_part).voids) (sym same) in
            let old_d : count p old.done ≡ count p from.done = ap (λ n. count p (get_or w.parts n no_part).done) (sym same) in
            omega (arith, was, sends, plus, plus_new, minus, minus_new, t, v, d, d_was, d_split, more, old_t, old_v, old_d))
            (λ k.
            let there : now ≡ old = others r (eqb-false q r k) in
            let t : count p now.todo ≡ count p old.todo = ap (λ (x : Part). count p x.todo) there in
            let v : count p now.voids ≡ count p old.voids = ap (λ (x : Part). count p x.voids) there in
            let d : count p now.done ≡ count p old.done = ap (λ (x : Part). count p x.done) there in
            omega (arith, was, sends, plus, plus_new, minus, minus_new, t, v, d));
      }

  none_counted : (w : World) (place : ℕ) → IsCounted w → IsCounted (deliver w place None)
  unfolding deliver
  none_counted w place b = b

  idle_counted : (w : World) (r : ℕ) → IsCounted w → IsCounted (handle net w r (part w r) [])
  unfolding handle
  idle_counted w r b = b

  -- ---- every step

  pub step_counted : (w : World) (s : Step) → is_enabled net w s ≡ true → IsCounted w → IsCounted (after net w s)
  unfolding after is_enabled part
  step_counted w Beacon h b = beacon_counted w b
  step_counted w (Inject x) h b = inject_counted w x b
  step_counted w Close h b = record { count = b.count; rises = b.rises; equal = b.equal }
  step_counted w (Deliver place) h b = delivered (slice_get w.flight place) refl
    where
      delivered : (o : Option Packet) → slice_get w.flight place ≡ o → IsCounted (deliver w place o)
      delivered None e = none_counted w place b
      delivered (Some k) e = deliver_counted w place k e b
  step_counted w (Handle r) h b = handled (part w r).todo refl
    where
      handled : (es : List Event) → (part w r).todo ≡ es → IsCounted (handle net w r (part w r) es)
      handled [] e = idle_counted w r b
      handled (x ∷ xs) e =
          let g = both_true (nat_lt r (routers net)) (is_ready (part w r)) h in
          handle_counted w r x xs (ltb-true r (routers net) g.0) e (ready_last (part w r) x xs e g.1) b
  step_counted w (RollBack r) h b =
      let g = both_true (nat_lt r (routers net)) (is_behind (part w r)) h in
      roll_back_counted w r (ltb-true r (routers net) g.0) b
  step_counted w Commit h b = record { count = b.count; rises = b.rises; equal = b.equal }
