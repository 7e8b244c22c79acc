-- The end: in a quiet world each router has handled its whole lockstep list.
use Rattle.std.proofs.Common.{◌≡◌, ℕ, suc, ◌+◌, ◌<◌, ◌≤◌, Bool, true, false, not, ◌&&◌, ltb, List, [], ◌∷◌, ◌++◌, length, get_or, take, refl, sym, ap, ◌∙◌, arith}
use Rattle.std.specs.Prelude.{nat_lt}
use Rattle.std.specs.List.{filter, list_any, AllByRecursion}
use Rattle.std.specs.Ordering.{is_lt, nat_cmp, ordering_then, MatchOrdering}
use Rattle.std.specs.declared.cmp.Ordering.{Ordering}
use Rattle.std.specs.declared.cmp.Ordering.TheVariants.{Less, Equal, Greater}
use Rattle.std.specs.Cmp.{ranked}
use Rattle.std.proofs.lemmas.Bool.{ltb-true, ltb-false}
use Rattle.std.proofs.Math.Nat.{mul-le-mul_right}
use Rattle.dn_model.specs.declared.event.Event.{Event}
use Rattle.dn_model.specs.Cases.{Heading}
use Rattle.dn_model.specs.Order.{key_cmp, event_cmp, event_total, is_below, sorted}
use Rattle.dn_model.specs.Network.{Network, injected, routers, sent_to}
use Rattle.dn_model.specs.Settled.{below, due, lockstep, rows, shown_rows, is_cut, row_limit, IsSettled}
use Rattle.dn_lists.proofs.Lists.{by_test, all_weaker, filter_all}
use Rattle.dn_lists.proofs.Sorting.{one_if, count, count_append, sorted_from_rises, permutation_from_counts}
use Rattle.dn_model.proofs.EventOrder.{event_same}
use Rattle.dn_model.proofs.Causes.{IsTimely}
use Rattle.dn_model.proofs.Waves.{no_other_settled}
use Rattle.dn_model.proofs.Rows.{joined_same}
use Rattle.dn_world.specs.World.{Part, World, no_part, part, dones, plus_of, minus_of, key_of, is_same, stands, is_before_last, is_behind, is_empty, is_quiet, are_quiet, waiting_at, waiting, flying, least_key, floor_bound, horizon}
use Rattle.dn_world.specs.Runs.{settled_rows, committed, is_cut_off, IsPlayable}
use Rattle.dn_world.proofs.Parts.{all_get, same_itself, absent_none}
use Rattle.dn_world.proofs.Balance.{both_true, or_false, not_false, at_and}
use Rattle.dn_world.proofs.Sound.{IsSound, done_at}

-- ---- lists that are empty

empty_is : {X : Type 0} (xs : List X) → is_empty xs ≡ true → xs ≡ []
empty_is [] h = refl
empty_is (x ∷ xs) h = absurd (cc)

abbrev pub IsCalm : Part → Type 0
IsCalm q = (q.todo ≡ []) × (is_behind q ≡ false)

calm_parts : (qs : List Part) → are_quiet qs ≡ true → AllByRecursion IsCalm qs
unfolding are_quiet
calm_parts [] h = tt
calm_parts (q ∷ qs) h =
    let a = both_true (is_empty q.todo && not (is_behind q)) (are_quiet qs) h in
    let b = both_true (is_empty q.todo) (not (is_behind q)) a.0 in
    ((empty_is q.todo b.0, not_false (is_behind q) b.1), calm_parts qs a.1)

no_part_calm : IsCalm no_part
unfolding is_behind
no_part_calm = (refl, refl)

-- the first of voids, where the router isn't behind, doesn't stand in done
first_absent : (q : Part) (v : Event) (vs : List Event) → q.voids ≡ v ∷ vs → is_behind q ≡ false → stands v q.done ≡ false
unfolding is_behind
first_absent q v vs e h =
    let calm = (or_false (list_any (is_before_last q.done) q.todo) (list_any (λ v. stands v q.done) q.voids) h).1 in
    let all : list_any (λ v. stands v q.done) (v ∷ vs) ≡ false = ap (list_any (λ v. stands v q.done)) (sym e) ∙ calm in
    (or_false (stands v q.done) (list_any (λ v. stands v q.done) vs) all).0

nothing_waits : (qs : List Part) → ((r : ℕ) → r < length qs → ((get_or qs r no_part).todo ≡ []) × ((get_or qs r no_part).voids ≡ [])) → waiting_at qs ≡ []
unfolding waiting_at
nothing_waits [] h = refl
nothing_waits (q ∷ qs) h =
    let a = h 0 (omega arith) in
    let ih = nothing_waits qs (λ r l. h (suc r) (omega (arith, l))) in
    λ i. a.0 i ++ a.1 i ++ ih i

pub quiet_parts : (w : World) → is_quiet w ≡ true → (w.closed ≡ true) × (w.flight ≡ []) × AllByRecursion IsCalm w.parts
unfolding is_quiet
quiet_parts w quiet =
    let a = both_true (w.closed && is_empty w.flight) (are_quiet w.parts) quiet in
    let b = both_true w.closed (is_empty w.flight) a.0 in
    (b.0, empty_is w.flight b.1, calm_parts w.parts a.1)

pub calm_part : (w : World) (r : ℕ) → is_quiet w ≡ true → IsCalm (part w r)
unfolding part
calm_part w r quiet = all_get IsCalm w.parts r no_part (quiet_parts w quiet).2 no_part_calm

-- ---- keys of the groups

less_group : (a b : ℕ) (r : Ordering) → a < b → is_lt (ordering_then (nat_cmp a b) r) ≡ true
less_group a b r h = cases (nat_cmp a b) (ranked a b (nat_cmp a b) refl)
  where
    cases : (o : Ordering) → MatchOrdering o (a < b) (a ≡ b) (b < a) → is_lt (ordering_then o r) ≡ true
    cases Less m = refl
    cases Equal m = absurd (omega (arith, h, m))
    cases Greater m = absurd (omega (arith, h, m))

timely_below : (h : Heading) (e : Event) → IsTimely h e → is_below (key_of h.groups 0) e ≡ true
unfolding is_below key_cmp
timely_below h e t = less_group e.key.group h.groups _ (by_test (ltb e.key.group h.groups) (λ g. ltb-true e.key.group h.groups g) (λ g.
    let le : h.groups ≤ e.key.group = ltb-false e.key.group h.groups g in
    absurd (omega (arith, mul-le-mul_right h.period le, t.1))))

module _ {S : Type 0} (net : Network S) (playable : IsPlayable net.header) (w : World) (sound : IsSound net w) (quiet : is_quiet w ≡ true) where
  quiet_is : (w.closed ≡ true) × (w.flight ≡ []) × AllByRecursion IsCalm w.parts
  quiet_is = quiet_parts w quiet

  calm_at : (r : ℕ) → IsCalm (part w r)
  calm_at r = calm_part w r quiet

  none_fly : (r : ℕ) (p : Event → Bool) → (count (at_and r p) (plus_of w.flight) ≡ 0) × (count (at_and r p) (minus_of w.flight) ≡ 0)
  unfolding plus_of minus_of
  none_fly r p =
      let e = quiet_is.1 in (ap (λ ks. count (at_and r p) (plus_of ks)) e, ap (λ ks. count (at_and r p) (minus_of ks)) e)

  -- what is handled is what is due, and what waits in voids
  handled : (r : ℕ) → r < routers net → (p : Event → Bool) → count p (dones w r) ≡ count p (due net w.accepted (dones w) r) + count p (part w r).voids
  unfolding due
  handled r l p =
      let was = sound.counted.equal r l p in
      let todo : count p (part w r).todo ≡ 0 = ap (count p) (calm_at r).0 in
      let fly = none_fly r p in
      let inj : count p (injected (suc w.floor) w.accepted r) ≡ count p (injected net.header.groups w.accepted r) = ap (λ n. count p (injected n w.accepted r)) (sound.closing quiet_is.0) in
      let split = count_append p (injected net.header.groups w.accepted r) (sent_to net (dones w) r) in
      omega (arith, was, todo, fly.0, fly.1, inj, split)

  pub no_voids : (r : ℕ) → r < routers net → (part w r).voids ≡ []
  no_voids r l = cases (part w r).voids refl
    where
      cases : (vs : List Event) → (part w r).voids ≡ vs → (part w r).voids ≡ []
      cases [] e = e
      cases (v ∷ vs) e =
          let none = absent_none v (part w r).done (first_absent (part w r) v vs e (calm_at r).1) in
          let was = handled r l (is_same v) in
          let some : count (is_same v) (part w r).voids ≡ one_if (is_same v v) + count (is_same v) vs = ap (count (is_same v)) e in
          let one : one_if (is_same v v) ≡ 1 = ap one_if (same_itself v) in
          absurd (omega (arith, none, was, some, one))

  done_settled : IsSettled net w.accepted (dones w)
  done_settled = record {
    sorted = λ r l. sorted_from_rises event_cmp event_total (dones w r) (sound.counted.rises r l);
    complete = λ r l.
        permutation_from_counts event_cmp event_total event_same (due net w.accepted (dones w) r) (dones w r)
        (λ p.
        let was = handled r l p in
        let none : count p (part w r).voids ≡ 0 = ap (count p) (no_voids r l) in
        let e : count p (due net w.accepted (dones w) r) ≡ count p (dones w r) = omega (arith, was, none) in
        e);
  }

  pub quiet_lockstep : (r : ℕ) → r < routers net → (part w r).done ≡ lockstep net w.accepted r
  quiet_lockstep r l = no_other_settled net w.accepted playable.timed sound.accepted (dones w) done_settled r l

  quiet_horizon : horizon net.header w ≡ key_of net.header.groups 0
  unfolding horizon waiting flying least_key floor_bound part
  quiet_horizon =
      let parts = nothing_waits w.parts (λ r l. ((calm_at r).0, no_voids r (omega (arith, l, sound.counted.count)))) in
      let fly = quiet_is.1 in
      let closed = quiet_is.0 in
      (λ i. least_key (floor_bound net.header w) (parts i ++ flying (fly i))) ∙ (simp closed)

  done_below : w.boundary ≡ horizon net.header w → (r : ℕ) → r < routers net → below w.boundary (dones w r) ≡ lockstep net w.accepted r
  unfolding below
  done_below e r l =
      ap (λ b. filter (is_below b) (dones w r)) (e ∙ quiet_horizon)
      ∙ filter_all (is_below (key_of net.header.groups 0)) (dones w r)
      (all_weaker (IsTimely net.header) (λ e. is_below (key_of net.header.groups 0) e ≡ true) (dones w r) (λ e t. timely_below net.header e t) (done_at (IsTimely net.header) w r sound.done))
      ∙ quiet_lockstep r l

  quiet_rows : w.boundary ≡ horizon net.header w → settled_rows net w ≡ rows net w.accepted
  unfolding settled_rows rows
  quiet_rows e =
      ap sorted (joined_same (routers net) (λ r. below w.boundary (part w r).done) (lockstep net w.accepted) (done_below e))

  pub quiet_committed : w.boundary ≡ horizon net.header w → committed net w ≡ shown_rows net w.accepted
  unfolding committed shown_rows
  quiet_committed e = ap (take row_limit) (quiet_rows e)

  pub quiet_cut : w.boundary ≡ horizon net.header w → is_cut_off net w ≡ is_cut net w.accepted
  unfolding is_cut_off is_cut
  quiet_cut e = ap (λ es. nat_lt row_limit (length es)) (quiet_rows e)
