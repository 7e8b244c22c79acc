-- What there is to do: its condition holds, and that of no other answer does.
use Rattle.std.proofs.Common.{◌≡◌, ℕ, zero, suc, ◌+◌, ◌<◌, Bool, true, false, not, ◌&&◌, List, [], ◌∷◌, length, get_or, refl, sym, ap, ◌∙◌, subst, arith}
use Rattle.std.specs.Prelude.{Option, Some, None, if◌then◌else◌, nat_lt, slice_get}
use Rattle.std.specs.Ordering.{is_lt, is_gt}
use Rattle.std.specs.declared.cmp.Ordering.{Ordering}
use Rattle.std.specs.declared.cmp.Ordering.TheVariants.{Less, Equal, Greater}
use Rattle.std.specs.Cmp.{upto, tied_itself}
use Rattle.std.proofs.lemmas.Bool.{ltb-true, ltb-false, false≢true}
use Rattle.dn_guest.specs.Meaning.{Meaning}
use Rattle.dn_lists.proofs.Lists.{by_test}
use Rattle.dn_lists.proofs.Sorting.{turn}
use Rattle.dn_model.specs.declared.key.Key.{Key}
use Rattle.dn_model.specs.declared.event.Event.{Event}
use Rattle.dn_model.specs.Order.{key_cmp, event_cmp, key_total, event_total}
use Rattle.dn_world.specs.declared.packet.Packet.{Packet}
use Rattle.dn_world.specs.World.{Part, World, no_part, part, is_behind, is_ready, is_empty, is_quiet, horizon}
use Rattle.dn_world.specs.Runs.{IsPast}
use Rattle.dn_fabric.specs.declared.work.Work.{Work}
use Rattle.dn_fabric.specs.declared.work.Work.TheVariants.{Deliver, RollBack, Handle, Commit, Nothing, Ended}
use Rattle.dn_fabric.specs.Fabrics.{Fabric}
use Rattle.dn_fabric.specs.Holds.{IsFabric}
use Rattle.dn_fabric.proofs.Calls.{IsAhead, horizon_past}
use Rattle.dn_fabric.specs.Work.{first_behind, is_earlier, earlier_of, least_ready, can_commit, committing, handling, rolling_back, delivering, next_work, IsFree, IsFirstBehind, IsStill, IsFirstFree, IsIdle, IsCommitted, HasWork}

-- ---- the order of events

lt_not_gt : (r : Ordering) → is_lt r ≡ true → is_gt r ≡ false
lt_not_gt Less h = refl
lt_not_gt Equal h = absurd (false≢true h)
lt_not_gt Greater h = absurd (false≢true h)

not_both : (b : Bool) → b ≡ true → b ≡ false → ⊥
not_both b h k = false≢true (sym k ∙ h)

itself : (e : Event) → is_gt (event_cmp e e) ≡ false
itself e = ap is_gt (tied_itself event_total e)

not_before : (e x : Event) → is_lt (event_cmp e x) ≡ false → is_gt (event_cmp x e) ≡ false
not_before e x h = turn event_cmp event_total e x ∙ h

-- less than one that isn't greater
less_on : (e x y : Event) → is_lt (event_cmp e x) ≡ true → is_gt (event_cmp x y) ≡ false → is_lt (event_cmp e y) ≡ true
less_on e x y h k =
    by_test (is_lt (event_cmp e y)) (λ g. g)
    (λ g. absurd (not_both (is_lt (event_cmp e x)) h (sym (turn event_cmp event_total e x) ∙ upto event_total x y e k (not_before e y g))))

-- ---- numbers and lists

same_number : (r s : ℕ) → (r < s → ⊥) → (s < r → ⊥) → r ≡ s
same_number r s p q =
    by_test (nat_lt r s)
    (λ h. absurd (p (ltb-true r s h)))
    (λ h. by_test (nat_lt s r) (λ k. absurd (q (ltb-true s r k))) (λ k. omega (arith, ltb-false r s h, ltb-false s r k)))

no_packet : (ks : List Packet) → 0 < length ks → ks ≡ [] → ⊥
no_packet ks l e = let n : length ks ≡ 0 = ap length e in omega (arith, l, n)

first_of : (b : Bool) (es : List Event) → (b && not (is_empty es)) ≡ true → (e : Event) × (slice_get es 0 ≡ Some e)
first_of true [] h = absurd (false≢true h)
first_of false [] h = absurd (false≢true h)
first_of b (e ∷ es) h = (e, refl)

-- a router that is ready has a least event
least_of : (p : Part) → is_ready p ≡ true → (e : Event) × (slice_get p.todo 0 ≡ Some e)
unfolding is_ready
least_of p h = first_of (not (is_behind p)) p.todo h

not_behind : (a b : Bool) → (not a && b) ≡ true → a ≡ false
not_behind true b h = absurd (false≢true h)
not_behind false b h = refl

ready_not_behind : (p : Part) → is_ready p ≡ true → is_behind p ≡ false
unfolding is_ready
ready_not_behind p h = not_behind (is_behind p) (not (is_empty p.todo)) h

-- ---- the first that is behind

abbrev pub AreNotBehind : List Part → ℕ → Type 0
AreNotBehind ps n = (i : ℕ) → i < n → is_behind (get_or ps i no_part) ≡ false

one_more : (p : Part) (ps : List Part) (n : ℕ) → is_behind p ≡ false → AreNotBehind ps n → AreNotBehind (p ∷ ps) (suc n)
one_more p ps n h g zero l = h
one_more p ps n h g (suc i) l = g i (omega (arith, l))

none_behind : (r : ℕ) (ps : List Part) → first_behind r ps ≡ None → AreNotBehind ps (length ps)
unfolding first_behind
none_behind r [] e = λ i l. absurd (omega (arith, l))
none_behind r (p ∷ ps) e =
    by_test (is_behind p)
    (λ h. absurd (let k : Some r ≡ None = ap (λ b. if b then Some r else first_behind (suc r) ps) (sym h) ∙ e in cc))
    (λ h. one_more p ps (length ps) h (none_behind (suc r) ps (ap (λ b. if b then Some r else first_behind (suc r) ps) (sym h) ∙ e)))

pub record IsFound (r s : ℕ) (ps : List Part) : Type 0 where
  pub place : ℕ
  pub number : s ≡ r + place
  pub within : place < length ps
  pub behind : is_behind (get_or ps place no_part) ≡ true
  pub first : AreNotBehind ps place

found_behind : (r s : ℕ) (ps : List Part) → first_behind r ps ≡ Some s → IsFound r s ps
unfolding first_behind
found_behind r s [] e = absurd (cc)
found_behind r s (p ∷ ps) e =
    by_test (is_behind p)
    (λ h.
    let k : Some r ≡ Some s = ap (λ b. if b then Some r else first_behind (suc r) ps) (sym h) ∙ e in
    let is : r ≡ s = cc in
    record { place = 0; number = omega (arith, is); within = omega arith; behind = h; first = λ i l. absurd (omega (arith, l)) })
    (λ h.
    let f = found_behind (suc r) s ps (ap (λ b. if b then Some r else first_behind (suc r) ps) (sym h) ∙ e) in
    let number = f.number in
    let within = f.within in
    record { place = suc f.place; number = omega (arith, number); within = omega (arith, within); behind = f.behind; first = one_more p ps f.place h f.first })

part_at : (w : World) (r : ℕ) → get_or w.parts r no_part ≡ part w r
unfolding part
part_at w r = refl

-- there is a part for each router, the horizon isn't below the boundary, and two keys, neither before the other, are one
pub record IsKnown {S : Type 0} (f : Fabric S) : Type 0 where
  pub count : length f.live.world.parts ≡ length f.live.header.routers
  pub past : f.live.stopped ≡ false → IsPast f.live.world.boundary (horizon f.live.header f.live.world)
  pub only : (a b : Key) → IsPast a b → IsPast b a → a ≡ b

pub known_of : {S : Type 0} (guests : Meaning S) → IsAhead guests → ((a b : Key) → IsPast a b → IsPast b a → a ≡ b) → (b f : Fabric S) → b ≡ f → IsFabric guests b → length b.live.world.parts ≡ length b.live.header.routers → IsKnown f
known_of {S} guests ahead only b f same holds count =
    subst (λ (x : Fabric S). IsKnown x) same (record { count = count; past = horizon_past guests ahead b holds; only = only })

module _ {S : Type 0} (f : Fabric S) where
  -- ---- the free router whose least event is the least

  -- of the routers before n that are free
  abbrev pub IsBest : ℕ → Option (ℕ × Event) → Type 0
  IsBest n None = (s : ℕ) → s < n → IsFree f s → ⊥
  IsBest n (Some found) =
      (found.0 < n) × IsFree f found.0 × (slice_get (part f.live.world found.0).todo 0 ≡ Some found.1) × ((s : ℕ) → s < n → IsFree f s → (x : Event) → slice_get (part f.live.world s).todo 0 ≡ Some x → (is_gt (event_cmp found.1 x) ≡ false) × (s < found.0 → is_lt (event_cmp found.1 x) ≡ true))

  -- one that isn't free changes nothing
  best_kept : (n : ℕ) (found : Option (ℕ × Event)) → (IsFree f n → ⊥) → IsBest n found → IsBest (suc n) found
  best_kept n None unfree b = λ s l free. by_test (nat_lt s n) (λ h. b s (ltb-true s n h) free) (λ h. let e : s ≡ n = omega (arith, l, ltb-false s n h) in unfree (subst (IsFree f) e free))
  best_kept n (Some found) unfree b = (
    (let l = b.0 in omega (arith, l)),
    b.1,
    b.2,
    λ s l free x h. by_test (nat_lt s n) (λ k. b.3 s (ltb-true s n k) free x h) (λ k. let e : s ≡ n = omega (arith, l, ltb-false s n k) in absurd (unfree (subst (IsFree f) e free))),
  )

  -- one that is free
  best_first : (n : ℕ) (e : Event) → IsFree f n → slice_get (part f.live.world n).todo 0 ≡ Some e → ((s : ℕ) → s < n → IsFree f s → (x : Event) → slice_get (part f.live.world s).todo 0 ≡ Some x → is_lt (event_cmp e x) ≡ true) → IsBest (suc n) (Some (n, e))
  best_first n e free is before = (
    omega arith,
    free,
    is,
    λ s l own x h. by_test (nat_lt s n)
        (λ k. let less = before s (ltb-true s n k) own x h in (lt_not_gt (event_cmp e x) less, λ _. less))
        (λ k.
        let low = ltb-false s n k in
        let at : s ≡ n = omega (arith, l, low) in
        let same : Some e ≡ Some x = sym is ∙ ap (λ r. slice_get (part f.live.world r).todo 0) (sym at) ∙ h in
        let one : e ≡ x = cc in
        (subst (λ y. is_gt (event_cmp e y) ≡ false) one (itself e), λ m. absurd (omega (arith, m, low)))),
  )

  best_stays : (n : ℕ) (e : Event) (found : ℕ × Event) → slice_get (part f.live.world n).todo 0 ≡ Some e → is_lt (event_cmp e found.1) ≡ false → IsBest n (Some found) → IsBest (suc n) (Some found)
  best_stays n e found is late b = (
    (let l = b.0 in omega (arith, l)),
    b.1,
    b.2,
    λ s l own x h. by_test (nat_lt s n)
        (λ k. b.3 s (ltb-true s n k) own x h)
        (λ k.
        let low = ltb-false s n k in
        let at : s ≡ n = omega (arith, l, low) in
        let same : Some e ≡ Some x = sym is ∙ ap (λ r. slice_get (part f.live.world r).todo 0) (sym at) ∙ h in
        let one : e ≡ x = cc in
        let under = b.0 in
        (subst (λ y. is_gt (event_cmp found.1 y) ≡ false) one (not_before e found.1 late), λ m. absurd (omega (arith, m, low, under)))),
  )

  best_of : (n : ℕ) (e : Event) (found : Option (ℕ × Event)) → IsFree f n → slice_get (part f.live.world n).todo 0 ≡ Some e → IsBest n found → IsBest (suc n) (if is_earlier e found then Some (n, e) else found)
  best_of n e None free is b = best_first n e free is (λ s l own x h. absurd (b s l own))
  best_of n e (Some found) free is b =
      by_test (is_lt (event_cmp e found.1))
      (λ h. subst (λ t. IsBest (suc n) (if t then Some (n, e) else Some found)) (sym h) (best_first n e free is (λ s l own x g. less_on e found.1 x h (b.3 s l own x g).0)))
      (λ h. subst (λ t. IsBest (suc n) (if t then Some (n, e) else Some found)) (sym h) (best_stays n e found is h b))

  best_among : (n : ℕ) (todo : List Event) (e : Event) (found : Option (ℕ × Event)) → IsFree f n → (part f.live.world n).todo ≡ todo → slice_get todo 0 ≡ Some e → IsBest n found → IsBest (suc n) (earlier_of n todo found)
  best_among n [] e found free is h b = absurd (cc)
  best_among n (y ∷ ys) e found free is h b = best_of n y found free (ap (λ es. slice_get es 0) is) b

  free_at : (n : ℕ) → n < length f.live.header.routers → (a b : Bool) → is_ready (part f.live.world n) ≡ a → get_or f.leased n false ≡ b → (a && not b) ≡ true → IsFree f n
  free_at n l true false h k e = record { inside = l; ready = h; unleased = k }
  free_at n l true true h k e = absurd (false≢true e)
  free_at n l false b h k e = absurd (false≢true e)

  not_free_at : (n : ℕ) → (is_ready (part f.live.world n) && not (get_or f.leased n false)) ≡ false → IsFree f n → ⊥
  not_free_at n h free = false≢true (sym h ∙ (λ i. free.ready i && not (free.unleased i)))

  best_next : (n : ℕ) (p : Part) (found : Option (ℕ × Event)) → n < length f.live.header.routers → p ≡ part f.live.world n → IsBest n found → IsBest (suc n) (if is_ready p && not (get_or f.leased n false) then earlier_of n p.todo found else found)
  best_next n p found l is b =
      by_test (is_ready p && not (get_or f.leased n false))
      (λ h.
      let free = free_at n l (is_ready (part f.live.world n)) (get_or f.leased n false) refl refl (ap (λ q. is_ready q && not (get_or f.leased n false)) (sym is) ∙ h) in
      let least = least_of (part f.live.world n) free.ready in
      subst (λ t. IsBest (suc n) (if t then earlier_of n p.todo found else found)) (sym h)
      (best_among n p.todo least.0 found free (ap (λ q. q.todo) (sym is)) (ap (λ q. slice_get q.todo 0) is ∙ least.1) b))
      (λ h.
      subst (λ t. IsBest (suc n) (if t then earlier_of n p.todo found else found)) (sym h)
      (best_kept n found (not_free_at n (ap (λ q. is_ready q && not (get_or f.leased n false)) (sym is) ∙ h)) b))

  best_all : (ps : List Part) (n : ℕ) (found : Option (ℕ × Event)) → ((i : ℕ) → get_or ps i no_part ≡ part f.live.world (n + i)) → n + length ps ≡ length f.live.header.routers → IsBest n found → IsBest (length f.live.header.routers) (least_ready n ps f.leased found)
  unfolding least_ready
  best_all [] n found at e b = subst (λ m. IsBest m found) (let k : n ≡ length f.live.header.routers = omega (arith, e) in k) b
  best_all (p ∷ ps) n found at e b =
      let here : n + 0 ≡ n = omega arith in
      best_all ps (suc n) (if is_ready p && not (get_or f.leased n false) then earlier_of n p.todo found else found)
      (λ i. at (suc i) ∙ ap (part f.live.world) (let k : n + suc i ≡ suc n + i = omega arith in k))
      (omega (arith, e))
      (best_next n p found (omega (arith, e)) (at 0 ∙ ap (part f.live.world) here) b)

  -- ---- the condition of what there is to do

  module _ (known : IsKnown f) where
    at_boundary : can_commit f.live.header f.live.world ≡ false → f.live.stopped ≡ false → f.live.world.boundary ≡ horizon f.live.header f.live.world
    unfolding can_commit
    at_boundary h running =
        let w = f.live.world in
        let upper = horizon f.live.header w in
        known.only w.boundary upper (known.past running) (sym (turn key_cmp key_total w.boundary upper) ∙ h)

    has_end : (b q : Bool) → IsIdle f → can_commit f.live.header f.live.world ≡ b → is_quiet f.live.world ≡ q → HasWork f (if b then Commit else (if q then Ended else Nothing))
    has_end true q idle c e = (idle, c)
    has_end false true idle c e = (record { idle = idle; below = c; at = at_boundary c }, e)
    has_end false false idle c e = (record { idle = idle; below = c; at = at_boundary c }, e)

    has_committing : IsIdle f → HasWork f (committing f)
    unfolding committing
    has_committing idle = has_end (can_commit f.live.header f.live.world) (is_quiet f.live.world) idle refl refl

    has_handling : (o : Option (ℕ × Event)) → IsStill f → IsBest (length f.live.header.routers) o → HasWork f (handling f o)
    has_handling None still b = has_committing (record { still = still; none = λ r free. b r free.inside free })
    has_handling (Some found) still b = record {
      still = still;
      free = b.1;
      first = λ s own e x g h.
          let same : Some found.1 ≡ Some e = sym b.2 ∙ g in
          let one : found.1 ≡ e = cc in
          subst (λ y. (is_gt (event_cmp y x) ≡ false) × (s < found.0 → is_lt (event_cmp y x) ≡ true)) one (b.3 s own.inside own x h);
    }

    has_rolling_back : (o : Option ℕ) → first_behind 0 f.live.world.parts ≡ o → f.live.world.flight ≡ [] → HasWork f (rolling_back f o)
    has_rolling_back None e none =
        let count = known.count in
        let ps = f.live.world.parts in
        has_handling (least_ready 0 ps f.leased None)
        (record { flight = none; behind = λ r l. ap is_behind (sym (part_at f.live.world r)) ∙ none_behind 0 ps e r (omega (arith, l, count)) })
        (best_all ps 0 None (λ i. part_at f.live.world i ∙ ap (part f.live.world) (let k : i ≡ 0 + i = omega arith in k)) (omega (arith, count)) (λ s l free. absurd (omega (arith, l))))
    has_rolling_back (Some r) e none =
        let count = known.count in
        let w = f.live.world in
        let h = found_behind 0 r w.parts e in
        let number = h.number in
        let within = h.within in
        let is : h.place ≡ r = omega (arith, number) in
        record {
          flight = none;
          inside = omega (arith, count, number, within);
          behind = ap is_behind (sym (part_at w r) ∙ ap (λ k. get_or w.parts k no_part) (sym is)) ∙ h.behind;
          first = λ s l. ap is_behind (sym (part_at w s)) ∙ h.first s (omega (arith, l, number));
        }

    has_delivering : (ks : List Packet) → f.live.world.flight ≡ ks → HasWork f (delivering f ks)
    has_delivering [] e = has_rolling_back (first_behind 0 f.live.world.parts) refl e
    has_delivering (k ∷ ks) e = (refl, (let n : length f.live.world.flight ≡ suc (length ks) = ap length e in omega (arith, n)))

    has_next : HasWork f (next_work f)
    unfolding next_work
    has_next = has_delivering f.live.world.flight refl

    pub has_work : (w : Work) → w ≡ next_work f → HasWork f w
    has_work w e = subst (HasWork f) (sym e) has_next

  -- ---- and of no other

  delivers_alone : 0 < length f.live.world.flight → (w : Work) → HasWork f w → w ≡ Deliver 0
  delivers_alone l (Deliver n) h = ap Deliver h.0
  delivers_alone l (RollBack r) h = absurd (no_packet f.live.world.flight l h.flight)
  delivers_alone l (Handle r) h = absurd (no_packet f.live.world.flight l h.still.flight)
  delivers_alone l Commit h = absurd (no_packet f.live.world.flight l h.0.still.flight)
  delivers_alone l Nothing h = absurd (no_packet f.live.world.flight l h.0.idle.still.flight)
  delivers_alone l Ended h = absurd (no_packet f.live.world.flight l h.0.idle.still.flight)

  behind_still : (r : ℕ) → IsFirstBehind f r → IsStill f → ⊥
  behind_still r a still = not_both (is_behind (part f.live.world r)) a.behind (still.behind r a.inside)

  rolls_alone : (r : ℕ) → IsFirstBehind f r → (w : Work) → HasWork f w → w ≡ RollBack r
  rolls_alone r a (Deliver n) h = absurd (no_packet f.live.world.flight h.1 a.flight)
  rolls_alone r a (RollBack s) h =
      ap RollBack
      (same_number s r
      (λ l. not_both (is_behind (part f.live.world s)) h.behind (a.first s l))
      (λ l. not_both (is_behind (part f.live.world r)) a.behind (h.first r l)))
  rolls_alone r a (Handle s) h = absurd (behind_still r a h.still)
  rolls_alone r a Commit h = absurd (behind_still r a h.0.still)
  rolls_alone r a Nothing h = absurd (behind_still r a h.0.idle.still)
  rolls_alone r a Ended h = absurd (behind_still r a h.0.idle.still)

  -- of two that would both come first the lesser one isn't later
  not_first : (r s : ℕ) → IsFirstFree f r → IsFirstFree f s → s < r → ⊥
  not_first r s a h l =
      let e = least_of (part f.live.world r) a.free.ready in
      let x = least_of (part f.live.world s) h.free.ready in
      let less : is_lt (event_cmp e.0 x.0) ≡ true = (a.first s h.free e.0 x.0 e.1 x.1).1 l in
      let late : is_gt (event_cmp x.0 e.0) ≡ false = (h.first r a.free x.0 e.0 x.1 e.1).0 in
      not_both (is_lt (event_cmp e.0 x.0)) less (sym (turn event_cmp event_total e.0 x.0) ∙ late)

  handles_alone : (r : ℕ) → IsFirstFree f r → (w : Work) → HasWork f w → w ≡ Handle r
  handles_alone r a (Deliver n) h = absurd (no_packet f.live.world.flight h.1 a.still.flight)
  handles_alone r a (RollBack s) h = absurd (behind_still s h a.still)
  handles_alone r a (Handle s) h = ap Handle (same_number s r (not_first r s a h) (not_first s r h a))
  handles_alone r a Commit h = absurd (h.0.none r a.free)
  handles_alone r a Nothing h = absurd (h.0.idle.none r a.free)
  handles_alone r a Ended h = absurd (h.0.idle.none r a.free)

  commits_alone : IsIdle f → can_commit f.live.header f.live.world ≡ true → (w : Work) → HasWork f w → w ≡ Commit
  commits_alone a c (Deliver n) h = absurd (no_packet f.live.world.flight h.1 a.still.flight)
  commits_alone a c (RollBack s) h = absurd (behind_still s h a.still)
  commits_alone a c (Handle s) h = absurd (a.none s h.free)
  commits_alone a c Commit h = refl
  commits_alone a c Nothing h = absurd (not_both (can_commit f.live.header f.live.world) c h.0.below)
  commits_alone a c Ended h = absurd (not_both (can_commit f.live.header f.live.world) c h.0.below)

  ends_alone : IsCommitted f → is_quiet f.live.world ≡ true → (w : Work) → HasWork f w → w ≡ Ended
  ends_alone a q (Deliver n) h = absurd (no_packet f.live.world.flight h.1 a.idle.still.flight)
  ends_alone a q (RollBack s) h = absurd (behind_still s h a.idle.still)
  ends_alone a q (Handle s) h = absurd (a.idle.none s h.free)
  ends_alone a q Commit h = absurd (not_both (can_commit f.live.header f.live.world) h.1 a.below)
  ends_alone a q Nothing h = absurd (not_both (is_quiet f.live.world) q h.1)
  ends_alone a q Ended h = refl

  waits_alone : IsCommitted f → is_quiet f.live.world ≡ false → (w : Work) → HasWork f w → w ≡ Nothing
  waits_alone a q (Deliver n) h = absurd (no_packet f.live.world.flight h.1 a.idle.still.flight)
  waits_alone a q (RollBack s) h = absurd (behind_still s h a.idle.still)
  waits_alone a q (Handle s) h = absurd (a.idle.none s h.free)
  waits_alone a q Commit h = absurd (not_both (can_commit f.live.header f.live.world) h.1 a.below)
  waits_alone a q Nothing h = refl
  waits_alone a q Ended h = absurd (not_both (is_quiet f.live.world) h.1 q)

  pub only_work : (v : Work) → HasWork f v → (w : Work) → HasWork f w → w ≡ v
  only_work (Deliver n) a w h = delivers_alone a.1 w h ∙ sym (ap Deliver a.0)
  only_work (RollBack r) a w h = rolls_alone r a w h
  only_work (Handle r) a w h = handles_alone r a w h
  only_work Commit a w h = commits_alone a.0 a.1 w h
  only_work Nothing a w h = waits_alone a.0 a.1 w h
  only_work Ended a w h = ends_alone a.0 a.1 w h
