-- The boundary: what waits is at the boundary or past it, and the horizon never falls.
use Rattle.std.proofs.Common.{◌≡◌, ℕ, suc, ◌+◌, ◌*◌, ◌/◌, ◌%◌, ◌<◌, ◌≤◌, ◌⊎◌, inl, inr, Bool, true, false, not, ◌&&◌, ltb, List, [], ◌∷◌, ◌++◌, length, refl, sym, ap, ◌∙◌, subst, arith}
use Rattle.std.specs.Prelude.{◌==◌, Option, Some, None, slice_get, nat_lt}
use Rattle.std.specs.List.{AllByRecursion}
use Rattle.std.specs.Ordering.{is_lt, is_gt, nat_cmp, ordering_then, MatchOrdering}
use Rattle.std.specs.declared.cmp.Ordering.{Ordering}
use Rattle.std.specs.declared.cmp.Ordering.TheVariants.{Less, Equal, Greater}
use Rattle.std.specs.Cmp.{upto, ranked, tied_itself}
use Rattle.std.proofs.lemmas.Bool.{eqb-true, ltb-true, ltb-false, false≢true}
use Rattle.std.proofs.Math.Nat.{mul-le-mul_right, mod-lt, suc-mul}
use Rattle.std.proofs.lemmas.Nat.{div-add-mod'}
use Rattle.dn_guest.specs.Node.{node_after, node_sent}
use Rattle.dn_guest.specs.declared.node.Sent.{Sent}
use Rattle.dn_guest.specs.declared.node.Node.{Node}
use Rattle.dn_model.specs.declared.key.Key.{Key}
use Rattle.dn_model.specs.declared.event.Event.{Event}
use Rattle.dn_model.specs.declared.link.End.{End}
use Rattle.dn_model.specs.declared.feed.External.{External}
use Rattle.dn_model.specs.Cases.{Heading, timing_of}
use Rattle.dn_model.specs.Links.{ends}
use Rattle.dn_model.specs.Keys.{moment, message_key, next_key}
use Rattle.dn_model.specs.Order.{key_cmp, event_cmp, key_total, event_total}
use Rattle.dn_model.specs.Network.{Network, emitted, emitted_by, message_with, message_at, tick, external, routers, sent_from, state}
use Rattle.dn_model.specs.Settled.{IsTimed}
use Rattle.dn_lists.proofs.Lists.{by_test, all_weaker, all_append, all_front, all_back}
use Rattle.dn_lists.proofs.Sorting.{turn}
use Rattle.dn_model.proofs.EventOrder.{keys_rise}
use Rattle.dn_model.proofs.Causes.{Whenever, whenever_if, whenever_get, all_filter_map, ends_delay}
use Rattle.dn_model.proofs.Waves.{IsRising}
use Rattle.dn_world.specs.declared.packet.Packet.{Packet}
use Rattle.dn_world.specs.declared.step.Step.{Step}
use Rattle.dn_world.specs.declared.step.Step.TheVariants.{Beacon, Inject, Close, Deliver, Handle, RollBack, Commit}
use Rattle.dn_world.specs.World.{Part, World, no_part, part, key_of, stands, waiting_at, flying, waiting, least_key, floor_bound, horizon, is_behind}
use Rattle.dn_world.specs.Steps.{is_enabled, is_injectable, beacon, inject, arrived, deliver, signed, since, is_after_first, is_wrong, emits, handle, kept, taken_off, roll_back, after}
use Rattle.dn_world.specs.Runs.{IsPast, IsAllPast}
use Rattle.dn_world.proofs.Parts.{all_set, all_get, all_taken, all_of_get, stands_all, Waits, waits_todo, waits_void, waits_ticked, Flies, flies_signed}
use Rattle.dn_world.proofs.Balance.{both_true, not_false}

-- ---- keys

-- past b, and no less
pub past_on : (b k l : Key) → IsPast b k → is_gt (key_cmp k l) ≡ false → IsPast b l
past_on b k l p h =
    let from : is_gt (key_cmp b k) ≡ false = turn key_cmp key_total k b ∙ p in
    sym (turn key_cmp key_total l b) ∙ upto key_total b k l from h

pub past_same : (b : Key) → IsPast b b
past_same b = ap is_lt (tied_itself key_total b)

less_first : (a b : ℕ) (r : Ordering) → a < b → is_gt (ordering_then (nat_cmp a b) r) ≡ false
less_first a b r h = cases (nat_cmp a b) (ranked a b (nat_cmp a b) refl)
  where
    cases : (o : Ordering) → MatchOrdering o (a < b) (a ≡ b) (b < a) → is_gt (ordering_then o r) ≡ false
    cases Less m = refl
    cases Equal m = absurd (omega (arith, h, m))
    cases Greater m = absurd (omega (arith, h, m))

pub same_first : (a b : ℕ) (r : Ordering) → a ≤ b → is_gt r ≡ false → is_gt (ordering_then (nat_cmp a b) r) ≡ false
same_first a b r h g = cases (nat_cmp a b) (ranked a b (nat_cmp a b) refl)
  where
    cases : (o : Ordering) → MatchOrdering o (a < b) (a ≡ b) (b < a) → is_gt (ordering_then o r) ≡ false
    cases Less m = refl
    cases Equal m = g
    cases Greater m = absurd (omega (arith, h, m))

-- a key of an earlier group is less
pub group_first : (k l : Key) → k.group < l.group → is_gt (key_cmp k l) ≡ false
unfolding key_cmp
group_first k l h = less_first k.group l.group _ h

-- a key of no later group, and an earlier sum
pub sum_first : (k l : Key) → k.group ≤ l.group → k.sum < l.sum → is_gt (key_cmp k l) ≡ false
unfolding key_cmp
sum_first k l h g = same_first k.group l.group _ h (less_first k.sum l.sum _ g)

-- the least key of an external of the group
pub external_first : (floor : ℕ) (place : ℕ) (x : External) → floor ≤ x.group → is_gt (key_cmp (key_of floor 1) (external place x).key) ≡ false
unfolding key_cmp
external_first floor place x h =
    same_first floor x.group _ h (same_first 0 x.router _ (omega arith) (same_first 0 place _ (omega arith) refl))

-- a group's begin is no later than its ticks
pub tick_first : (group r : ℕ) → is_gt (key_cmp (key_of group 0) (tick group r).key) ≡ false
unfolding key_cmp
tick_first group r = same_first group group _ (omega arith) (same_first 0 r _ (omega arith) refl)

-- ---- what is emitted has a later key than its cause

later_numbers : (p g s d : ℕ) → 0 < p → 0 < d → (g < (g * p + s + d) / p) ⊎ ((g ≤ (g * p + s + d) / p) × (s < (g * p + s + d) % p))
later_numbers p g s d h k =
    let m = g * p + s + d in
    let whole = div-add-mod' m p in
    let small = mod-lt m h in
    by_test (ltb g (m / p))
    (λ a. inl (ltb-true g (m / p) a))
    (λ a.
    let no_more : m / p ≤ g = ltb-false g (m / p) a in
    by_test (ltb (m / p) g)
    (λ b.
    let less : suc (m / p) ≤ g = (let l = ltb-true (m / p) g b in omega (arith, l)) in
    let times = mul-le-mul_right p less in
    let next = suc-mul (m / p) p in
    absurd (omega (arith, whole, small, times, next)))
    (λ b.
    let same : m / p ≡ g = (let l = ltb-false (m / p) g b in omega (arith, l, no_more)) in
    let times : m / p * p ≡ g * p = ap (λ n. n * p) same in
    inr (omega (arith, same), omega (arith, whole, times, k))))

next_later : (h : Heading) (cause : Key) (delay origin seq : ℕ) → 0 < h.period → 0 < delay → Whenever (λ k. is_gt (key_cmp cause k) ≡ false) (next_key (timing_of h) cause delay origin seq)
unfolding next_key message_key
next_later h cause delay origin seq p d =
    whenever_if (λ k. is_gt (key_cmp cause k) ≡ false) (nat_lt (moment h.period cause + delay) (h.groups * h.period)) _ None
    (λ _.
    elim (later_numbers h.period cause.group cause.sum delay p d) [
      | inl l ↦ group_first cause _ l
      | inr e ↦ sum_first cause _ e.0 e.1
    ])
    tt

message_later : (cause : Event) (s : Sent) (end : End) (o : Option Key) → Whenever (λ k. is_gt (key_cmp cause.key k) ≡ false) o → Whenever (λ e. is_gt (key_cmp cause.key e.key) ≡ false) (message_with s end o)
unfolding message_with
message_later cause s end None w = tt
message_later cause s end (Some k) w = w

pub emitted_later : (h : Heading) → IsTimed h → (cause : Event) (sents : List Sent) → AllByRecursion (λ e. is_gt (key_cmp cause.key e.key) ≡ false) (emitted h cause sents)
unfolding emitted emitted_by message_at
emitted_later h t cause sents =
    all_filter_map (λ s. message_at (timing_of h) cause s (slice_get (ends h.links cause.router) s.port)) (λ e. is_gt (key_cmp cause.key e.key) ≡ false) sents
    (λ s. at s (slice_get (ends h.links cause.router) s.port) (whenever_get (λ end. 0 < end.delay) (ends h.links cause.router) s.port (ends_delay h.links cause.router t.delays)))
  where
    at : (s : Sent) (o : Option End) → Whenever (λ end. 0 < end.delay) o → Whenever (λ e. is_gt (key_cmp cause.key e.key) ≡ false) (message_at (timing_of h) cause s o)
    at s None d = tt
    at s (Some end) d = message_later cause s end (next_key (timing_of h) cause.key end.delay cause.router s.seq) (next_later h cause.key end.delay cause.router s.seq t.period d)

first_past : (b : Key) (es : List Event) (e : Event) → AllByRecursion (λ x. IsPast b x.key) es → is_after_first es e ≡ true → IsPast b e.key
unfolding is_after_first
first_past b [] e a h = absurd (cc)
first_past b (x ∷ xs) e a h =
    let less : is_lt (event_cmp x e) ≡ true = sym (turn event_cmp event_total x e) ∙ h in
    past_on b x.key e.key a.0 (keys_rise x e (lt_not_gt (event_cmp x e) less))
  where
    lt_not_gt : (r : Ordering) → is_lt r ≡ true → is_gt r ≡ false
    lt_not_gt Less h = refl
    lt_not_gt Equal h = refl
    lt_not_gt Greater h = absurd (false≢true h)

-- ---- all that waits

abbrev pub AllWait : (Event → Type 0) → World → Type 0
AllWait P w = AllByRecursion (Waits P) w.parts × Flies P w.flight

pub to_waiting : (P : Event → Type 0) (w : World) → AllWait P w → AllByRecursion P (waiting w)
unfolding waiting waiting_at flying
to_waiting P w a = all_append P (waiting_at w.parts) (flying w.flight) (parts w.parts a.0) (flies w.flight a.1)
  where
    parts : (qs : List Part) → AllByRecursion (Waits P) qs → AllByRecursion P (waiting_at qs)
    parts [] a = tt
    parts (q ∷ qs) a = all_append P (q.todo ++ q.voids) (waiting_at qs) (all_append P q.todo q.voids a.0.0 a.0.1) (parts qs a.1)

    flies : (ks : List Packet) → Flies P ks → AllByRecursion P (flying ks)
    flies [] a = tt
    flies (k ∷ ks) a = (a.0, flies ks a.1)

pub from_waiting : (P : Event → Type 0) (w : World) → AllByRecursion P (waiting w) → AllWait P w
unfolding waiting waiting_at flying
from_waiting P w a = (parts w.parts (all_front P (waiting_at w.parts) (flying w.flight) a), flies w.flight (all_back P (waiting_at w.parts) (flying w.flight) a))
  where
    parts : (qs : List Part) → AllByRecursion P (waiting_at qs) → AllByRecursion (Waits P) qs
    parts [] a = tt
    parts (q ∷ qs) a =
        let b = all_front P (q.todo ++ q.voids) (waiting_at qs) a in
        ((all_front P q.todo q.voids b, all_back P q.todo q.voids b), parts qs (all_back P (q.todo ++ q.voids) (waiting_at qs) a))

    flies : (ks : List Packet) → AllByRecursion P (flying ks) → Flies P ks
    flies [] a = tt
    flies (k ∷ ks) a = (a.0, flies ks a.1)

pub waits_at : (P : Event → Type 0) (w : World) (r : ℕ) → AllWait P w → Waits P (part w r)
unfolding part
waits_at P w r a = all_get (Waits P) w.parts r no_part a.0 (tt, tt)

waits_arrived : (P : Event → Type 0) (k : Packet) (q : Part) → P k.event → Waits P q → Waits P (arrived k q)
unfolding arrived
waits_arrived P k q h a = by_test k.plus (λ g. simp g (waits_todo P (k.event ∷ []) q (h, tt) a)) (λ g. simp g (waits_void P k.event q h a))

module _ {S : Type 0} (net : Network S) where
  -- what a step needs of P: of what is new, of what is emitted, of what is taken off
  pub record IsFed (P : Event → Type 0) (w : World) (s : Step) : Type 0 where
    pub tick : s ≡ Beacon → (r : ℕ) → P (tick (suc w.floor) r)
    pub external : (x : External) → s ≡ Inject x → P (external (length w.accepted) x)
    pub effects : (cause : Event) (sents : List Sent) → P cause → AllByRecursion P (emitted net.header cause sents)
    pub off : (r : ℕ) → s ≡ RollBack r → AllByRecursion P (taken_off net (part w r))

  pub all_sent : (P : Event → Type 0) → ((cause : Event) (sents : List Sent) → P cause → AllByRecursion P (emitted net.header cause sents)) → (node : Node S) (es : List Event) → AllByRecursion P es → AllByRecursion P (sent_from net node es)
  unfolding sent_from
  all_sent P effects node [] a = tt
  all_sent P effects node (e ∷ es) a =
      all_append P (emitted net.header e (node_sent net.guests node e.input)) (sent_from net (node_after net.guests node e.input) es)
      (effects e (node_sent net.guests node e.input) a.0) (all_sent P effects (node_after net.guests node e.input) es a.1)

  handle_waits : (P : Event → Type 0) (w : World) (r : ℕ) → ((cause : Event) (sents : List Sent) → P cause → AllByRecursion P (emitted net.header cause sents)) → AllWait P w → (es : List Event) → (part w r).todo ≡ es → AllWait P (handle net w r (part w r) es)
  unfolding handle emits
  handle_waits P w r effects a [] e = a
  handle_waits P w r effects a (x ∷ xs) e =
      let own = waits_at P w r a in
      let todo : AllByRecursion P (x ∷ xs) = subst (AllByRecursion P) e own.0 in (
        all_set (Waits P) w.parts r _ a.0 (todo.1, own.1),
        all_append (λ k. P k.event) w.flight (signed true (emits net r (part w r).done x)) a.1 (flies_signed P true (emits net r (part w r).done x) (effects x _ todo.0)),
      )

  pub step_waits : (P : Event → Type 0) (w : World) (s : Step) → IsFed P w s → AllWait P w → AllWait P (after net w s)
  unfolding after beacon inject deliver roll_back
  step_waits P w Beacon f a = (waits_ticked P (suc w.floor) 0 w.parts (f.tick refl) a.0, a.1)
  step_waits P w (Inject x) f a = (
    all_set (Waits P) w.parts x.router _ a.0 (waits_todo P (external (length w.accepted) x ∷ []) (part w x.router) (f.external x refl, tt) (waits_at P w x.router a)),
    a.1,
  )
  step_waits P w Close f a = a
  step_waits P w (Deliver place) f a = delivered (slice_get w.flight place) refl
    where
      delivered : (o : Option Packet) → slice_get w.flight place ≡ o → AllWait P (deliver w place o)
      delivered None e = a
      delivered (Some k) e = (
        all_set (Waits P) w.parts k.event.router _ a.0 (waits_arrived P k (part w k.event.router) (all_of_get (λ k. P k.event) w.flight place k e a.1) (waits_at P w k.event.router a)),
        all_taken (λ k. P k.event) w.flight place a.1,
      )
  step_waits P w (Handle r) f a = handle_waits P w r f.effects a (part w r).todo refl
  step_waits P w (RollBack r) f a =
      let p = part w r in
      let out = sent_from net (state net r (kept net p)) (taken_off net p) in
      let off = f.off r refl in (
        all_set (Waits P) w.parts r _ a.0 (waits_todo P (taken_off net p) _ off (waits_at P w r a)),
        all_append (λ k. P k.event) w.flight (signed false out) a.1 (flies_signed P false out (all_sent P f.effects (state net r (kept net p)) (taken_off net p) off)),
      )
  step_waits P w Commit f a = a

  -- ---- at or past a key

  abbrev pub Past : Key → Event → Type 0
  Past b e = IsPast b e.key

  -- entries of a sorted list from the first wrong one on
  since_past : (b : Key) (q : Event → Bool) (es : List Event) → IsRising es → ((e : Event) → q e ≡ true → Past b e) → AllByRecursion (Past b) (since q es)
  unfolding since
  since_past b q [] r h = tt
  since_past b q (e ∷ es) r h =
      by_test (q e)
      (λ g.
      let first : Past b e = h e g in
      simp g
      (first, all_weaker (λ y. is_gt (event_cmp e y) ≡ false) (Past b) es (λ y k. past_on b e.key y.key first (keys_rise e y k)) r.0))
      (λ g. simp g (since_past b q es r.1 h))

  wrong_past : (b : Key) (q : Part) → Waits (Past b) q → (e : Event) → is_wrong q e ≡ true → Past b e
  unfolding is_wrong
  wrong_past b q a e h =
      by_test (stands e q.voids)
      (λ g. stands_all (Past b) e q.voids g a.1)
      (λ g. let k : is_after_first q.todo e ≡ true = (simp g at h) in after_past q.todo a.0 k)
    where
      after_past : (es : List Event) → AllByRecursion (Past b) es → is_after_first es e ≡ true → Past b e
      after_past es a h = first_past b es e a h

  -- RollBack takes off nothing before the key
  pub off_past : (b : Key) (q : Part) → IsRising q.done → Waits (Past b) q → AllByRecursion (Past b) (taken_off net q)
  off_past b q r a = since_past b (is_wrong q) q.done r (wrong_past b q a)

-- ---- the horizon

pub past_trans : (a b c : Key) → IsPast a b → IsPast b c → IsPast a c
past_trans a b c p q = past_on a b c p (turn key_cmp key_total c b ∙ q)

lt_past : (k l : Key) → is_lt (key_cmp k l) ≡ true → IsPast k l
lt_past k l h = by_test (is_lt (key_cmp l k)) (λ g. absurd (not_both (key_cmp k l) h (turn key_cmp key_total l k ∙ g))) (λ g. g)
  where
    not_both : (r : Ordering) → is_lt r ≡ true → is_gt r ≡ true → ⊥
    not_both Less h g = false≢true g
    not_both Equal h g = false≢true h
    not_both Greater h g = false≢true h

least_past : (b k : Key) (es : List Event) → IsPast b k → AllByRecursion (λ e. IsPast b e.key) es → IsPast b (least_key k es)
unfolding least_key
least_past b k [] h a = h
least_past b k (e ∷ es) h a =
    by_test (is_lt (key_cmp e.key k)) (λ g. simp g (least_past b e.key es a.0 a.1)) (λ g. simp g (least_past b k es h a.1))

least_past_none : (k : Key) → IsPast (least_key k []) k
unfolding least_key
least_past_none k = past_same k

least_down : (k : Key) (e : Event) (es : List Event) → is_lt (key_cmp e.key k) ≡ true → least_key k (e ∷ es) ≡ least_key e.key es
unfolding least_key
least_down k e es g = simp g

least_stay : (k : Key) (e : Event) (es : List Event) → is_lt (key_cmp e.key k) ≡ false → least_key k (e ∷ es) ≡ least_key k es
unfolding least_key
least_stay k e es g = simp g

abbrev IsUnder : Key → Key → List Event → Type 0
IsUnder m k es = IsPast m k × AllByRecursion (λ e. IsPast m e.key) es

least_is : (k : Key) (es : List Event) → IsUnder (least_key k es) k es
least_is k [] = at_none k
  where
    at_none : (k : Key) → IsUnder (least_key k []) k []
    at_none k = (least_past_none k, tt)
least_is k (e ∷ es) =
    by_test (is_lt (key_cmp e.key k))
    (λ g.
    let ih = least_is e.key es in
    let first = past_trans (least_key e.key es) e.key k ih.0 (lt_past e.key k g) in
    subst (λ m. IsUnder m k (e ∷ es)) (sym (least_down k e es g)) (first, (ih.0, ih.1)))
    (λ g.
    let ih = least_is k es in
    let head = past_trans (least_key k es) k e.key ih.0 g in
    subst (λ m. IsUnder m k (e ∷ es)) (sym (least_stay k e es g)) (ih.0, (head, ih.1)))

module _ {S : Type 0} (net : Network S) where
  pub horizon_past : (w : World) → IsAllPast net (horizon net.header w) w
  unfolding horizon
  horizon_past w =
      let l = least_is (floor_bound net.header w) (waiting w) in record { waiting = l.1; bound = l.0 }

  pub horizon_least : (b : Key) (w : World) → IsAllPast net b w → IsPast b (horizon net.header w)
  unfolding horizon
  horizon_least b w a = least_past b (floor_bound net.header w) (waiting w) a.bound a.waiting

  -- ---- a step

  pub beacon_open : (w : World) (s : Step) → is_enabled net w s ≡ true → s ≡ Beacon → (w.closed ≡ false) × (suc w.floor < net.header.groups)
  unfolding is_enabled
  beacon_open w s h e =
      let k : (not w.closed && nat_lt (suc w.floor) net.header.groups) ≡ true = subst (λ z. is_enabled net w z ≡ true) e h in
      let g = both_true (not w.closed) (nat_lt (suc w.floor) net.header.groups) k in
      (not_false w.closed g.0, ltb-true (suc w.floor) net.header.groups g.1)

  pub inject_open : (w : World) (x : External) → is_enabled net w (Inject x) ≡ true → (w.closed ≡ false) × (x.group ≡ w.floor) × (x.router < routers net)
  unfolding is_enabled
  inject_open w x h =
      let a = both_true (not w.closed && (x.group == w.floor) && nat_lt x.router (routers net)) (is_injectable net.header x.router x.input) h in
      let b = both_true (not w.closed && (x.group == w.floor)) (nat_lt x.router (routers net)) a.0 in
      let c = both_true (not w.closed) (x.group == w.floor) b.0 in
      (not_false w.closed c.0, eqb-true x.group w.floor c.1, ltb-true x.router (routers net) b.1)

  pub close_open : (w : World) → is_enabled net w Close ≡ true → (w.closed ≡ false) × (suc w.floor ≡ net.header.groups)
  unfolding is_enabled
  close_open w h =
      let g = both_true (not w.closed) (suc w.floor == net.header.groups) h in
      (not_false w.closed g.0, eqb-true (suc w.floor) net.header.groups g.1)

  roll_back_inside : (w : World) (s : Step) (r : ℕ) → is_enabled net w s ≡ true → s ≡ RollBack r → r < routers net
  unfolding is_enabled
  roll_back_inside w s r h e =
      let k : (nat_lt r (routers net) && is_behind (part w r)) ≡ true = subst (λ z. is_enabled net w z ≡ true) e h in
      ltb-true r (routers net) (both_true (nat_lt r (routers net)) (is_behind (part w r)) k).0

  pub open_bound : (w : World) → w.closed ≡ false → floor_bound net.header w ≡ key_of w.floor 1
  unfolding floor_bound
  open_bound w h = simp h

  deliver_bound : (b : Key) (w : World) (place : ℕ) (o : Option Packet) → IsPast b (floor_bound net.header w) → IsPast b (floor_bound net.header (deliver w place o))
  unfolding deliver floor_bound
  deliver_bound b w place None p = p
  deliver_bound b w place (Some k) p = p

  handle_bound : (b : Key) (w : World) (r : ℕ) (q : Part) (es : List Event) → IsPast b (floor_bound net.header w) → IsPast b (floor_bound net.header (handle net w r q es))
  unfolding handle floor_bound
  handle_bound b w r q [] p = p
  handle_bound b w r q (e ∷ es) p = p

  bound_kept : (b : Key) (w : World) (s : Step) → is_enabled net w s ≡ true → IsPast b (floor_bound net.header w) → IsPast b (floor_bound net.header (after net w s))
  unfolding after beacon inject roll_back floor_bound
  bound_kept b w Beacon h p =
      let opn = (beacon_open w Beacon h refl).0 in
      let was : IsPast b (key_of w.floor 1) = subst (IsPast b) (open_bound w opn) p in
      simp opn (past_on b (key_of w.floor 1) (key_of (suc w.floor) 1) was (group_first (key_of w.floor 1) (key_of (suc w.floor) 1) (omega arith)))
  bound_kept b w (Inject x) h p = p
  bound_kept b w Close h p =
      let opn = close_open w h in
      let was : IsPast b (key_of w.floor 1) = subst (IsPast b) (open_bound w opn.0) p in
      past_on b (key_of w.floor 1) (key_of net.header.groups 0) was (group_first (key_of w.floor 1) (key_of net.header.groups 0) (omega arith))
  bound_kept b w (Deliver place) h p = deliver_bound b w place (slice_get w.flight place) p
  bound_kept b w (Handle r) h p = handle_bound b w r (part w r) (part w r).todo p
  bound_kept b w (RollBack r) h p = p
  bound_kept b w Commit h p = p

  -- only Commit moves the boundary
  beacon_same : (w : World) → (after net w Beacon).boundary ≡ w.boundary
  unfolding after beacon
  beacon_same w = refl

  inject_same : (w : World) (x : External) → (after net w (Inject x)).boundary ≡ w.boundary
  unfolding after inject
  inject_same w x = refl

  close_same : (w : World) → (after net w Close).boundary ≡ w.boundary
  unfolding after
  close_same w = refl

  deliver_same : (w : World) (place : ℕ) → (after net w (Deliver place)).boundary ≡ w.boundary
  unfolding after deliver
  deliver_same w place = by_option (slice_get w.flight place)
    where
      by_option : (o : Option Packet) → (deliver w place o).boundary ≡ w.boundary
      by_option None = refl
      by_option (Some k) = refl

  handle_same : (w : World) (r : ℕ) → (after net w (Handle r)).boundary ≡ w.boundary
  unfolding after handle
  handle_same w r = by_list (part w r).todo
    where
      by_list : (es : List Event) → (handle net w r (part w r) es).boundary ≡ w.boundary
      by_list [] = refl
      by_list (e ∷ es) = refl

  roll_back_same : (w : World) (r : ℕ) → (after net w (RollBack r)).boundary ≡ w.boundary
  unfolding after roll_back
  roll_back_same w r = refl

  commit_past : (w : World) → IsAllPast net (after net w Commit).boundary (after net w Commit)
  unfolding after waiting floor_bound
  commit_past w = let h = horizon_past w in record { waiting = h.waiting; bound = h.bound }

  module _ (timed : IsTimed net.header) where
    past_effects : (b : Key) (cause : Event) (sents : List Sent) → IsPast b cause.key → AllByRecursion (λ e. IsPast b e.key) (emitted net.header cause sents)
    past_effects b cause sents p =
        all_weaker (λ e. is_gt (key_cmp cause.key e.key) ≡ false) (λ e. IsPast b e.key) (emitted net.header cause sents) (λ e h. past_on b cause.key e.key p h) (emitted_later net.header timed cause sents)

    fed_past : (b : Key) (w : World) (s : Step) → is_enabled net w s ≡ true → ((r : ℕ) → r < routers net → IsRising (part w r).done) → IsAllPast net b w → IsFed net (λ e. IsPast b e.key) w s
    fed_past b w s h rises a = record {
      tick = λ e r.
          let opn = (beacon_open w s h e).0 in
          past_on b (key_of w.floor 1) (tick (suc w.floor) r).key (subst (IsPast b) (open_bound w opn) a.bound) (group_first (key_of w.floor 1) (tick (suc w.floor) r).key (omega arith));
      external = λ x e.
          let opn = inject_open w x (subst (λ z. is_enabled net w z ≡ true) e h) in
          past_on b (key_of w.floor 1) (external (length w.accepted) x).key (subst (IsPast b) (open_bound w opn.0) a.bound) (external_first w.floor (length w.accepted) x (omega (arith, opn.1)));
      effects = past_effects b;
      off = λ r e.
          off_past net b (part w r) (rises r (roll_back_inside w s r h e)) (waits_at (λ e. IsPast b e.key) w r (from_waiting (λ e. IsPast b e.key) w a.waiting));
    }

    -- what waits stays past any key that it is past
    pub past_kept : (b : Key) (w : World) (s : Step) → is_enabled net w s ≡ true → ((r : ℕ) → r < routers net → IsRising (part w r).done) → IsAllPast net b w → IsAllPast net b (after net w s)
    past_kept b w s h rises a = record {
      waiting = to_waiting (λ e. IsPast b e.key) (after net w s) (step_waits net (λ e. IsPast b e.key) w s (fed_past b w s h rises a) (from_waiting (λ e. IsPast b e.key) w a.waiting));
      bound = bound_kept b w s h a.bound;
    }

    pub horizon_rises : (w : World) (s : Step) → is_enabled net w s ≡ true → ((r : ℕ) → r < routers net → IsRising (part w r).done) → IsPast (horizon net.header w) (horizon net.header (after net w s))
    horizon_rises w s h rises =
        horizon_least (horizon net.header w) (after net w s) (past_kept (horizon net.header w) w s h rises (horizon_past w))

    pub boundary_kept : (w : World) (s : Step) → is_enabled net w s ≡ true → ((r : ℕ) → r < routers net → IsRising (part w r).done) → IsAllPast net w.boundary w → IsAllPast net (after net w s).boundary (after net w s)
    boundary_kept w s h rises a = at s h
      where
        kept_at : (t : Step) → is_enabled net w t ≡ true → (after net w t).boundary ≡ w.boundary → IsAllPast net (after net w t).boundary (after net w t)
        kept_at t k e = subst (λ b. IsAllPast net b (after net w t)) (sym e) (past_kept w.boundary w t k rises a)

        at : (t : Step) → is_enabled net w t ≡ true → IsAllPast net (after net w t).boundary (after net w t)
        at Beacon k = kept_at Beacon k (beacon_same w)
        at (Inject x) k = kept_at (Inject x) k (inject_same w x)
        at Close k = kept_at Close k (close_same w)
        at (Deliver place) k = kept_at (Deliver place) k (deliver_same w place)
        at (Handle r) k = kept_at (Handle r) k (handle_same w r)
        at (RollBack r) k = kept_at (RollBack r) k (roll_back_same w r)
        at Commit k = commit_past w

  -- a RollBack takes off nothing before the boundary
  pub roll_back_past : (w : World) (r : ℕ) → is_enabled net w (RollBack r) ≡ true → ((r : ℕ) → r < routers net → IsRising (part w r).done) → IsAllPast net w.boundary w → AllByRecursion (λ e. IsPast w.boundary e.key) (taken_off net (part w r))
  roll_back_past w r h rises a =
      off_past net w.boundary (part w r) (rises r (roll_back_inside w (RollBack r) r h refl)) (waits_at (λ e. IsPast w.boundary e.key) w r (from_waiting (λ e. IsPast w.boundary e.key) w a.waiting))
