-- In each part todo and voids are in order, and no event stands in both; so an event that comes cancels at most once.
use Rattle.std.proofs.Common.{◌≡◌, ℕ, zero, suc, true, false, List, [], ◌∷◌, ◌++◌, length, refl, sym, ap, ◌∙◌, subst, replicate}
use Rattle.std.specs.Prelude.{Option, Some, None, slice_get, if◌then◌else◌}
use Rattle.std.specs.List.{list_any, AllByRecursion}
use Rattle.std.specs.Ordering.{is_gt}
use Rattle.std.proofs.lemmas.Bool.{both_ways}
use Rattle.std.proofs.lemmas.List.Sorted.{IsPermutation-refl}
use Rattle.dn_lists.specs.InOrder.{put_in_order, in_order}
use Rattle.dn_model.specs.declared.event.Event.{Event}
use Rattle.dn_model.specs.Order.{event_cmp, event_total, sorted}
use Rattle.dn_model.specs.Network.{Network, tick, external, routers}
use Rattle.dn_lists.proofs.Lists.{by_test, all_weaker}
use Rattle.dn_lists.proofs.Sorting.{all_put, rises_in_order, rises_from_sorted, sorted_from_rises, in_order_is}
use Rattle.dn_model.proofs.EventOrder.{event_same}
use Rattle.dn_model.proofs.Waves.{IsRising}
use Rattle.dn_world.specs.declared.packet.Packet.{Packet}
use Rattle.dn_world.specs.declared.step.Step.{Step}
use Rattle.dn_world.specs.declared.step.Step.TheVariants.{Beacon, Inject, Close, Deliver, Handle, RollBack, Commit}
use Rattle.dn_world.specs.World.{Part, World, no_part, part, is_same, stands, without, without_each, unmatched, cancelled, with_todo, with_void, ticked, opening}
use Rattle.dn_world.specs.Steps.{beacon, inject, arrived, deliver, handle, roll_back, after}
use Rattle.dn_world.specs.Runs.{run, IsTidy}
use Rattle.dn_world.proofs.Parts.{all_set, all_get, same_is, same_itself, without_none, all_without}
use Rattle.dn_world.proofs.Balance.{or_false}

-- ---- cancelling keeps the order, and leaves no event in both

rises_without : (e : Event) (xs : List Event) → IsRising xs → IsRising (without e xs)
unfolding without
rises_without e [] r = tt
rises_without e (x ∷ xs) r =
    by_test (is_same e x) (λ g. simp g r.1) (λ g. simp g (all_without (λ y. is_gt (event_cmp x y) ≡ false) e xs r.0, rises_without e xs r.1))

rises_todo : (todo voids : List Event) → IsRising todo → IsRising (without_each todo voids)
unfolding without_each
rises_todo todo [] r = r
rises_todo todo (v ∷ vs) r = rises_todo (without v todo) vs (rises_without v todo r)

all_voids : (P : Event → Type 0) (todo voids : List Event) → AllByRecursion P voids → AllByRecursion P (unmatched todo voids)
unfolding unmatched
all_voids P todo [] a = tt
all_voids P todo (v ∷ vs) a =
    by_test (stands v todo) (λ g. simp g (all_voids P (without v todo) vs a.1)) (λ g. simp g (a.0, all_voids P todo vs a.1))

rises_voids : (todo voids : List Event) → IsRising voids → IsRising (unmatched todo voids)
unfolding unmatched
rises_voids todo [] r = tt
rises_voids todo (v ∷ vs) r =
    by_test (stands v todo)
    (λ g. simp g (rises_voids (without v todo) vs r.1))
    (λ g. simp g (all_voids (λ y. is_gt (event_cmp v y) ≡ false) todo vs r.0, rises_voids todo vs r.1))

absent_rest : (v x : Event) (xs : List Event) → stands v (x ∷ xs) ≡ false → (is_same v x ≡ false) × (stands v xs ≡ false)
unfolding stands
absent_rest v x xs h = or_false (is_same v x) (list_any (is_same v) xs) h

absent_from : (v x : Event) (xs : List Event) → is_same v x ≡ false → stands v xs ≡ false → stands v (x ∷ xs) ≡ false
unfolding stands
absent_from v x xs g h = simp (g, h)

absent_without : (v e : Event) (xs : List Event) → stands v xs ≡ false → stands v (without e xs) ≡ false
unfolding without
absent_without v e [] h = h
absent_without v e (x ∷ xs) h =
    let k = absent_rest v x xs h in
    by_test (is_same e x) (λ g. simp g k.1) (λ g. simp g (absent_from v x (without e xs) k.0 (absent_without v e xs k.1)))

absent_left : (v : Event) (todo voids : List Event) → stands v todo ≡ false → stands v (without_each todo voids) ≡ false
unfolding without_each
absent_left v todo [] h = h
absent_left v todo (u ∷ us) h = absent_left v (without u todo) us (absent_without v u todo h)

apart_left : (todo voids : List Event) → AllByRecursion (λ v. stands v (without_each todo voids) ≡ false) (unmatched todo voids)
unfolding unmatched without_each
apart_left todo [] = tt
apart_left todo (v ∷ vs) =
    by_test (stands v todo)
    (λ g. simp g (apart_left (without v todo) vs))
    (λ g. let same = without_none v todo g in simp (g, same) (absent_left v todo vs g, apart_left todo vs))

-- the same with rising lists
abbrev IsNeat : Part → Type 0
IsNeat p = IsRising p.todo × IsRising p.voids × AllByRecursion (λ v. stands v p.todo ≡ false) p.voids

pub neat : (p : Part) → IsTidy p → IsNeat p
neat p t = (rises_from_sorted event_cmp event_total p.todo t.todo, rises_from_sorted event_cmp event_total p.voids t.voids, t.apart)

pub tidy : (p : Part) → IsNeat p → IsTidy p
tidy p n = record { todo = sorted_from_rises event_cmp event_total p.todo n.0; voids = sorted_from_rises event_cmp event_total p.voids n.1; apart = n.2 }

cancelled_neat : (p : Part) → IsRising p.todo → IsRising p.voids → IsNeat (cancelled p)
unfolding cancelled
cancelled_neat p r s = (rises_todo p.todo p.voids r, rises_voids p.todo p.voids s, apart_left p.todo p.voids)

pub todo_neat : (es : List Event) (p : Part) → IsRising p.voids → IsNeat (with_todo es p)
unfolding with_todo sorted
todo_neat es p s = cancelled_neat (record p { todo = in_order event_cmp (es ++ p.todo) }) (rises_in_order event_cmp event_total (es ++ p.todo)) s

pub void_neat : (e : Event) (p : Part) → IsRising p.todo → IsNeat (with_void e p)
unfolding with_void sorted
void_neat e p r = cancelled_neat (record p { voids = in_order event_cmp (e ∷ p.voids) }) r (rises_in_order event_cmp event_total (e ∷ p.voids))

-- ---- every world

no_part_neat : IsNeat no_part
no_part_neat = (tt, tt, tt)

ticked_neat : (group r : ℕ) (ps : List Part) → AllByRecursion IsNeat ps → AllByRecursion IsNeat (ticked group r ps)
unfolding ticked
ticked_neat group r [] a = tt
ticked_neat group r (p ∷ ps) a = (todo_neat (tick group r ∷ []) p a.0.1, ticked_neat group (suc r) ps a.1)

arrived_neat : (k : Packet) (p : Part) → IsNeat p → IsNeat (arrived k p)
unfolding arrived
arrived_neat k p n = by_test k.plus (λ g. simp g (todo_neat (k.event ∷ []) p n.1)) (λ g. simp g (void_neat k.event p n.0))

neat_at : (w : World) (r : ℕ) → AllByRecursion IsNeat w.parts → IsNeat (part w r)
unfolding part
neat_at w r a = all_get IsNeat w.parts r no_part a no_part_neat

module _ {S : Type 0} (net : Network S) where
  deliver_neat : (w : World) (place : ℕ) (o : Option Packet) → AllByRecursion IsNeat w.parts → AllByRecursion IsNeat (deliver w place o).parts
  unfolding deliver
  deliver_neat w place None a = a
  deliver_neat w place (Some k) a = all_set IsNeat w.parts k.event.router _ a (arrived_neat k (part w k.event.router) (neat_at w k.event.router a))

  handle_neat : (w : World) (r : ℕ) (es : List Event) → (part w r).todo ≡ es → AllByRecursion IsNeat w.parts → AllByRecursion IsNeat (handle net w r (part w r) es).parts
  unfolding handle
  handle_neat w r [] e a = a
  handle_neat w r (x ∷ xs) e a =
      let n = neat_at w r a in
      let up : IsRising (x ∷ xs) = subst IsRising e n.0 in
      let apart : AllByRecursion (λ v. stands v (x ∷ xs) ≡ false) (part w r).voids = subst (λ l. AllByRecursion (λ v. stands v l ≡ false) (part w r).voids) e n.2 in
      all_set IsNeat w.parts r _ a (up.1, n.1, all_weaker (λ v. stands v (x ∷ xs) ≡ false) (λ v. stands v xs ≡ false) (part w r).voids (λ v h. (absent_rest v x xs h).1) apart)

  pub step_neat : (w : World) (s : Step) → AllByRecursion IsNeat w.parts → AllByRecursion IsNeat (after net w s).parts
  unfolding after beacon inject roll_back
  step_neat w Beacon a = ticked_neat (suc w.floor) 0 w.parts a
  step_neat w (Inject x) a = all_set IsNeat w.parts x.router _ a (todo_neat (external (length w.accepted) x ∷ []) (part w x.router) (neat_at w x.router a).1)
  step_neat w Close a = a
  step_neat w (Deliver place) a = deliver_neat w place (slice_get w.flight place) a
  step_neat w (Handle r) a = handle_neat w r (part w r).todo refl a
  step_neat w (RollBack r) a = all_set IsNeat w.parts r _ a (todo_neat _ _ (neat_at w r a).1)
  step_neat w Commit a = a

  opening_neat : (n : ℕ) → AllByRecursion IsNeat (opening n).parts
  unfolding opening
  opening_neat n = ticked_neat 0 0 (replicate n no_part) (all_none n)
    where
      all_none : (m : ℕ) → AllByRecursion IsNeat (replicate m no_part)
      all_none zero = tt
      all_none (suc m) = (no_part_neat, all_none m)

  run_neat : (w : World) (steps : List Step) → AllByRecursion IsNeat w.parts → AllByRecursion IsNeat (run net w steps).parts
  unfolding run
  run_neat w [] a = a
  run_neat w (s ∷ ss) a = run_neat (after net w s) ss (step_neat w s a)

  pub all_tidy : (ps : List Part) → AllByRecursion IsNeat ps → AllByRecursion IsTidy ps
  all_tidy [] a = tt
  all_tidy (p ∷ ps) a = (tidy p a.0, all_tidy ps a.1)

  pub all_neat : (ps : List Part) → AllByRecursion IsTidy ps → AllByRecursion IsNeat ps
  all_neat [] a = tt
  all_neat (p ∷ ps) a = (neat p a.0, all_neat ps a.1)

  pub world_tidy : (steps : List Step) → AllByRecursion IsTidy (run net (opening (routers net)) steps).parts
  world_tidy steps = all_tidy _ (run_neat (opening (routers net)) steps (opening_neat (routers net)))

-- ---- one event that comes

-- where no void stands in todo, nothing cancels
none_cancel : (todo voids : List Event) → AllByRecursion (λ v. stands v todo ≡ false) voids → (without_each todo voids ≡ todo) × (unmatched todo voids ≡ voids)
unfolding without_each unmatched
none_cancel todo [] a = (refl, refl)
none_cancel todo (v ∷ vs) a =
    let ih = none_cancel todo vs a.1 in
    let g = a.0 in
    let same = without_none v todo g in
    simp (g, same) (ih.0, ap (λ l. v ∷ l) ih.1)

stands_put : (v e : Event) (xs : List Event) → is_same v e ≡ false → stands v xs ≡ false → stands v (put_in_order event_cmp e xs) ≡ false
stands_put v e [] g h = absent_from v e [] g h
stands_put v e (x ∷ xs) g h =
    let k = absent_rest v x xs h in
    by_test (is_gt (event_cmp e x))
    (λ a. simp a (absent_from v x (put_in_order event_cmp e xs) k.0 (stands_put v e xs g k.1)))
    (λ a. simp a (absent_from v e (x ∷ xs) g h))

present_put : (e : Event) (xs : List Event) → stands e (put_in_order event_cmp e xs) ≡ true
unfolding stands
present_put e [] = let s = same_itself e in simp s
present_put e (x ∷ xs) =
    let s = same_itself e in
    by_test (is_gt (event_cmp e x))
    (λ a. by_test (is_same e x) (λ b. simp (a, b)) (λ b. simp (a, b) (present_put e xs)))
    (λ a. simp (a, s))

without_put : (e : Event) (xs : List Event) → stands e xs ≡ false → without e (put_in_order event_cmp e xs) ≡ xs
unfolding without
without_put e [] h = let s = same_itself e in simp s
without_put e (x ∷ xs) h =
    let s = same_itself e in
    let k = absent_rest e x xs h in
    let g = k.0 in
    by_test (is_gt (event_cmp e x))
    (λ a. simp (a, g) (ap (λ l. x ∷ l) (without_put e xs k.1)))
    (λ a. simp (a, s))

other_way : (e v : Event) → is_same e v ≡ false → is_same v e ≡ false
other_way e v k =
    by_test (is_same v e) (λ b. absurd (both_ways (is_same e v) k (let back : e ≡ v = sym (same_is v e b) in subst (λ z. is_same e z ≡ true) back (same_itself e)))) (λ b. b)

-- an event that stands in voids takes one of them with it
one_cancels : (e : Event) (todo voids : List Event) → AllByRecursion (λ v. stands v todo ≡ false) voids → stands e voids ≡ true → stands e todo ≡ false → (without_each (put_in_order event_cmp e todo) voids ≡ todo) × (unmatched (put_in_order event_cmp e todo) voids ≡ without e voids)
unfolding without_each unmatched stands without
one_cancels e todo [] a h g = absurd (cc)
one_cancels e todo (v ∷ vs) a h g =
    let put = put_in_order event_cmp e todo in
    by_test (is_same e v)
    (λ k.
    let same : e ≡ v = same_is e v k in
    let here : list_any (is_same v) put ≡ true = subst (λ z. list_any (is_same z) put ≡ true) same (present_put e todo) in
    let rest : without v put ≡ todo = subst (λ z. without z put ≡ todo) same (without_put e todo g) in
    let none = none_cancel todo vs a.1 in
    simp (k, here, rest) none)
    (λ k.
    let others = other_way e v k in
    let away = stands_put v e todo others a.0 in
    let same = without_none v put away in
    let more : list_any (is_same e) vs ≡ true = (simp k at h) in
    let ih = one_cancels e todo vs a.1 more g in
    simp (k, away, same) (ih.0, ap (λ l. v ∷ l) ih.1))

sorted_put : (e : Event) (xs : List Event) → IsRising xs → sorted (e ∷ xs) ≡ put_in_order event_cmp e xs
unfolding sorted
sorted_put e xs r = ap (put_in_order event_cmp e) (sym (in_order_is event_cmp event_total event_same xs xs (IsPermutation-refl xs) r))

nothing_stands : (e : Event) → stands e [] ≡ true → ⊥
unfolding stands
nothing_stands e h = cc

later : (e v : Event) (vs : List Event) → is_same e v ≡ false → stands e (v ∷ vs) ≡ true → stands e vs ≡ true
unfolding stands
later e v vs k h = (simp k at h)

apart_put : (e : Event) (todo voids : List Event) → AllByRecursion (λ v. stands v todo ≡ false) voids → stands e voids ≡ false → AllByRecursion (λ v. stands v (put_in_order event_cmp e todo) ≡ false) voids
apart_put e todo [] a h = tt
apart_put e todo (v ∷ vs) a h =
    let k = absent_rest e v vs h in
    (stands_put v e todo (other_way e v k.0) a.0, apart_put e todo vs a.1 k.1)

apart_without : (e : Event) (todo voids : List Event) → AllByRecursion (λ v. stands v todo ≡ false) voids → AllByRecursion (λ v. stands v (without e todo) ≡ false) voids
apart_without e todo voids a = all_weaker (λ v. stands v todo ≡ false) (λ v. stands v (without e todo) ≡ false) voids (λ v h. absent_without v e todo h) a

takes_one : (e : Event) (todo voids : List Event) → AllByRecursion (λ v. stands v todo ≡ false) voids → stands e todo ≡ true → (without_each todo (e ∷ voids) ≡ without e todo) × (unmatched todo (e ∷ voids) ≡ voids)
unfolding without_each unmatched
takes_one e todo voids a h =
    let none = none_cancel (without e todo) voids (apart_without e todo voids a) in simp h none

takes_on : (e v : Event) (todo voids l : List Event) → stands v todo ≡ false → (without_each todo l ≡ without e todo) × (unmatched todo l ≡ voids) → (without_each todo (v ∷ l) ≡ without e todo) × (unmatched todo (v ∷ l) ≡ v ∷ voids)
unfolding without_each unmatched
takes_on e v todo voids l g ih =
    let same = without_none v todo g in simp (g, same) (ih.0, ap (λ l. v ∷ l) ih.1)

put_more : (e v : Event) (vs : List Event) → is_gt (event_cmp e v) ≡ true → put_in_order event_cmp e (v ∷ vs) ≡ v ∷ put_in_order event_cmp e vs
put_more e v vs g = simp g

put_here : (e v : Event) (vs : List Event) → is_gt (event_cmp e v) ≡ false → put_in_order event_cmp e (v ∷ vs) ≡ e ∷ v ∷ vs
put_here e v vs g = simp g

-- the voids l take e from todo, and voids are left
abbrev Takes : Event → List Event → List Event → List Event → Type 0
Takes e todo voids l = (without_each todo l ≡ without e todo) × (unmatched todo l ≡ voids)

void_cancels : (e : Event) (todo voids : List Event) → AllByRecursion (λ v. stands v todo ≡ false) voids → stands e todo ≡ true → Takes e todo voids (put_in_order event_cmp e voids)
void_cancels e todo [] a h = takes_one e todo [] a h
void_cancels e todo (v ∷ vs) a h =
    by_test (is_gt (event_cmp e v))
    (λ g. subst (Takes e todo (v ∷ vs)) (sym (put_more e v vs g)) (takes_on e v todo vs (put_in_order event_cmp e vs) a.0 (void_cancels e todo vs a.1 h)))
    (λ g. subst (Takes e todo (v ∷ vs)) (sym (put_here e v vs g)) (takes_one e todo (v ∷ vs) a h))

absent_apart : (e : Event) (todo voids : List Event) → AllByRecursion (λ v. stands v todo ≡ false) voids → stands e voids ≡ true → stands e todo ≡ false
absent_apart e todo [] a h = absurd (nothing_stands e h)
absent_apart e todo (v ∷ vs) a h =
    by_test (is_same e v)
    (λ k. subst (λ z. stands z todo ≡ false) (sym (same_is e v k)) a.0)
    (λ k. absent_apart e todo vs a.1 (later e v vs k h))

-- an event that comes into todo: it and a void vanish, or it is put in order
pub todo_by_one : (e : Event) (p : Part) → IsTidy p → with_todo (e ∷ []) p ≡ (if stands e p.voids then record p { voids = without e p.voids } else record p { todo = put_in_order event_cmp e p.todo })
unfolding with_todo cancelled
todo_by_one e p t =
    let n = neat p t in
    let put = put_in_order event_cmp e p.todo in
    let in_place = sorted_put e p.todo n.0 in
    by_test (stands e p.voids)
    (λ g.
    let one = one_cancels e p.todo p.voids n.2 g (absent_apart e p.todo p.voids n.2 g) in
    simp g
    ((λ i. record p { todo = without_each (in_place i) p.voids; voids = unmatched (in_place i) p.voids })
    ∙ (λ i. record p { todo = one.0 i; voids = one.1 i })))
    (λ g.
    let none = none_cancel put p.voids (apart_put e p.todo p.voids n.2 g) in
    simp g
    ((λ i. record p { todo = without_each (in_place i) p.voids; voids = unmatched (in_place i) p.voids })
    ∙ (λ i. record p { todo = none.0 i; voids = none.1 i })))

-- a void that comes: it and an event of todo vanish, or it is put in order
pub void_by_one : (e : Event) (p : Part) → IsTidy p → with_void e p ≡ (if stands e p.todo then record p { todo = without e p.todo } else record p { voids = put_in_order event_cmp e p.voids })
unfolding with_void cancelled
void_by_one e p t =
    let n = neat p t in
    let put = put_in_order event_cmp e p.voids in
    let in_place = sorted_put e p.voids n.1 in
    by_test (stands e p.todo)
    (λ g.
    let one = void_cancels e p.todo p.voids n.2 g in
    simp g
    ((λ i. record p { todo = without_each p.todo (in_place i); voids = unmatched p.todo (in_place i) })
    ∙ (λ i. record p { todo = one.0 i; voids = one.1 i })))
    (λ g.
    let none = none_cancel p.todo put (all_put event_cmp (λ v. stands v p.todo ≡ false) e p.voids g n.2) in
    simp g
    ((λ i. record p { todo = without_each p.todo (in_place i); voids = unmatched p.todo (in_place i) })
    ∙ (λ i. record p { todo = none.0 i; voids = none.1 i })))

-- ---- the same, for code that has made the test

pub todo_tidy : (es : List Event) (p : Part) → IsTidy p → IsTidy (with_todo es p)
todo_tidy es p t = tidy (with_todo es p) (todo_neat es p (neat p t).1)

pub void_tidy : (e : Event) (p : Part) → IsTidy p → IsTidy (with_void e p)
void_tidy e p t = tidy (with_void e p) (void_neat e p (neat p t).0)

pub todo_cancels : (e : Event) (p : Part) → IsTidy p → stands e p.voids ≡ true → with_todo (e ∷ []) p ≡ record p { voids = without e p.voids }
todo_cancels e p t g = todo_by_one e p t ∙ (simp g)

pub todo_stays : (e : Event) (p : Part) → IsTidy p → stands e p.voids ≡ false → with_todo (e ∷ []) p ≡ record p { todo = put_in_order event_cmp e p.todo }
todo_stays e p t g = todo_by_one e p t ∙ (simp g)

pub void_cancels_one : (e : Event) (p : Part) → IsTidy p → stands e p.todo ≡ true → with_void e p ≡ record p { todo = without e p.todo }
void_cancels_one e p t g = void_by_one e p t ∙ (simp g)

pub void_stays : (e : Event) (p : Part) → IsTidy p → stands e p.todo ≡ false → with_void e p ≡ record p { voids = put_in_order event_cmp e p.voids }
void_stays e p t g = void_by_one e p t ∙ (simp g)
