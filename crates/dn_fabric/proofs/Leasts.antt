-- The least of keys, event by event and router by router.
use Rattle.std.proofs.Common.{◌≡◌, ℕ, ◌+◌, ◌<◌, ◌≤◌, false, if◌then◌else◌, List, [], ◌∷◌, ◌++◌, length, get_or, drop, map, refl, sym, ap, ◌∙◌}
use Rattle.std.specs.Prelude.{Option, Some, None, slice_get}
use Rattle.std.specs.List.{AllByRecursion}
use Rattle.std.specs.List.Sorted.{IsSorted}
use Rattle.std.specs.Ordering.{is_lt, is_gt}
use Rattle.std.proofs.lemmas.List.{at_drop_more, at_drop_all}
use Rattle.dn_lists.proofs.Lists.{by_test, all_weaker}
use Rattle.dn_lists.proofs.Sorting.{rises_from_sorted}
use Rattle.dn_model.specs.declared.key.Key.{Key}
use Rattle.dn_model.specs.declared.event.Event.{Event}
use Rattle.dn_model.specs.Order.{key_cmp, event_cmp, event_total}
use Rattle.dn_router.specs.Routers.{Speculation}
use Rattle.dn_model.specs.Cases.{Heading}
use Rattle.dn_world.specs.World.{World, least_key, waiting_at, waiting, flying, floor_bound, horizon}
use Rattle.dn_world.specs.Runs.{IsPast}

-- the key of the event, if any, where it is less
abbrev pub earliest : Option Event → Key → Key
earliest None k = k
earliest (Some e) k = if is_lt (key_cmp e.key k) then e.key else k

least_stays : (m : Key) (es : List Event) → AllByRecursion (λ e. IsPast m e.key) es → least_key m es ≡ m
unfolding least_key
least_stays m [] a = refl
least_stays m (e ∷ es) a = let h = a.0 in simp h (least_stays m es a.1)

-- to be a key or a later one is an order of keys, and the order of events goes with it
pub record KeysPast : Type 0 where
  pub onward : (a b c : Key) → IsPast a b → IsPast b c → IsPast a c
  pub later : (x y : Event) → is_gt (event_cmp x y) ≡ false → IsPast x.key y.key

first_least : KeysPast → (k : Key) (e : Event) (es : List Event) → AllByRecursion (λ y. is_gt (event_cmp e y) ≡ false) es → least_key k (e ∷ es) ≡ earliest (Some e) k
unfolding least_key
first_least keys k e es a =
    let later = all_weaker (λ y. is_gt (event_cmp e y) ≡ false) (λ y. IsPast e.key y.key) es (λ y h. keys.later e y h) a in
    by_test (is_lt (key_cmp e.key k))
    (λ g. simp g (least_stays e.key es later))
    (λ g. simp g (least_stays k es (all_weaker (λ y. IsPast e.key y.key) (λ y. IsPast k y.key) es (λ y h. keys.onward k e.key y.key g h) later)))

-- of a list in order the first counts
pub least_first : KeysPast → (k : Key) (es : List Event) → IsSorted event_cmp es → least_key k es ≡ earliest (slice_get es 0) k
unfolding least_key
least_first keys k [] s = refl
least_first keys k (e ∷ es) s = first_least keys k e es (rises_from_sorted event_cmp event_total (e ∷ es) s).0

pub least_append : (k : Key) (xs ys : List Event) → least_key k (xs ++ ys) ≡ least_key (least_key k xs) ys
unfolding least_key
least_append k [] ys = refl
least_append k (x ∷ xs) ys = least_append (if is_lt (key_cmp x.key k) then x.key else k) xs ys

-- the first of two lists in order, one after the other
pub least_of_two : KeysPast → (k m n : Key) (xs ys : List Event) → IsSorted event_cmp xs → IsSorted event_cmp ys → m ≡ earliest (slice_get xs 0) k → n ≡ earliest (slice_get ys 0) m → n ≡ least_key k (xs ++ ys)
least_of_two keys k m n xs ys s t h g =
    g ∙ ap (earliest (slice_get ys 0)) h
    ∙ sym (least_first keys (earliest (slice_get xs 0) k) ys t)
    ∙ ap (λ z. least_key z ys) (sym (least_first keys k xs s))
    ∙ sym (least_append k xs ys)

-- ---- router by router

abbrev pub waiting_of : {S : Type 0} → List (Speculation S) → List Event
waiting_of rs = waiting_at (map (λ r. r.part) rs)

nothing_waits : (k : Key) → least_key k (waiting_at []) ≡ k
unfolding least_key waiting_at
nothing_waits k = refl

-- where none is left
pub least_end : {S : Type 0} (k : Key) (rs : List (Speculation S)) (i : ℕ) → length rs ≤ i → least_key k (waiting_of (drop i rs)) ≡ k
least_end k rs i l = at_drop_all (λ xs. least_key k (waiting_of xs)) rs i l ∙ nothing_waits k

pub least_of_one : {S : Type 0} (k : Key) (r : Speculation S) (rs : List (Speculation S)) → least_key k (waiting_of (r ∷ rs)) ≡ least_key (least_key k (r.part.todo ++ r.part.voids)) (waiting_of rs)
unfolding waiting_at
least_of_one k r rs = least_append k (r.part.todo ++ r.part.voids) (waiting_of rs)

pub least_turn : {S : Type 0} (k : Key) (rs : List (Speculation S)) (i : ℕ) (r : Speculation S) → i < length rs → r ≡ get_or rs i r → least_key (least_key k (r.part.todo ++ r.part.voids)) (waiting_of (drop (i + 1) rs)) ≡ least_key k (waiting_of (drop i rs))
least_turn k rs i r l is =
    sym (least_of_one k r (drop (i + 1) rs))
    ∙ ap (λ x. least_key k (waiting_of (x ∷ drop (i + 1) rs))) is
    ∙ sym (at_drop_more (λ xs. least_key k (waiting_of xs)) rs i r l)

pub horizon_is : (h : Heading) (w : World) → least_key (least_key (floor_bound h w) (waiting_at w.parts)) (flying w.flight) ≡ horizon h w
unfolding horizon waiting
horizon_is h w = sym (least_append (floor_bound h w) (waiting_at w.parts) (flying w.flight))
