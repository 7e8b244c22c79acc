-- Lists of events that stay in order, and what of them is below a key.
use Rattle.std.proofs.Common.{◌≡◌, ℕ, ◌≤◌, Bool, true, false, List, [], ◌∷◌, ◌++◌, length, take, length-take, sym, ap, ◌∙◌, arith, append-nil}
use Rattle.std.specs.List.{AllByRecursion}
use Rattle.std.specs.List.Sorted.{IsSorted}
use Rattle.std.specs.Ordering.{is_lt, is_gt}
use Rattle.std.specs.Cmp.{upto}
use Rattle.std.proofs.lemmas.Bool.{both_ways, false≢true}
use Rattle.dn_lists.proofs.Lists.{by_test, all_weaker, all_append, filter_append, filter_none}
use Rattle.dn_lists.proofs.Sorting.{turn, rises_from_sorted, sorted_from_rises}
use Rattle.dn_model.specs.declared.event.Event.{Event}
use Rattle.dn_model.specs.declared.key.Key.{Key}
use Rattle.dn_model.specs.Order.{key_cmp, event_cmp, event_total, is_below}
use Rattle.dn_model.specs.Settled.{below}
use Rattle.dn_model.proofs.EventOrder.{keys_rise}
use Rattle.dn_model.proofs.Waves.{IsRising}
use Rattle.dn_world.specs.World.{Part, is_same, stands, is_before_last}
use Rattle.dn_world.specs.Steps.{until, since, is_after_first, is_wrong}
use Rattle.dn_world.specs.Runs.{IsPast}
use Rattle.dn_world.proofs.Parts.{stands_all, same_itself}
use Rattle.dn_world.proofs.Past.{past_on, past_trans}
use Rattle.std.specs.declared.cmp.Ordering.{Ordering}
use Rattle.std.specs.declared.cmp.Ordering.TheVariants.{Less, Equal, Greater}

last_of : (P : Event → Type 0) (xs : List Event) (e : Event) → AllByRecursion P (xs ++ e ∷ []) → P e
last_of P [] e a = a.0
last_of P (x ∷ xs) e a = last_of P xs e a.1

rises_push : (xs : List Event) (e : Event) → IsRising xs → is_before_last xs e ≡ false → IsRising (xs ++ e ∷ [])
unfolding is_before_last
rises_push [] e r h = (tt, tt)
rises_push (x ∷ []) e r h = ((turn event_cmp event_total e x ∙ h, tt), (tt, tt))
rises_push (x ∷ y ∷ ys) e r h =
    let ih = rises_push (y ∷ ys) e r.1 h in
    let y_up : is_gt (event_cmp y e) ≡ false = last_of (λ z. is_gt (event_cmp y z) ≡ false) ys e ih.0 in
    let x_up = upto event_total x y e r.0.0 y_up in
    (all_append (λ z. is_gt (event_cmp x z) ≡ false) (y ∷ ys) (e ∷ []) r.0 (x_up, tt), ih)

pub sorted_push : (xs : List Event) (e : Event) → IsSorted event_cmp xs → is_before_last xs e ≡ false → IsSorted event_cmp (xs ++ e ∷ [])
sorted_push xs e s h = sorted_from_rises event_cmp event_total (xs ++ e ∷ []) (rises_push xs e (rises_from_sorted event_cmp event_total xs s) h)

all_front : (P : Event → Type 0) (q : Event → Bool) (es : List Event) → AllByRecursion P es → AllByRecursion P (until q es)
unfolding until
all_front P q [] a = tt
all_front P q (e ∷ es) a = by_test (q e) (λ g. simp g tt) (λ g. simp g (a.0, all_front P q es a.1))

rises_until : (q : Event → Bool) (es : List Event) → IsRising es → IsRising (until q es)
unfolding until
rises_until q [] r = tt
rises_until q (e ∷ es) r =
    by_test (q e) (λ g. simp g tt) (λ g. simp g (all_front (λ y. is_gt (event_cmp e y) ≡ false) q es r.0, rises_until q es r.1))

pub sorted_until : (q : Event → Bool) (es : List Event) → IsSorted event_cmp es → IsSorted event_cmp (until q es)
sorted_until q es s = sorted_from_rises event_cmp event_total (until q es) (rises_until q es (rises_from_sorted event_cmp event_total es s))

-- ---- what is past a key

-- from the first that passes on all is past the key
since_past : (b : Key) (q : Event → Bool) (es : List Event) → IsRising es → ((e : Event) → q e ≡ true → IsPast b e.key) → AllByRecursion (λ e. IsPast b e.key) (since q es)
unfolding since
since_past b q [] r h = tt
since_past b q (e ∷ es) r h =
    by_test (q e)
    (λ g. simp g (h e g, all_weaker (λ y. is_gt (event_cmp e y) ≡ false) (λ y. IsPast b y.key) es (λ y k. past_on b e.key y.key (h e g) (keys_rise e y k)) r.0))
    (λ g. simp g (since_past b q es r.1 h))

not_both : (r : Ordering) → is_gt r ≡ true → is_lt r ≡ true → ⊥
not_both Less h g = false≢true h
not_both Equal h g = false≢true h
not_both Greater h g = false≢true g

after_past : (b : Key) (todo : List Event) (e : Event) → AllByRecursion (λ x. IsPast b x.key) todo → is_after_first todo e ≡ true → IsPast b e.key
unfolding is_after_first
after_past b [] e a h = absurd (false≢true h)
after_past b (x ∷ xs) e a h =
    let le : is_gt (event_cmp x e) ≡ false = by_test (is_gt (event_cmp x e)) (λ g. absurd (not_both (event_cmp e x) h (sym (turn event_cmp event_total e x) ∙ g))) (λ g. g) in
    past_on b x.key e.key a.0 (keys_rise x e le)

wrong_past : (b : Key) (p : Part) (e : Event) → AllByRecursion (λ x. IsPast b x.key) p.todo → AllByRecursion (λ x. IsPast b x.key) p.voids → is_wrong p e ≡ true → IsPast b e.key
unfolding is_wrong
wrong_past b p e a v h =
    by_test (stands e p.voids)
    (λ g. stands_all (λ x. IsPast b x.key) e p.voids g v)
    (λ g. let k : is_after_first p.todo e ≡ true = (simp g at h) in after_past b p.todo e a k)

pub taken_past : (b : Key) (p : Part) → IsSorted event_cmp p.done → AllByRecursion (λ x. IsPast b x.key) p.todo → AllByRecursion (λ x. IsPast b x.key) p.voids → AllByRecursion (λ x. IsPast b x.key) (since (is_wrong p) p.done)
taken_past b p s a v =
    since_past b (is_wrong p) p.done (rises_from_sorted event_cmp event_total p.done s) (λ e h. wrong_past b p e a v h)

-- ---- what is below a key

none_below : (b : Key) (es : List Event) → AllByRecursion (λ x. IsPast b x.key) es → below b es ≡ []
unfolding below is_below
none_below b es a = filter_none (is_below b) es a

below_append : (b : Key) (xs ys : List Event) → below b (xs ++ ys) ≡ below b xs ++ below b ys
unfolding below
below_append b xs ys = filter_append (is_below b) xs ys

pub below_past : (b : Key) (xs ys : List Event) → AllByRecursion (λ x. IsPast b x.key) ys → below b (xs ++ ys) ≡ below b xs
below_past b xs ys a = below_append b xs ys ∙ ap (λ l. below b xs ++ l) (none_below b ys a) ∙ append-nil (below b xs)

pub below_short : (b : Key) (es : List Event) → length (below b es) ≤ length es
unfolding below
below_short b [] = omega arith
below_short b (e ∷ es) =
    let ih = below_short b es in by_test (is_below b e) (λ g. simp g (omega (arith, ih))) (λ g. simp g (omega (arith, ih)))

-- a later key has no fewer below it
pub below_grows : (a b : Key) (e : Event) → IsPast a b → is_below a e ≡ true → is_below b e ≡ true
unfolding is_below
below_grows a b e p h =
    by_test (is_below b e) (λ g. g)
    (λ g. absurd (both_ways (is_lt (key_cmp e.key a)) (past_trans a b e.key p g) h))

pub fewer_below : (a b : Key) (es : List Event) → IsPast a b → length (below a es) ≤ length (below b es)
unfolding below
fewer_below a b [] p = omega arith
fewer_below a b (e ∷ es) p =
    let ih = fewer_below a b es p in
    by_test (is_below a e)
    (λ g. let k = below_grows a b e p g in simp (g, k) (omega (arith, ih)))
    (λ g. by_test (is_below b e) (λ k. simp (g, k) (omega (arith, ih))) (λ k. simp (g, k) (omega (arith, ih))))

-- ---- what isn't wrong

-- no event of voids stands among the entries that stay
stay_right : (p : Part) (es : List Event) → AllByRecursion (λ e. stands e p.voids ≡ false) (until (is_wrong p) es)
unfolding until is_wrong
stay_right p [] = tt
stay_right p (e ∷ es) =
    by_test (is_wrong p e)
    (λ g. simp g tt)
    (λ g. simp g (by_test (stands e p.voids) (λ k. absurd (let bad : true ≡ false = (simp k at g) in cc)) (λ k. k), stay_right p es))

stands_first : (v : Event) (vs : List Event) → stands v (v ∷ vs) ≡ true
unfolding stands
stands_first v vs = let g = same_itself v in simp g

stands_later : (x v : Event) (vs : List Event) → stands x vs ≡ true → stands x (v ∷ vs) ≡ true
unfolding stands
stands_later x v vs k = by_test (is_same x v) (λ g. simp g) (λ g. simp g k)

-- so none of voids was handled
pub none_handled : (p : Part) → AllByRecursion (λ v. stands v (until (is_wrong p) p.done) ≡ false) p.voids
none_handled p = each p.voids (λ v h. h)
  where
    each : (vs : List Event) → ((v : Event) → stands v vs ≡ true → stands v p.voids ≡ true) → AllByRecursion (λ v. stands v (until (is_wrong p) p.done) ≡ false) vs
    each [] h = tt
    each (v ∷ vs) h = (
      by_test (stands v (until (is_wrong p) p.done))
          (λ g. absurd (both_ways (stands v p.voids) (stands_all (λ e. stands e p.voids ≡ false) v (until (is_wrong p) p.done) g (stay_right p p.done)) (h v (stands_first v vs))))
          (λ g. g),
      each vs (λ x k. h x (stands_later x v vs k)),
    )

-- how many are below a key, where so many stand in front
pub count_is : (key : Key) (seen done : List Event) (count : ℕ) → seen ≡ done → count ≤ length seen → below key seen ≡ take count seen → length (below key done) ≡ count
count_is key seen done count same within front =
    ap (λ l. length (below key l)) (sym same) ∙ ap length front ∙ (let n = length-take {A = Event} count seen in omega (arith, n, within))
