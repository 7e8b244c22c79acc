-- Places in a list of events that is in order.
use Rattle.std.proofs.Common.{◌≡◌, ℕ, zero, suc, ◌<◌, ◌≤◌, Bool, true, false, not, List, [], ◌∷◌, length, get_or, take, drop, refl, sym, ap, ◌∙◌, subst, arith}
use Rattle.std.specs.Prelude.{Some, slice_get}
use Rattle.std.specs.List.{AllByRecursion, insert, remove}
use Rattle.std.specs.List.Sorted.{IsSorted, IsPartitionedBy, IsPartitionPoint}
use Rattle.std.specs.Ordering.{is_lt, is_gt}
use Rattle.std.specs.declared.cmp.Ordering.{Ordering}
use Rattle.std.specs.declared.cmp.Ordering.TheVariants.{Less, Equal, Greater}
use Rattle.std.specs.Cmp.{upto, Equal-is}
use Rattle.std.proofs.lemmas.Bool.{both_ways, false≢true}
use Rattle.dn_lists.specs.InOrder.{put_in_order}
use Rattle.dn_lists.proofs.Lists.{by_test, all_weaker}
use Rattle.dn_lists.proofs.Sorting.{turn, rises_from_sorted}
use Rattle.dn_model.specs.declared.event.Event.{Event}
use Rattle.dn_model.specs.Order.{event_cmp, event_total}
use Rattle.dn_model.proofs.EventOrder.{event_same, below_down}
use Rattle.dn_model.proofs.Waves.{IsRising}
use Rattle.dn_world.specs.World.{is_same, stands, without}
use Rattle.dn_world.proofs.Parts.{same_is, same_itself}
use Rattle.dn_queue.specs.Places.{IsSplit, IsFirst}

-- ---- a split from what `partition_point` answers

all_at : (P : Event → Type 0) (xs : List Event) → ((k : ℕ) (d : Event) → k < length xs → P (get_or xs k d)) → AllByRecursion P xs
all_at P [] h = tt
all_at P (x ∷ xs) h = (h 0 x (omega arith), all_at P xs (λ k d l. h (suc k) d (omega (arith, l))))

at_all : (P : Event → Type 0) (xs : List Event) → AllByRecursion P xs → (k : ℕ) (d : Event) → k < length xs → P (get_or xs k d)
at_all P [] a k d l = absurd (omega (arith, l))
at_all P (x ∷ xs) a zero d l = a.0
at_all P (x ∷ xs) a (suc k) d l = at_all P xs a.1 k d (omega (arith, l))

-- of the elements of a rising list an earlier one isn't greater
risen_at : (xs : List Event) → IsRising xs → (i j : ℕ) (d : Event) → i < j → j < length xs → is_gt (event_cmp (get_or xs i d) (get_or xs j d)) ≡ false
risen_at [] r i j d l m = absurd (omega (arith, m))
risen_at (x ∷ xs) r zero zero d l m = absurd (omega (arith, l))
risen_at (x ∷ xs) r zero (suc j) d l m = at_all (λ y. is_gt (event_cmp x y) ≡ false) xs r.0 j d (omega (arith, m))
risen_at (x ∷ xs) r (suc i) zero d l m = absurd (omega (arith, l))
risen_at (x ∷ xs) r (suc i) (suc j) d l m = risen_at xs r.1 i j d (omega (arith, l)) (omega (arith, m))

-- a test that falls along the order of events parts a rising list
pub parted : (p : Event → Bool) → ((x y : Event) → is_gt (event_cmp x y) ≡ false → p y ≡ true → p x ≡ true) → (xs : List Event) → IsRising xs → IsPartitionedBy p xs
parted p fall [] r i j d le l h = absurd (omega (arith, l))
parted p fall (x ∷ xs) r zero zero d le l h = h
parted p fall (x ∷ xs) r zero (suc j) d le l h = fall x (get_or xs j d) (at_all (λ y. is_gt (event_cmp x y) ≡ false) xs r.0 j d (omega (arith, l))) h
parted p fall (x ∷ xs) r (suc i) zero d le l h = absurd (omega (arith, le))
parted p fall (x ∷ xs) r (suc i) (suc j) d le l h = parted p fall xs r.1 i j d (omega (arith, le)) (omega (arith, l)) h

less_falls : (e x y : Event) → is_gt (event_cmp x y) ≡ false → is_lt (event_cmp y e) ≡ true → is_lt (event_cmp x e) ≡ true
less_falls e x y h k = below_down event_cmp event_total x y e h k

not_true : (b : Bool) → not b ≡ true → b ≡ false
not_true true h = absurd (false≢true h)
not_true false h = refl

not_more_falls : (e x y : Event) → is_gt (event_cmp x y) ≡ false → not (is_gt (event_cmp y e)) ≡ true → not (is_gt (event_cmp x e)) ≡ true
not_more_falls e x y h k = ap not (upto event_total x y e h (not_true (is_gt (event_cmp y e)) k))

pub less_parted : (e : Event) (xs : List Event) → IsSorted event_cmp xs → IsPartitionedBy (λ x. is_lt (event_cmp x e)) xs
less_parted e xs s = parted (λ x. is_lt (event_cmp x e)) (less_falls e) xs (rises_from_sorted event_cmp event_total xs s)

pub not_more_parted : (e : Event) (xs : List Event) → IsSorted event_cmp xs → IsPartitionedBy (λ x. not (is_gt (event_cmp x e))) xs
not_more_parted e xs s = parted (λ x. not (is_gt (event_cmp x e))) (not_more_falls e) xs (rises_from_sorted event_cmp event_total xs s)

front_of : (P : Event → Type 0) (xs : List Event) (i : ℕ) → i ≤ length xs → ((k : ℕ) (d : Event) → k < i → P (get_or xs k d)) → AllByRecursion P (take i xs)
front_of P [] zero l h = tt
front_of P [] (suc i) l h = absurd (omega (arith, l))
front_of P (x ∷ xs) zero l h = tt
front_of P (x ∷ xs) (suc i) l h = (h 0 x (omega arith), front_of P xs i (omega (arith, l)) (λ k d m. h (suc k) d (omega (arith, m))))

rest_of : (P : Event → Type 0) (xs : List Event) (i : ℕ) → ((k : ℕ) (d : Event) → i ≤ k → k < length xs → P (get_or xs k d)) → AllByRecursion P (drop i xs)
rest_of P [] zero h = tt
rest_of P [] (suc i) h = tt
rest_of P (x ∷ xs) zero h = all_at P (x ∷ xs) (λ k d l. h k d (omega arith) l)
rest_of P (x ∷ xs) (suc i) h = rest_of P xs i (λ k d l m. h (suc k) d (omega (arith, l)) (omega (arith, m)))

pub split_from : (p : Event → Bool) (xs : List Event) (i : ℕ) → i ≤ length xs → IsPartitionPoint (λ y. p y ≡ true) (λ y. p y ≡ false) xs i → IsSplit p xs i
split_from p xs i l h = record {
  front = front_of (λ y. p y ≡ true) xs i l (λ k d m. h.0 k d (omega arith) m);
  rest = rest_of (λ y. p y ≡ false) xs i h.1;
}

-- ---- putting in, taking out

pub put_at : (e : Event) (xs : List Event) (i : ℕ) → i ≤ length xs → IsSplit (λ x. is_lt (event_cmp x e)) xs i → insert xs i e ≡ put_in_order event_cmp e xs
put_at e [] zero l s = refl
put_at e [] (suc i) l s = absurd (omega (arith, l))
put_at e (x ∷ xs) zero l s = let g : is_gt (event_cmp e x) ≡ false = turn event_cmp event_total x e ∙ s.rest.0 in simp g
put_at e (x ∷ xs) (suc i) l s =
    let g : is_gt (event_cmp e x) ≡ true = turn event_cmp event_total x e ∙ s.front.0 in
    let ih = put_at e xs i (omega (arith, l)) (record { front = s.front.1; rest = s.rest }) in
    simp g (ap (λ r. x ∷ r) ih)

pub take_at : (e : Event) (xs : List Event) (i : ℕ) → IsFirst e xs i → remove xs i ≡ without e xs
unfolding without
take_at e [] i f = absurd (let l = f.within in omega (arith, l))
take_at e (x ∷ xs) zero f =
    let here : Some x ≡ Some e = f.here in
    let same : x ≡ e = cc in
    let g : is_same e x ≡ true = ap (is_same e) same ∙ same_itself e in
    simp g
take_at e (x ∷ xs) (suc i) f =
    let g = f.front.0 in
    let ih = take_at e xs i (record { within = (let l = f.within in omega (arith, l)); here = f.here; front = f.front.1 }) in
    simp g (ap (λ r. x ∷ r) ih)

pub stands_at : (e : Event) (xs : List Event) (i : ℕ) → IsFirst e xs i → stands e xs ≡ true
unfolding stands
stands_at e [] i f = absurd (let l = f.within in omega (arith, l))
stands_at e (x ∷ xs) zero f =
    let here : Some x ≡ Some e = f.here in
    let same : x ≡ e = cc in
    let g : is_same e x ≡ true = ap (is_same e) same ∙ same_itself e in
    simp g
stands_at e (x ∷ xs) (suc i) f =
    let g = f.front.0 in
    let ih = stands_at e xs i (record { within = (let l = f.within in omega (arith, l)); here = f.here; front = f.front.1 }) in
    simp g ih

-- ---- finding

less_differs : (e x : Event) → is_lt (event_cmp x e) ≡ true → is_same e x ≡ false
less_differs e x h =
    by_test (is_same e x)
    (λ g.
    let same : e ≡ x = same_is e x g in
    let equal : is_lt (event_cmp x x) ≡ true = subst (λ z. is_lt (event_cmp x z) ≡ true) same h in
    let tied : event_cmp x x ≡ Equal = (Equal-is (event_cmp x x)).0 (same_itself x) in
    absurd (false≢true (sym (ap is_lt tied) ∙ equal)))
    (λ g. g)

pub first_from : (e x : Event) (xs : List Event) (i : ℕ) → i < length xs → slice_get xs i ≡ Some x → is_same e x ≡ true → IsSplit (λ y. is_lt (event_cmp y e)) xs i → IsFirst e xs i
first_from e x xs i l got g s = record {
  within = l;
  here = got ∙ ap Some (sym (same_is e x g));
  front = all_weaker (λ y. is_lt (event_cmp y e) ≡ true) (λ y. is_same e y ≡ false) (take i xs) (less_differs e) s.front;
}

pub none_stand : (e : Event) (xs : List Event) → AllByRecursion (λ y. is_same e y ≡ false) xs → stands e xs ≡ false
unfolding stands
none_stand e [] a = refl
none_stand e (x ∷ xs) a = let g = a.0 in simp g (none_stand e xs a.1)

-- what is neither less than e nor e is greater
beyond : (e x : Event) → is_lt (event_cmp x e) ≡ false → is_same e x ≡ false → is_gt (event_cmp x e) ≡ true
beyond e x h k = by_cases (event_cmp x e) refl
  where
    by_cases : (r : Ordering) → event_cmp x e ≡ r → is_gt (event_cmp x e) ≡ true
    by_cases Less g = absurd (false≢true (sym h ∙ ap is_lt g))
    by_cases Equal g =
        let same : x ≡ e = event_same x e g in
        absurd (false≢true (sym k ∙ ap (is_same e) same ∙ same_itself e))
    by_cases Greater g = ap is_gt g

pub absent_from_split : (e : Event) (xs : List Event) (i : ℕ) → IsRising xs → IsSplit (λ y. is_lt (event_cmp y e)) xs i → ((x : Event) → slice_get xs i ≡ Some x → is_same e x ≡ false) → AllByRecursion (λ y. is_same e y ≡ false) xs
absent_from_split e [] i r s n = tt
absent_from_split e (x ∷ xs) zero r s n =
    let k = n x refl in
    let g = beyond e x s.rest.0 k in
    (k, all_weaker (λ y. is_gt (event_cmp x y) ≡ false) (λ y. is_same e y ≡ false) xs (λ y h. by_test (is_same e y) (λ t. absurd (both_ways (is_gt (event_cmp x e)) (subst (λ z. is_gt (event_cmp x z) ≡ false) (sym (same_is e y t)) h) g)) (λ t. t)) r.0)
absent_from_split e (x ∷ xs) (suc i) r s n =
    (less_differs e x s.front.0, absent_from_split e xs i r.1 (record { front = s.front.1; rest = s.rest }) n)

-- ---- what an index reads

pub got_is : (xs : List Event) (i : ℕ) (x : Event) → i < length xs → x ≡ get_or xs i x → slice_get xs i ≡ Some x
got_is [] i x l e = absurd (omega (arith, l))
got_is (y ∷ ys) zero x l e = ap Some (sym e)
got_is (y ∷ ys) (suc i) x l e = got_is ys i x (omega (arith, l)) e

pub got_past : (xs : List Event) (i : ℕ) (x : Event) → length xs ≤ i → slice_get xs i ≡ Some x → ⊥
got_past [] i x l e = cc
got_past (y ∷ ys) zero x l e = omega (arith, l)
got_past (y ∷ ys) (suc i) x l e = got_past ys i x (omega (arith, l)) e
