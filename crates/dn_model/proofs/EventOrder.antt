-- The order of events is total, tells all events apart, and goes with the keys and the moments.
use Rattle.std.proofs.Common.{◌≡◌, ℕ, zero, suc, ◌*◌, ◌<◌, ◌≤◌, true, false, ◌⊎◌, inl, inr, List, [], ◌∷◌, ◌++◌, length, refl, sym, ap, ◌∙◌, arith}
use Rattle.std.proofs.Math.Nat.{mul-le-mul_right, suc-mul}
use Rattle.std.specs.Ordering.{is_lt, is_gt, ordering_then, nat_cmp, MatchOrdering}
use Rattle.std.specs.declared.cmp.Ordering.{Ordering}
use Rattle.std.specs.declared.cmp.Ordering.TheVariants.{Less, Equal, Greater}
use Rattle.std.specs.Cmp.{IsTotalOrder, upto, ranked}
use Rattle.std.specs.Cmp.Lexicographic.{slice_cmp}
use Rattle.std.specs.FinMap.{IsAntisymmetric, slice_cmp-IsAntisymmetric, nat_cmp-IsAntisymmetric}
use Rattle.std.proofs.lemmas.Bool.{both_ways, false≢true}
use Rattle.dn_model.specs.declared.key.Key.{Key}
use Rattle.dn_model.specs.declared.event.Event.{Event}
use Rattle.dn_guest.specs.declared.input.Input.{Input}
use Rattle.dn_guest.specs.declared.input.Input.TheVariants.{Tick, Cmd, Down, Up, Msg}
use Rattle.dn_guest.specs.InputOrder.{input_numbers, input_cmp}
use Rattle.dn_model.specs.Order.{key_numbers, event_numbers, key_cmp, event_cmp, is_below, key_total, event_total}
use Rattle.dn_model.specs.Keys.{moment}
use Rattle.dn_lists.proofs.Lists.{by_test}
use Rattle.dn_lists.proofs.Sorting.{turn}

-- ---- it tells all events apart

-- an input from its numbers
input_from : List ℕ → Input
input_from (zero ∷ group ∷ more) = Tick group
input_from (suc zero ∷ body) = Cmd body
input_from (suc (suc zero) ∷ port ∷ more) = Down port
input_from (suc (suc (suc zero)) ∷ port ∷ more) = Up port
input_from (suc (suc (suc (suc n))) ∷ port ∷ body) = Msg port body
input_from _ = Tick 0

input_from_its : (i : Input) → input_from (input_numbers i) ≡ i
unfolding input_from
input_from_its (Tick group) = refl
input_from_its (Cmd body) = refl
input_from_its (Down port) = refl
input_from_its (Up port) = refl
input_from_its (Msg port body) = refl

-- the order of inputs tells them apart
pub input_same : (x y : Input) → input_cmp x y ≡ Equal → x ≡ y
unfolding input_cmp
input_same x y h =
    let e : input_numbers x ≡ input_numbers y = slice_cmp-IsAntisymmetric nat_cmp-IsAntisymmetric (input_numbers x) (input_numbers y) h in
    sym (input_from_its x) ∙ ap input_from e ∙ input_from_its y

nothing : Event
nothing = record { key = record { group = 0; sum = 0; class = 0; tie = 0; origin = 0; seq = 0 }; router = 0; input = Tick 0 }

event_from : List ℕ → Event
event_from (g ∷ s ∷ c ∷ t ∷ o ∷ q ∷ r ∷ input) =
    record { key = record { group = g; sum = s; class = c; tie = t; origin = o; seq = q }; router = r; input = input_from input }
event_from _ = nothing

event_from_its : (e : Event) → event_from (event_numbers e) ≡ e
unfolding event_from
event_from_its e = ap (λ i. record e { input = i }) (input_from_its e.input)

pub event_same : IsAntisymmetric event_cmp
unfolding event_cmp
event_same x y h =
    let e : event_numbers x ≡ event_numbers y = slice_cmp-IsAntisymmetric nat_cmp-IsAntisymmetric (event_numbers x) (event_numbers y) h in
    sym (event_from_its x) ∙ ap event_from e ∙ event_from_its y

-- ---- it goes with the keys

then_left : (r s : Ordering) → is_gt (ordering_then r s) ≡ false → is_gt r ≡ false
then_left Less s h = refl
then_left Equal s h = refl
then_left Greater s h = h

then_again : (r s t : Ordering) → (is_gt s ≡ false → is_gt t ≡ false) → is_gt (ordering_then r s) ≡ false → is_gt (ordering_then r t) ≡ false
then_again Less s t f h = refl
then_again Equal s t f h = f h
then_again Greater s t f h = h

-- lists that go on are no less than their fronts
front_cmp : (xs ys us vs : List ℕ) → length xs ≡ length ys → is_gt (slice_cmp nat_cmp (xs ++ us) (ys ++ vs)) ≡ false → is_gt (slice_cmp nat_cmp xs ys) ≡ false
front_cmp [] [] us vs e h = refl
front_cmp [] (y ∷ ys) us vs e h = refl
front_cmp (x ∷ xs) [] us vs e h = absurd (omega arith)
front_cmp (x ∷ xs) (y ∷ ys) us vs e h =
    then_again (nat_cmp x y) (slice_cmp nat_cmp (xs ++ us) (ys ++ vs)) (slice_cmp nat_cmp xs ys) (front_cmp xs ys us vs (omega arith)) h

pub keys_rise : (x y : Event) → is_gt (event_cmp x y) ≡ false → is_gt (key_cmp x.key y.key) ≡ false
unfolding event_cmp key_cmp
keys_rise x y h =
    front_cmp (key_numbers x.key) (key_numbers y.key) (x.router ∷ input_numbers x.input) (y.router ∷ input_numbers y.input) refl h

-- ---- below a key

pub below_down : {K : Type 0} (cmp : K → K → Ordering) (o : IsTotalOrder cmp) (x y b : K) → is_gt (cmp x y) ≡ false → is_lt (cmp y b) ≡ true → is_lt (cmp x b) ≡ true
below_down cmp o x y b h k =
    by_test (is_lt (cmp x b)) (λ g. g)
    (λ g. absurd (both_ways (is_lt (cmp y b)) (sym (turn cmp o y b) ∙ upto o b x y (turn cmp o x b ∙ g) h) k))

pub below_before : (bound : Key) (x y : Event) → is_gt (key_cmp x.key y.key) ≡ false → is_below bound y ≡ true → is_below bound x ≡ true
unfolding is_below
below_before bound x y h k = below_down key_cmp key_total x.key y.key bound h k

-- ---- the moments

first_two : (g h s t : ℕ) (rest : Ordering) → is_gt (ordering_then (nat_cmp g h) (ordering_then (nat_cmp s t) rest)) ≡ false → (g < h) ⊎ ((g ≡ h) × (s ≤ t))
first_two g h s t rest e = cases (nat_cmp g h) (ranked g h (nat_cmp g h) refl) e
  where
    inner : (r : Ordering) → MatchOrdering r (s < t) (s ≡ t) (t < s) → is_gt (ordering_then r rest) ≡ false → s ≤ t
    inner Less m e = omega arith
    inner Equal m e = omega arith
    inner Greater m e = absurd (false≢true (sym e))

    cases : (r : Ordering) → MatchOrdering r (g < h) (g ≡ h) (h < g) → is_gt (ordering_then r (ordering_then (nat_cmp s t) rest)) ≡ false → (g < h) ⊎ ((g ≡ h) × (s ≤ t))
    cases Less m e = inl m
    cases Equal m e = inr (m, inner (nat_cmp s t) (ranked s t (nat_cmp s t) refl) e)
    cases Greater m e = absurd (false≢true (sym e))

pub moments_rise : (period : ℕ) (x y : Key) → x.sum < period → y.sum < period → is_gt (key_cmp x y) ≡ false → moment period x ≤ moment period y
unfolding key_cmp
moments_rise period x y p q h =
    elim (first_two x.group y.group x.sum y.sum (slice_cmp nat_cmp (x.class ∷ x.tie ∷ x.origin ∷ x.seq ∷ []) (y.class ∷ y.tie ∷ y.origin ∷ y.seq ∷ [])) h) [
      | inl l ↦ omega (arith, mul-le-mul_right period l, suc-mul x.group period)
      | inr e ↦ let g : x.group * period ≡ y.group * period = ap (λ n. n * period) e.0 in omega (arith, e.1, g)
    ]

-- an event of an earlier moment stands before the other
pub events_from_moments : (period : ℕ) (x y : Event) → x.key.sum < period → y.key.sum < period → moment period x.key < moment period y.key → is_gt (event_cmp x y) ≡ false
events_from_moments period x y p q h =
    by_test (is_gt (event_cmp x y))
    (λ g.
    let k : is_lt (event_cmp y x) ≡ true = sym (turn event_cmp event_total y x) ∙ g in
    let l : is_gt (event_cmp y x) ≡ false = lt_not_gt (event_cmp y x) k in
    absurd (omega (arith, moments_rise period y.key x.key q p (keys_rise y x l))))
    (λ g. g)
  where
    lt_not_gt : (r : Ordering) → is_lt r ≡ true → is_gt r ≡ false
    lt_not_gt Less h = refl
    lt_not_gt Equal h = refl
    lt_not_gt Greater h = absurd (false≢true h)

-- ---- the order by its parts

then_twice : (r s t : Ordering) → ordering_then (ordering_then r s) t ≡ ordering_then r (ordering_then s t)
then_twice Less s t = refl
then_twice Equal s t = refl
then_twice Greater s t = refl

append_cmp : (xs ys us vs : List ℕ) → length xs ≡ length ys → slice_cmp nat_cmp (xs ++ us) (ys ++ vs) ≡ ordering_then (slice_cmp nat_cmp xs ys) (slice_cmp nat_cmp us vs)
append_cmp [] [] us vs e = refl
append_cmp [] (y ∷ ys) us vs e = absurd (omega arith)
append_cmp (x ∷ xs) [] us vs e = absurd (omega arith)
append_cmp (x ∷ xs) (y ∷ ys) us vs e =
    ap (ordering_then (nat_cmp x y)) (append_cmp xs ys us vs (omega arith)) ∙ sym (then_twice (nat_cmp x y) (slice_cmp nat_cmp xs ys) (slice_cmp nat_cmp us vs))

pub event_cmp_is : (x y : Event) → event_cmp x y ≡ ordering_then (ordering_then (key_cmp x.key y.key) (nat_cmp x.router y.router)) (input_cmp x.input y.input)
unfolding event_cmp key_cmp input_cmp
event_cmp_is x y =
    append_cmp (key_numbers x.key) (key_numbers y.key) (x.router ∷ input_numbers x.input) (y.router ∷ input_numbers y.input) refl
    ∙ sym (then_twice (slice_cmp nat_cmp (key_numbers x.key) (key_numbers y.key)) (nat_cmp x.router y.router) (slice_cmp nat_cmp (input_numbers x.input) (input_numbers y.input)))
