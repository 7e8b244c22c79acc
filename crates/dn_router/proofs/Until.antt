-- The front of a list before the first event that passes a test.
use Rattle.std.proofs.Common.{◌≡◌, ℕ, zero, suc, ◌+◌, ◌-◌, ◌<◌, ◌≤◌, Bool, true, false, not, ◌||◌, min, List, [], ◌∷◌, ◌++◌, length, get_or, take, drop, length-take, length-append, refl, sym, ap, ◌∙◌, subst, arith}
use Rattle.std.specs.Prelude.{IsTrue, Option, Some, None, IfSome, IfNone, is_some, slice_get}
use Rattle.std.specs.List.{filter}
use Rattle.std.specs.Ordering.{is_lt, is_gt}
use Rattle.std.proofs.lemmas.Bool.{both_ways, false≢true}
use Rattle.std.proofs.lemmas.List.{take_more}
use Rattle.dn_lists.proofs.Lists.{by_test}
use Rattle.dn_model.specs.declared.event.Event.{Event}
use Rattle.dn_model.specs.Order.{event_cmp}
use Rattle.dn_world.specs.World.{is_same, stands, is_before_last}
use Rattle.dn_world.specs.Steps.{until, since, is_after_first}
use Rattle.dn_world.proofs.Parts.{same_is, same_itself}
use Rattle.dn_queue.specs.Places.{IsSplit, IsFirst}
use Rattle.dn_queue.proofs.Places.{stands_at}

pub until_same : (p q : Event → Bool) (es : List Event) → ((e : Event) → p e ≡ q e) → until p es ≡ until q es
unfolding until
until_same p q [] h = refl
until_same p q (e ∷ es) h =
    let same = h e in
    rw same (by_test (q e) (λ g. simp g) (λ g. simp g (ap (λ l. e ∷ l) (until_same p q es h))))

pub until_or : (p q : Event → Bool) (es : List Event) → length (until (λ e. p e || q e) es) ≡ min (length (until p es)) (length (until q es))
unfolding until
until_or p q [] = omega arith
until_or p q (e ∷ es) =
    let ih = until_or p q es in
    by_test (p e)
    (λ g. simp g (omega arith))
    (λ g. by_test (q e) (λ k. simp (g, k) (omega arith)) (λ k. simp (g, k) (omega (arith, ih))))

not_false : (b : Bool) → not b ≡ false → b ≡ true
not_false true h = refl
not_false false h = absurd (false≢true (sym h))

not_true : (b : Bool) → not b ≡ true → b ≡ false
not_true true h = absurd (false≢true h)
not_true false h = refl

pub until_split : (p : Event → Bool) (es : List Event) (i : ℕ) → i ≤ length es → IsSplit (λ e. not (p e)) es i → length (until p es) ≡ i
unfolding until
until_split p [] i l s = omega (arith, l)
until_split p (e ∷ es) zero l s = let g = not_false (p e) s.rest.0 in simp g
until_split p (e ∷ es) (suc i) l s =
    let g = not_true (p e) s.front.0 in
    let ih = until_split p es i (omega (arith, l)) (record { front = s.front.1; rest = s.rest }) in
    simp g (omega (arith, ih))

-- all of them come before nothing
pub until_nothing : (es : List Event) → length (until (is_after_first []) es) ≡ length es
unfolding until is_after_first
until_nothing [] = refl
until_nothing (e ∷ es) = let ih = until_nothing es in omega (arith, ih)

other_way : (v e : Event) → is_same v e ≡ false → is_same e v ≡ false
other_way v e h =
    by_test (is_same e v)
    (λ g. let same : e ≡ v = same_is e v g in absurd (both_ways (is_same v e) h (ap (is_same v) same ∙ same_itself v)))
    (λ g. g)

pub until_first : (v : Event) (es : List Event) (i : ℕ) → IsFirst v es i → length (until (λ e. is_same e v) es) ≡ i
unfolding until
until_first v [] i f = absurd (let l = f.within in omega (arith, l))
until_first v (e ∷ es) zero f =
    let here : Some e ≡ Some v = f.here in
    let same : e ≡ v = cc in
    let g : is_same e v ≡ true = ap (is_same e) (sym same) ∙ same_itself e in
    simp g
until_first v (e ∷ es) (suc i) f =
    let g = other_way v e f.front.0 in
    let ih = until_first v es i (record { within = (let l = f.within in omega (arith, l)); here = f.here; front = f.front.1 }) in
    simp g (omega (arith, ih))

absent_here : (v e : Event) (es : List Event) → stands v (e ∷ es) ≡ false → (is_same v e ≡ false) × (stands v es ≡ false)
unfolding stands
absent_here v e es h =
    by_test (is_same v e) (λ g. absurd (let k : true ≡ false = (simp g at h) in cc)) (λ g. (g, (simp g at h)))

pub until_absent : (v : Event) (es : List Event) → stands v es ≡ false → length (until (λ e. is_same e v) es) ≡ length es
unfolding until
until_absent v [] h = refl
until_absent v (e ∷ es) h =
    let a = absent_here v e es h in
    let g = other_way v e a.0 in
    let ih = until_absent v es a.1 in
    simp g (omega (arith, ih))

-- ---- voids, one after another

stands_nothing : (e : Event) (b : Bool) → (stands e [] || b) ≡ b
unfolding stands
stands_nothing e b = refl

stands_one_more : (e v : Event) (vs : List Event) → stands e (vs ++ v ∷ []) ≡ (stands e vs || is_same e v)
unfolding stands
stands_one_more e v [] = by_test (is_same e v) (λ g. simp g) (λ g. simp g)
stands_one_more e v (x ∷ xs) = let ih = stands_one_more e v xs in by_test (is_same e x) (λ g. simp g) (λ g. simp g ih)

or_last : (a b c : Bool) → ((a || c) || b) ≡ ((a || b) || c)
or_last true b c = refl
or_last false true true = refl
or_last false true false = refl
or_last false false c = by_test c (λ g. simp g) (λ g. simp g)

pub voided_none : (test : Event → Bool) (es : List Event) → until (λ e. stands e [] || test e) es ≡ until test es
voided_none test es = until_same (λ e. stands e [] || test e) test es (λ e. stands_nothing e (test e))

pub voided_more : (test : Event → Bool) (v : Event) (vs es : List Event) → length (until (λ e. stands e (vs ++ v ∷ []) || test e) es) ≡ min (length (until (λ e. stands e vs || test e) es)) (length (until (λ e. is_same e v) es))
voided_more test v vs es =
    ap length (until_same (λ e. stands e (vs ++ v ∷ []) || test e) (λ e. (stands e vs || test e) || is_same e v) es (λ e. ap (λ b. b || test e) (stands_one_more e v vs) ∙ or_last (stands e vs) (test e) (is_same e v)))
    ∙ until_or (λ e. stands e vs || test e) (λ e. is_same e v) es

pub until_short : (p : Event → Bool) (es : List Event) → length (until p es) ≤ length es
unfolding until
until_short p [] = omega arith
until_short p (e ∷ es) = by_test (p e) (λ g. simp g (omega arith)) (λ g. simp g (let ih = until_short p es in omega (arith, ih)))

-- ---- the front and the rest by its length

pub take_until : (p : Event → Bool) (es : List Event) → take (length (until p es)) es ≡ until p es
unfolding until
take_until p [] = refl
take_until p (e ∷ es) = by_test (p e) (λ g. simp g) (λ g. simp g (ap (λ l. e ∷ l) (take_until p es)))

pub drop_until : (p : Event → Bool) (es : List Event) → drop (length (until p es)) es ≡ since p es
unfolding until since
drop_until p [] = refl
drop_until p (e ∷ es) = by_test (p e) (λ g. simp g) (λ g. simp g (drop_until p es))

-- ---- the last, and what stands

pub last_is : (es : List Event) (x e : Event) → slice_get es (length es - 1) ≡ Some x → is_before_last es e ≡ is_lt (event_cmp e x)
unfolding is_before_last
last_is [] x e h = absurd (cc)
last_is (y ∷ []) x e h =
    let same : y ≡ x = cc in ap (λ z. is_lt (event_cmp e z)) same
last_is (y ∷ z ∷ zs) x e h =
    let less : length (y ∷ z ∷ zs) - 1 ≡ suc (length (z ∷ zs) - 1) = omega arith in
    let rest : slice_get (z ∷ zs) (length (z ∷ zs) - 1) ≡ Some x = sym (ap (slice_get (y ∷ z ∷ zs)) less) ∙ h in
    last_is (z ∷ zs) x e rest

pub no_last : (es : List Event) (e : Event) → length es ≤ 0 → is_before_last es e ≡ false
unfolding is_before_last
no_last [] e l = refl
no_last (x ∷ xs) e l = absurd (omega (arith, l))

pub found_stands : (e : Event) (es : List Event) (r : Option ℕ) → IfSome r (λ i. IsFirst e es i) → IfNone r (stands e es ≡ false) → is_some r ≡ stands e es
found_stands e es None f n = sym n
found_stands e es (Some i) f n = sym (stands_at e es i f)

-- ---- what passes stands in front

pub split_filter : (p : Event → Bool) (es : List Event) (i : ℕ) → i ≤ length es → IsSplit p es i → filter p es ≡ take i es
split_filter p [] zero l s = refl
split_filter p [] (suc i) l s = absurd (omega (arith, l))
split_filter p (e ∷ es) zero l s =
    let g = s.rest.0 in
    let ih = split_filter p es zero (omega arith) (record { front = tt; rest = s.rest.1 }) in
    simp g ih
split_filter p (e ∷ es) (suc i) l s =
    let g = s.front.0 in
    let ih = split_filter p es i (omega (arith, l)) (record { front = s.front.1; rest = s.rest }) in
    simp g (ap (λ l. e ∷ l) ih)

-- ---- one more of voids

pub voided_found : (test : Event → Bool) (vs es : List Event) (i at place : ℕ) (v : Event) → i < length vs → v ≡ get_or vs i v → IsFirst v es at → place ≡ length (until (λ e. stands e (take i vs) || test e) es) → min place at ≡ length (until (λ e. stands e (take (i + 1) vs) || test e) es)
voided_found test vs es i at place v l is f h =
    let more : take (i + 1) vs ≡ take i vs ++ v ∷ [] = take_more vs i v l ∙ ap (λ y. take i vs ++ y ∷ []) (sym is) in
    (λ j. min (h j) (sym (until_first v es at f) j))
    ∙ sym (voided_more test v (take i vs) es)
    ∙ ap (λ l. length (until (λ e. stands e l || test e) es)) (sym more)

pub voided_missed : (test : Event → Bool) (vs es : List Event) (i place : ℕ) (v : Event) → i < length vs → v ≡ get_or vs i v → stands v es ≡ false → place ≡ length (until (λ e. stands e (take i vs) || test e) es) → place ≡ length (until (λ e. stands e (take (i + 1) vs) || test e) es)
voided_missed test vs es i place v l is f h =
    let more : take (i + 1) vs ≡ take i vs ++ v ∷ [] = take_more vs i v l ∙ ap (λ y. take i vs ++ y ∷ []) (sym is) in
    let short = until_short (λ e. stands e (take i vs) || test e) es in
    let least : place ≡ min (length (until (λ e. stands e (take i vs) || test e) es)) (length (until (λ e. is_same e v) es)) = (let a = until_absent v es f in omega (arith, a, short, h)) in
    least
    ∙ sym (voided_more test v (take i vs) es)
    ∙ ap (λ l. length (until (λ e. stands e l || test e) es)) (sym more)

-- ---- later than the first of a list

pub later_first : (todo es : List Event) (i : ℕ) (x : Event) → Some x ≡ slice_get todo 0 → i ≤ length es → IsSplit (λ y. not (is_gt (event_cmp y x))) es i → i ≡ length (until (is_after_first todo) es)
unfolding is_after_first
later_first [] es i x h l s = absurd (cc)
later_first (y ∷ ys) es i x h l s =
    let same : x ≡ y = cc in
    sym (until_split (λ e. is_gt (event_cmp e y)) es i l (subst (λ z. IsSplit (λ e. not (is_gt (event_cmp e z))) es i) same s))

pub later_none : (todo es : List Event) → None ≡ slice_get todo 0 → length es ≡ length (until (is_after_first todo) es)
later_none [] es h = sym (until_nothing es)
later_none (y ∷ ys) es h = absurd (cc)

pub length_front : (p : Event → Bool) (es : List Event) (i : ℕ) → i ≤ length es → filter p es ≡ take i es → i ≡ length (filter p es)
length_front p es i l h = sym (ap length h ∙ (let a = length-take {A = Event} i es in omega (arith, a)))

-- ---- the last of two lists

ends_apart : (xs ys : List Event) (x y : Event) → xs ++ x ∷ [] ≡ ys ++ y ∷ [] → (xs ≡ ys) × (x ≡ y)
ends_apart [] [] x y h = (refl, cc)
ends_apart [] (v ∷ vs) x y h = absurd (let n = ap length h in let m = length-append vs (y ∷ []) in omega (arith, n, m))
ends_apart (u ∷ us) [] x y h = absurd (let n = ap length h in let m = length-append us (x ∷ []) in omega (arith, n, m))
ends_apart (u ∷ us) (v ∷ vs) x y h =
    let first : u ≡ v = cc in
    let tails : us ++ x ∷ [] ≡ vs ++ y ∷ [] = cc in
    let rest = ends_apart us vs x y tails in
    (λ i. first i ∷ rest.0 i, rest.1)

pub and_same : (events others front : List Event) (end last : Event) (b : Bool) → events ≡ others ++ end ∷ [] → others ≡ front → b ≡ is_same end last → (IsTrue b → events ≡ front ++ last ∷ []) × (events ≡ front ++ last ∷ [] → IsTrue b)
and_same events others front end last b h same is = (
  λ t. h ∙ (λ i. same i ++ same_is end last (sym is ∙ t) i ∷ []),
  λ e. let ends = ends_apart others front end last (sym h ∙ e) in is ∙ ap (is_same end) (sym ends.1) ∙ same_itself end,
)

pub and_other : (events others front : List Event) (end last : Event) (b : Bool) → events ≡ others ++ end ∷ [] → (others ≡ front → IsTrue b) → b ≡ false → (IsTrue b → events ≡ front ++ last ∷ []) × (events ≡ front ++ last ∷ [] → IsTrue b)
and_other events others front end last b h same none = (
  λ t. absurd (both_ways b none t),
  λ e. same (ends_apart others front end last (sym h ∙ e)).0,
)
