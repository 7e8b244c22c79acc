-- The set and the further events.
use Rattle.std.proofs.Common.{◌≡◌, ◌+◌, ◌<◌, Bool, true, false, Bor, List, [], ◌∷◌, ◌++◌, drop, length, refl, sym, ap, ◌∙◌, subst, arith, map}
use Rattle.std.specs.Prelude.{Option, Some, None, IsSome, IfSome, ◌↔◌, option_copied, slice_get}
use Rattle.std.specs.FinMap.{IsAntisymmetric}
use Rattle.std.specs.List.{AllByRecursion}
use Rattle.std.specs.List.Sorted.{IsStrictlySortedBy, IsSorted, IsPermutation}
use Rattle.std.specs.Set.{remove_key}
use Rattle.std.specs.BTreeMap.{is_at}
use Rattle.std.specs.BTreeSet.{insert_key}
use Rattle.std.specs.Ordering.{is_gt, is_lt, ordering_reverse}
use Rattle.std.specs.Cmp.{tied_itself}
use Rattle.std.specs.declared.cmp.Ordering.TheVariants.{Less}
use Rattle.std.proofs.lemmas.Bool.{both_ways, false≢true}
use Rattle.std.proofs.lemmas.Map.Keys.{sorted_head}
use Rattle.dn_lists.specs.InOrder.{put_in_order}
use Rattle.dn_lists.proofs.Lists.{by_test, all_weaker, all_append}
use Rattle.dn_lists.proofs.Sorting.{one_if, count, count_append, count_permutation, all_put, Rises, rises_same, rises_from_sorted}
use Rattle.dn_model.specs.declared.event.Event.{Event}
use Rattle.dn_model.specs.declared.key.Key.{Key}
use Rattle.dn_model.specs.Order.{key_cmp, key_total, event_cmp, event_total, sorted}
use Rattle.dn_model.proofs.EventOrder.{keys_rise}
use Rattle.dn_model.proofs.Waves.{IsRising}
use Rattle.dn_world.proofs.Uses.{key_same as key_one}
use Rattle.dn_world.specs.World.{is_same, stands, without}
use Rattle.dn_world.proofs.Parts.{same_is, same_itself, stands_all, absent_none, count_without, without_none, all_without}
use Rattle.dn_queue.specs.Todos.{all_todo, IsFronted}
use Rattle.dn_queue.proofs.Counts.{sorted_same, count_put, count_insert, absent_parts, stands_same, stands_sorted, stands_counted, sorted_without, front_least, counted_stands, count_sorted, sorted_rises}

-- ---- one event more

pub one_again : (e : Event) (first again : List Event) → all_todo first (put_in_order event_cmp e again) ≡ put_in_order event_cmp e (all_todo first again)
unfolding sorted
one_again e first again =
    sorted_same (first ++ put_in_order event_cmp e again) (e ∷ (first ++ again))
    (λ p.
    let a = count_append p first (put_in_order event_cmp e again) in
    let b = count_put p e again in
    let c = count_append p first again in
    omega (arith, a, b, c))

pub one_new : (e : Event) (first again : List Event) → stands e first ≡ false → all_todo (insert_key event_cmp first e) again ≡ put_in_order event_cmp e (all_todo first again)
unfolding sorted
one_new e first again h =
    sorted_same (insert_key event_cmp first e ++ again) (e ∷ (first ++ again))
    (λ p.
    let a = count_append p (insert_key event_cmp first e) again in
    let b = count_insert p e first h in
    let c = count_append p first again in
    omega (arith, a, b, c))

pub fronted_again : (e : Event) (first again : List Event) → stands e first ≡ true → IsFronted first again → IsFronted first (put_in_order event_cmp e again)
fronted_again e first again h f = record { ascending = f.ascending; there = all_put event_cmp (λ x. stands x first ≡ true) e again h f.there }

-- what stood in the set stands there still
stands_insert : (e x : Event) (first : List Event) → stands e first ≡ false → stands x first ≡ true → stands x (insert_key event_cmp first e) ≡ true
stands_insert e x first h k =
    let a = count_insert (is_same x) e first h in
    let b = stands_counted x first k in
    counted_stands x (insert_key event_cmp first e) (omega (arith, a, b))

pub fronted_new : (e : Event) (first again : List Event) → stands e first ≡ false → IsFronted first again → IsStrictlySortedBy event_cmp (insert_key event_cmp first e) → IsFronted (insert_key event_cmp first e) again
fronted_new e first again h f up = record {
  ascending = up;
  there = all_weaker (λ x. stands x first ≡ true) (λ x. stands x (insert_key event_cmp first e) ≡ true) again (λ x k. stands_insert e x first h k) f.there;
}

-- ---- one event less

stands_left : (e : Event) (xs ys : List Event) → stands e xs ≡ true → stands e (xs ++ ys) ≡ true
stands_left e xs ys h =
    let a = stands_counted e xs h in
    let b = count_append (is_same e) xs ys in
    counted_stands e (xs ++ ys) (omega (arith, a, b))

stands_right : (e : Event) (xs ys : List Event) → stands e ys ≡ true → stands e (xs ++ ys) ≡ true
stands_right e xs ys h =
    let a = stands_counted e ys h in
    let b = count_append (is_same e) xs ys in
    counted_stands e (xs ++ ys) (omega (arith, a, b))

pub again_stands : (e : Event) (first again : List Event) → stands e again ≡ true → stands e (all_todo first again) ≡ true
again_stands e first again h = stands_sorted e (first ++ again) ∙ stands_right e first again h

pub again_less : (e : Event) (first again : List Event) → stands e again ≡ true → all_todo first (without e again) ≡ without e (all_todo first again)
again_less e first again h =
    sorted_without e (first ++ again) (first ++ without e again) (stands_right e first again h)
    (λ p.
    let a = count_append p first (without e again) in
    let b = count_without p e again h in
    let c = count_append p first again in
    omega (arith, a, b, c))

pub fronted_again_less : (e : Event) (first again : List Event) → IsFronted first again → IsFronted first (without e again)
fronted_again_less e first again f = record { ascending = f.ascending; there = all_without (λ x. stands x first ≡ true) e again f.there }

pub first_stands : (e : Event) (first again : List Event) → stands e again ≡ false → stands e first ≡ stands e (all_todo first again)
first_stands e first again h =
    let a = count_append (is_same e) first again in
    let b = absent_none e again h in
    let c : count (is_same e) (first ++ again) ≡ count (is_same e) first = omega (arith, a, b) in
    sym (stands_sorted e (first ++ again) ∙ stands_same e (first ++ again) first c)

pub first_less : (e : Event) (first again : List Event) → stands e again ≡ false → all_todo (without e first) again ≡ without e (all_todo first again)
first_less e first again h =
    by_test (stands e first)
    (λ g.
    sorted_without e (first ++ again) (without e first ++ again) (stands_left e first again g)
    (λ p.
    let a = count_append p (without e first) again in
    let b = count_without p e first g in
    let c = count_append p first again in
    omega (arith, a, b, c)))
    (λ g.
    ap (λ l. all_todo l again) (without_none e first g)
    ∙ sym (without_none e (all_todo first again) (sym (first_stands e first again h) ∙ g)))

pub remove_is : (e : Event) (xs : List Event) → remove_key (is_at (event_cmp e)) xs ≡ without e xs
unfolding without
remove_is e [] = refl
remove_is e (x ∷ xs) = by_test (is_same e x) (λ g. simp g) (λ g. simp g (ap (λ l. x ∷ l) (remove_is e xs)))

differs : (e x : Event) → is_same e x ≡ false → is_same x e ≡ false
differs e x h =
    by_test (is_same x e)
    (λ g. let same : x ≡ e = same_is x e g in absurd (both_ways (is_same e x) h (ap (is_same e) same ∙ same_itself e)))
    (λ g. g)

-- another event stands there still
stands_still : (e x : Event) (xs : List Event) → is_same e x ≡ false → stands x xs ≡ true → stands x (without e xs) ≡ true
stands_still e x xs h k =
    by_test (stands e xs)
    (λ g.
    let a = count_without (is_same x) e xs g in
    let b = stands_counted x xs k in
    let c : one_if (is_same x e) ≡ 0 = ap one_if (differs e x h) in
    counted_stands x (without e xs) (omega (arith, a, b, c)))
    (λ g. ap (stands x) (without_none e xs g) ∙ k)

there_still : (e : Event) (first again : List Event) → stands e again ≡ false → AllByRecursion (λ x. stands x first ≡ true) again → AllByRecursion (λ x. stands x (without e first) ≡ true) again
there_still e first [] h a = tt
there_still e first (x ∷ xs) h a =
    let k = absent_parts e x xs h in (stands_still e x first k.0 a.0, there_still e first xs k.1 a.1)

pub fronted_less : (e : Event) (first again : List Event) → stands e again ≡ false → IsFronted first again → IsStrictlySortedBy event_cmp (without e first) → IsFronted (without e first) again
fronted_less e first again h f up = record { ascending = up; there = there_still e first again h f.there }

-- ---- the least

pub least_is : (k : Event) (ks again : List Event) → IsFronted (k ∷ ks) again → all_todo (k ∷ ks) again ≡ k ∷ sorted (ks ++ again)
least_is k ks again f =
    let up = sorted_head event_cmp k ks f.ascending in
    let later = all_weaker (λ y. event_cmp k y ≡ Less) (λ y. is_gt (event_cmp k y) ≡ false) ks (λ y h. ap is_gt h) up in
    let itself : is_gt (event_cmp k k) ≡ false = ap is_gt (tied_itself event_total k) in
    let more = all_weaker (λ x. stands x (k ∷ ks) ≡ true) (λ x. is_gt (event_cmp k x) ≡ false) again (λ x h. stands_all (λ y. is_gt (event_cmp k y) ≡ false) x (k ∷ ks) h (itself, later)) f.there in
    front_least k (ks ++ again) (all_append (λ y. is_gt (event_cmp k y) ≡ false) ks again later more)

nothing_stands : (x : Event) → stands x [] ≡ true → ⊥
unfolding stands
nothing_stands x h = false≢true h

pub none_todo : (again : List Event) → IsFronted [] again → all_todo [] again ≡ []
unfolding sorted
none_todo [] f = refl
none_todo (x ∷ xs) f = absurd (nothing_stands x f.there.0)

-- one of several equal events is taken
pub least_again : (k : Event) (ks again : List Event) → IsFronted (k ∷ ks) again → stands k again ≡ true → all_todo (k ∷ ks) (without k again) ≡ drop 1 (all_todo (k ∷ ks) again)
least_again k ks again f h =
    sorted_same ((k ∷ ks) ++ without k again) (ks ++ again)
    (λ p.
    let a = count_append p ks (without k again) in
    let b = count_without p k again h in
    let c = count_append p ks again in
    omega (arith, a, b, c))
    ∙ sym (ap (drop 1) (least_is k ks again f))

pub least_first : (k : Event) (ks again : List Event) → IsFronted (k ∷ ks) again → all_todo ks again ≡ drop 1 (all_todo (k ∷ ks) again)
least_first k ks again f = sym (ap (drop 1) (least_is k ks again f))

without_first : (k : Event) (ks : List Event) → without k (k ∷ ks) ≡ ks
unfolding without
without_first k ks = let g = same_itself k in simp g

pub fronted_first : (k : Event) (ks again : List Event) → IsFronted (k ∷ ks) again → stands k again ≡ false → IsStrictlySortedBy event_cmp ks → IsFronted ks again
fronted_first k ks again f h up = record {
  ascending = up;
  there = subst (λ l. AllByRecursion (λ x. stands x l ≡ true) again) (without_first k ks) (there_still k (k ∷ ks) again h f.there);
}

-- ---- what code reads

pub least_read : (first again : List Event) (r : Option (Bor Event)) → IsFronted first again → (IsSome r ↔ (0 < length first)) → IfSome r (λ k. slice_get first 0 ≡ Some k.now) → option_copied r ≡ slice_get (all_todo first again) 0
least_read [] again None f v i = ap (λ l. slice_get l 0) (sym (none_todo again f))
least_read [] again (Some x) f v i = absurd (cc)
least_read (k ∷ ks) again None f v i = absurd (false≢true (v.1 (omega arith)))
least_read (k ∷ ks) again (Some x) f v i = sym i ∙ ap (λ l. slice_get l 0) (sym (least_is k ks again f))

pub first_is : (first : List Event) (k : Event) → slice_get first 0 ≡ Some k → first ≡ k ∷ drop 1 first
first_is [] k h = absurd (cc)
first_is (x ∷ xs) k h = let same : x ≡ k = cc in ap (λ z. z ∷ xs) same

-- a key list in order is that of the sorted events
key_same : IsAntisymmetric key_cmp
key_same x y h = key_one x y (ap is_lt (key_total.antisymm y x ∙ ap ordering_reverse h)) (ap is_lt h)

count_keys : (p : Key → Bool) (es : List Event) → count p (map (λ e. e.key) es) ≡ count (λ e. p e.key) es
count_keys p [] = refl
count_keys p (e ∷ es) = ap (λ n. one_if (p e.key) + n) (count_keys p es)

all_keys : (P : Key → Type 0) (es : List Event) → AllByRecursion (λ e. P e.key) es → AllByRecursion P (map (λ e. e.key) es)
all_keys P [] a = tt
all_keys P (e ∷ es) a = (a.0, all_keys P es a.1)

keys_rising : (es : List Event) → IsRising es → Rises key_cmp (map (λ e. e.key) es)
keys_rising [] r = tt
keys_rising (e ∷ es) r =
    (all_keys (λ k. is_gt (key_cmp e.key k) ≡ false) es (all_weaker (λ y. is_gt (event_cmp e y) ≡ false) (λ y. is_gt (key_cmp e.key y.key) ≡ false) es (λ y h. keys_rise e y h) r.0), keys_rising es r.1)

pub keys_are : (first again : List Event) (keys sorted_keys : List Key) → keys ≡ map (λ e. e.key) first ++ map (λ e. e.key) again → IsPermutation keys sorted_keys → IsSorted key_cmp sorted_keys → sorted_keys ≡ map (λ e. e.key) (all_todo first again)
keys_are first again keys sorted_keys is p s =
    rises_same key_cmp key_total key_same sorted_keys (map (λ e. e.key) (all_todo first again))
    (rises_from_sorted key_cmp key_total sorted_keys s)
    (keys_rising (all_todo first again) (sorted_rises (first ++ again)))
    (λ q.
    let a = count_permutation q keys sorted_keys p in
    let b = ap (count q) is in
    let c = count_append q (map (λ e. e.key) first) (map (λ e. e.key) again) in
    let d = count_keys q first in
    let e = count_keys q again in
    let f = count_keys q (all_todo first again) in
    let g = count_sorted (λ x. q x.key) (first ++ again) in
    let h = count_append (λ x. q x.key) first again in
    omega (arith, a, b, c, d, e, f, g, h))

pub nothing_first : (first again : List Event) → IsFronted first again → (0 < length first → false ≡ true) → all_todo first again ≡ []
nothing_first [] again f h = none_todo again f
nothing_first (k ∷ ks) again f h = absurd (false≢true (h (omega arith)))

-- the set after its first is taken
pub popped : (first rest : List Event) (k : Event) (r : Option Event) → slice_get first 0 ≡ Some k → (IsSome r ↔ (0 < length first)) → IfSome r (λ x. first ≡ x ∷ rest) → (r ≡ Some k) × (first ≡ k ∷ rest)
popped [] rest k r g v i = absurd (cc)
popped (x ∷ xs) rest k None g v i = absurd (false≢true (v.1 (omega arith)))
popped (x ∷ xs) rest k (Some y) g v i =
    let same : x ≡ k = cc in
    let other : x ≡ y = cc in
    let tail : xs ≡ rest = cc in
    (ap Some (sym other ∙ same), λ j. same j ∷ tail j)
