-- Events of earlier groups stand before those of later ones.
use Rattle.std.proofs.Common.{◌≡◌, ℕ, zero, suc, ◌+◌, ◌<◌, ◌≤◌, Bool, true, false, List, [], ◌∷◌, ◌++◌, refl, sym, ap, subst, arith}
use Rattle.std.specs.List.{AllByRecursion}
use Rattle.std.specs.List.Sorted.{IsPermutation}
use Rattle.std.specs.Prelude.{nat_lt}
use Rattle.std.proofs.lemmas.Bool.{false≢true, ltb-true, lt-ltb}
use Rattle.std.proofs.lemmas.List.Sorted.{IsPermutation-append_left}
use Rattle.std.specs.Ordering.{is_gt, ordering_then, nat_cmp, MatchOrdering}
use Rattle.std.specs.declared.cmp.Ordering.{Ordering}
use Rattle.std.specs.declared.cmp.Ordering.TheVariants.{Less, Equal, Greater}
use Rattle.std.specs.Cmp.{ranked, tied_itself}
use Rattle.dn_model.specs.declared.event.Event.{Event}
use Rattle.dn_model.specs.Order.{event_cmp, event_total}
use Rattle.dn_model.specs.Network.{tick}
use Rattle.dn_lists.proofs.Lists.{by_test, all_weaker, all_append}
use Rattle.dn_lists.proofs.Sorting.{count, count_is_sum, count_append, count_permutation}
use Rattle.dn_lockstep.specs.Least.{IsUpTo, IsLeast}
use Rattle.dn_lockstep.specs.Agendas.{group_ticks, later_ticks, count_before}

-- ---- the order by the groups

first_rises : (g h : ℕ) (rest : Ordering) → is_gt (ordering_then (nat_cmp g h) rest) ≡ false → g ≤ h
first_rises g h rest e = cases (nat_cmp g h) (ranked g h (nat_cmp g h) refl) e
  where
    cases : (r : Ordering) → MatchOrdering r (g < h) (g ≡ h) (h < g) → is_gt (ordering_then r rest) ≡ false → g ≤ h
    cases Less m e = omega arith
    cases Equal m e = omega arith
    cases Greater m e = absurd (false≢true (sym e))

first_less : (g h : ℕ) (rest : Ordering) → g < h → is_gt (ordering_then (nat_cmp g h) rest) ≡ false
first_less g h rest l = cases (nat_cmp g h) (ranked g h (nat_cmp g h) refl)
  where
    cases : (r : Ordering) → MatchOrdering r (g < h) (g ≡ h) (h < g) → is_gt (ordering_then r rest) ≡ false
    cases Less m = refl
    cases Equal m = absurd (omega arith)
    cases Greater m = absurd (omega arith)

pub groups_rise : (x y : Event) → is_gt (event_cmp x y) ≡ false → x.key.group ≤ y.key.group
unfolding event_cmp
groups_rise x y h = first_rises x.key.group y.key.group _ h

pub earlier_group : (x y : Event) → x.key.group < y.key.group → is_gt (event_cmp x y) ≡ false
unfolding event_cmp
earlier_group x y h = first_less x.key.group y.key.group _ h

-- ---- ticks by their groups

group_ticks_of : (group n : ℕ) → AllByRecursion (λ e. e.key.group ≡ group) (group_ticks group n)
unfolding group_ticks
group_ticks_of group zero = tt
group_ticks_of group (suc n) = all_append (λ e. e.key.group ≡ group) (group_ticks group n) (tick group n ∷ []) (group_ticks_of group n) (refl, tt)

later_ticks_from : (group left n : ℕ) → AllByRecursion (λ e. group ≤ e.key.group) (later_ticks group left n)
unfolding later_ticks
later_ticks_from group zero n = tt
later_ticks_from group (suc left) n =
    all_append (λ e. group ≤ e.key.group) (group_ticks group n) (later_ticks (suc group) left n)
    (all_weaker (λ e. e.key.group ≡ group) (λ e. group ≤ e.key.group) (group_ticks group n) (λ e h. omega (arith, h)) (group_ticks_of group n))
    (all_weaker (λ e. suc group ≤ e.key.group) (λ e. group ≤ e.key.group) (later_ticks (suc group) left n) (λ e h. omega (arith, h)) (later_ticks_from (suc group) left n))

pub ticks_none : (group n : ℕ) → later_ticks group 0 n ≡ []
unfolding later_ticks
ticks_none group n = refl

-- ---- the first of a queue, where an event of an earlier group is in it

pub before_of : (group : ℕ) (xs : List Event) → count (λ e. nat_lt e.key.group group) xs ≡ count_before group xs
before_of group xs = count_is_sum (λ e. nat_lt e.key.group group) xs

in_begun : (e : Event) (group : ℕ) (xs : List Event) → IsUpTo e xs → 0 < count (λ w. nat_lt w.key.group group) xs → e.key.group < group
in_begun e group [] u l = absurd (omega arith)
in_begun e group (x ∷ xs) u l =
    by_test (nat_lt x.key.group group)
    (λ h. let le = groups_rise e x u.0 in let lt = ltb-true x.key.group group h in omega (arith, le, lt))
    (λ h. in_begun e group xs u.1 (let z : count (λ w. nat_lt w.key.group group) (x ∷ xs) ≡ count (λ w. nat_lt w.key.group group) xs = simp h (omega arith) in omega (arith, z, l)))

pub up_to_itself : (e : Event) → is_gt (event_cmp e e) ≡ false
up_to_itself e = ap is_gt (tied_itself event_total e)

pub first_begun : (e : Event) (group : ℕ) (old rest : List Event) → IsPermutation old (e ∷ rest) → IsUpTo e rest → 0 < count_before group old → e.key.group < group
first_begun e group old rest moves first l =
    let p : Event → Bool = λ w. nat_lt w.key.group group in
    let a = before_of group old in
    let b = count_permutation p old (e ∷ rest) moves in
    in_begun e group (e ∷ rest) (up_to_itself e, first) (omega (arith, a, b, l))

-- the least of the queue is up to the ticks of the later groups too
pub up_to_all : (e : Event) (group left n : ℕ) (old rest : List Event) → IsPermutation old (e ∷ rest) → IsUpTo e rest → (0 < left → 0 < count_before group old) → IsUpTo e (rest ++ later_ticks group left n)
up_to_all e group zero n old rest moves first fronted =
    all_append (λ w. is_gt (event_cmp e w) ≡ false) rest (later_ticks group 0 n) first
    (subst (IsUpTo e) (sym (ticks_none group n)) tt)
up_to_all e group (suc left) n old rest moves first fronted =
    let l = first_begun e group old rest moves first (fronted (omega arith)) in
    all_append (λ w. is_gt (event_cmp e w) ≡ false) rest (later_ticks group (suc left) n) first
    (all_weaker (λ w. group ≤ w.key.group) (λ w. is_gt (event_cmp e w) ≡ false) (later_ticks group (suc left) n) (λ w h. earlier_group e w (omega (arith, l, h))) (later_ticks_from group (suc left) n))

pub least_of_all : (e : Event) (group left n : ℕ) (queue : List Event) → IsLeast e queue → (0 < left → 0 < count_before group queue) → IsLeast e (queue ++ later_ticks group left n)
least_of_all e group left n queue least fronted = record {
  rest = least.rest ++ later_ticks group left n;
  among = IsPermutation-append_left (later_ticks group left n) queue (e ∷ least.rest) least.among;
  first = up_to_all e group left n queue least.rest least.among least.first fronted;
}

-- with no event in the queue nothing waits
pub nothing_waits : (group left n : ℕ) (queue : List Event) → queue ≡ [] → (0 < left → 0 < count_before group queue) → queue ++ later_ticks group left n ≡ []
nothing_waits group zero n queue none fronted = (λ i. none i ++ ticks_none group n i)
nothing_waits group (suc left) n queue none fronted =
    let a = before_of group queue in
    let b : count (λ w. nat_lt w.key.group group) queue ≡ 0 = ap (count (λ w. nat_lt w.key.group group)) none in
    absurd (omega (arith, a, b, fronted (omega arith)))

pub none_queued : (group left n : ℕ) (queue : List Event) → queue ++ later_ticks group left n ≡ [] → queue ≡ []
none_queued group left n [] none = refl
none_queued group left n (x ∷ xs) none = absurd cc

-- the least of a queue is in it
pub begun_by : (e : Event) (group : ℕ) (queue : List Event) → IsLeast e queue → nat_lt e.key.group group ≡ true → 0 < count_before group queue
begun_by e group queue least h =
    let p : Event → Bool = λ w. nat_lt w.key.group group in
    let a = before_of group queue in
    let b = count_permutation p queue (e ∷ least.rest) least.among in
    let c : count p (e ∷ least.rest) ≡ 1 + count p least.rest = simp h refl in
    omega (arith, a, b, c)

-- once the ticks of a group are in the queue, an event of a group that has begun is
pub begun_with_ticks : (group n : ℕ) (old queue : List Event) → 0 < n → IsPermutation (old ++ group_ticks group n) queue → 0 < count_before (group + 1) queue
unfolding group_ticks
begun_with_ticks group zero old queue l moves = absurd (omega arith)
begun_with_ticks group (suc n) old queue l moves =
    let p : Event → Bool = λ w. nat_lt w.key.group (group + 1) in
    let a = before_of (group + 1) queue in
    let b = count_permutation p (old ++ (group_ticks group n ++ tick group n ∷ [])) queue moves in
    let c = count_append p old (group_ticks group n ++ tick group n ∷ []) in
    let d = count_append p (group_ticks group n) (tick group n ∷ []) in
    let h : nat_lt group (group + 1) ≡ true = lt-ltb group (group + 1) (omega arith) in
    let e : count p (tick group n ∷ []) ≡ 1 = simp h refl in
    omega (arith, a, b, c, d, e)
