-- A tidy part is determined by what it has done and by its todo less its voids.
use Rattle.std.proofs.Common.{◌≡◌, ◌+◌, ◌<◌, ◌⊎◌, inl, inr, true, false, List, [], ◌∷◌, ◌++◌, refl, sym, ap, ◌∙◌, arith}
use Rattle.std.specs.List.{list_any, AllByRecursion}
use Rattle.std.specs.Ordering.{is_gt}
use Rattle.std.specs.Cmp.{tied_itself}
use Rattle.std.proofs.lemmas.Bool.{both_ways}
use Rattle.dn_model.specs.declared.event.Event.{Event}
use Rattle.dn_model.specs.Order.{event_cmp, event_total}
use Rattle.dn_lists.proofs.Lists.{by_test}
use Rattle.dn_lists.proofs.Sorting.{one_if, count, count_append, turn, equal_from}
use Rattle.dn_model.proofs.EventOrder.{event_same, below_down}
use Rattle.dn_model.proofs.Waves.{IsRising}
use Rattle.dn_world.specs.World.{Part, is_same, stands, with_todo, is_before_last}
use Rattle.dn_world.specs.Runs.{IsTidy}
use Rattle.dn_world.proofs.Parts.{same_itself, stands_all, absent_none, todo_done, count_todo}
use Rattle.dn_world.proofs.Tidy.{neat, tidy, todo_neat}

-- ---- rising lists with the same events

-- what is counted stands in the list
counted_stands : (e : Event) (xs : List Event) → 0 < count (is_same e) xs → stands e xs ≡ true
counted_stands e xs h =
    by_test (stands e xs) (λ g. g) (λ g. let none = absent_none e xs g in absurd (omega (arith, h, none)))

-- the first of a rising list is no greater than what stands in it
first_least : (x e : Event) (xs : List Event) → IsRising (x ∷ xs) → stands e (x ∷ xs) ≡ true → is_gt (event_cmp x e) ≡ false
first_least x e xs r h = stands_all (λ y. is_gt (event_cmp x y) ≡ false) e (x ∷ xs) h (ap is_gt (tied_itself event_total x), r.0)

pub rising_same : (xs ys : List Event) → IsRising xs → IsRising ys → ((e : Event) → count (is_same e) xs ≡ count (is_same e) ys) → xs ≡ ys
rising_same [] [] r s c = refl
rising_same [] (y ∷ ys) r s c = let h = c y in let one : one_if (is_same y y) ≡ 1 = ap one_if (same_itself y) in absurd (omega (arith, h, one))
rising_same (x ∷ xs) [] r s c = let h = c x in let one : one_if (is_same x x) ≡ 1 = ap one_if (same_itself x) in absurd (omega (arith, h, one))
rising_same (x ∷ xs) (y ∷ ys) r s c =
    let at_x = c x in
    let at_y = c y in
    let one_x : one_if (is_same x x) ≡ 1 = ap one_if (same_itself x) in
    let one_y : one_if (is_same y y) ≡ 1 = ap one_if (same_itself y) in
    let a = first_least y x ys s (counted_stands x (y ∷ ys) (omega (arith, at_x, one_x))) in
    let b = first_least x y xs r (counted_stands y (x ∷ xs) (omega (arith, at_y, one_y))) in
    let same : x ≡ y = event_same x y (equal_from (event_cmp x y) b (sym (turn event_cmp event_total x y) ∙ a)) in
    let rest : xs ≡ ys = rising_same xs ys r.1 s.1 (λ e. let h = c e in let k : one_if (is_same e x) ≡ one_if (is_same e y) = ap (λ z. one_if (is_same e z)) same in omega (arith, h, k)) in
    λ i. same i ∷ rest i

-- ---- tidy parts

-- an event stands in one of the two lists at most
one_of : (e : Event) (p : Part) → IsTidy p → (count (is_same e) p.todo ≡ 0) ⊎ (count (is_same e) p.voids ≡ 0)
one_of e p t =
    by_test (stands e p.voids)
    (λ g. inl (absent_none e p.todo (stands_all (λ v. stands v p.todo ≡ false) e p.voids g t.apart)))
    (λ g. inr (absent_none e p.voids g))

-- the two parts have as much to do, less what is to be taken out
abbrev pub AreEven : Part → Part → Type 0
AreEven p q = (e : Event) → count (is_same e) p.todo + count (is_same e) q.voids ≡ count (is_same e) q.todo + count (is_same e) p.voids

pub tidy_same : (p q : Part) → IsTidy p → IsTidy q → p.done ≡ q.done → AreEven p q → p ≡ q
tidy_same p q s t done even =
    let both : (e : Event) → (count (is_same e) p.todo ≡ count (is_same e) q.todo) × (count (is_same e) p.voids ≡ count (is_same e) q.voids) =
    λ e.
    elim (one_of e p s) [
      | inl a ↦ elim (one_of e q t) [
        | inl b ↦ (omega (arith, a, b), let h = even e in omega (arith, h, a, b))
        | inr b ↦ (let h = even e in omega (arith, h, a, b), let h = even e in omega (arith, h, a, b))
      ]
      | inr a ↦ elim (one_of e q t) [
        | inl b ↦ (let h = even e in omega (arith, h, a, b), let h = even e in omega (arith, h, a, b))
        | inr b ↦ (let h = even e in omega (arith, h, a, b), omega (arith, a, b))
      ]
    ] in
    let todo : p.todo ≡ q.todo = rising_same p.todo q.todo (neat p s).0 (neat q t).0 (λ e. (both e).0) in
    let voids : p.voids ≡ q.voids = rising_same p.voids q.voids (neat p s).1 (neat q t).1 (λ e. (both e).1) in
    λ i. record { done = done i; todo = todo i; voids = voids i }

-- events that come together have come one after another
pub todo_append : (es fs : List Event) (p : Part) → IsTidy p → with_todo (es ++ fs) p ≡ with_todo es (with_todo fs p)
todo_append es fs p t =
    let n = neat p t in
    let m = todo_neat fs p n.1 in
    tidy_same (with_todo (es ++ fs) p) (with_todo es (with_todo fs p))
    (tidy (with_todo (es ++ fs) p) (todo_neat (es ++ fs) p n.1))
    (tidy (with_todo es (with_todo fs p)) (todo_neat es (with_todo fs p) m.1))
    (todo_done (es ++ fs) p ∙ sym (todo_done es (with_todo fs p) ∙ todo_done fs p))
    (λ e.
    let a = count_todo (is_same e) (es ++ fs) p in
    let b = count_todo (is_same e) es (with_todo fs p) in
    let c = count_todo (is_same e) fs p in
    let d = count_append (is_same e) es fs in
    omega (arith, a, b, c, d))

-- ---- behind

before_last_down : (done : List Event) (x y : Event) → is_gt (event_cmp x y) ≡ false → is_before_last done y ≡ true → is_before_last done x ≡ true
unfolding is_before_last
before_last_down [] x y r h = h
before_last_down (d ∷ []) x y r h = below_down event_cmp event_total x y d r h
before_last_down (d ∷ f ∷ fs) x y r h = before_last_down (f ∷ fs) x y r h

-- in a rising todo the first event tells
pub behind_by_first : (done : List Event) (x : Event) (xs : List Event) → IsRising (x ∷ xs) → list_any (is_before_last done) (x ∷ xs) ≡ is_before_last done x
behind_by_first done x xs r =
    by_test (is_before_last done x) (λ g. simp g) (λ g. simp g (none xs r.0 g))
  where
    none : (ys : List Event) → AllByRecursion (λ y. is_gt (event_cmp x y) ≡ false) ys → is_before_last done x ≡ false → list_any (is_before_last done) ys ≡ false
    none [] a g = refl
    none (y ∷ ys) a g =
        let away : is_before_last done y ≡ false = by_test (is_before_last done y) (λ h. absurd (both_ways (is_before_last done x) g (before_last_down done x y a.0 h))) (λ h. h) in
        simp away (none ys a.1 g)
