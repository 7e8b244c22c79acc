-- How many unsends of handled events wait, and whether a router is behind.
use Rattle.std.proofs.Common.{◌≡◌, ℕ, ◌+◌, ◌<◌, ◌≤◌, ◌⊎◌, inl, inr, Bool, true, false, not, ◌&&◌, ◌||◌, List, [], ◌∷◌, length, refl, sym, ap, ◌∙◌, subst, arith}
use Rattle.std.specs.Prelude.{Option, Some, None, nat_lt, is_some, slice_get, option_copied}
use Rattle.std.proofs.Common.{Bor}
use Rattle.std.specs.List.{list_any}
use Rattle.std.specs.List.Sorted.{IsSorted}
use Rattle.std.proofs.lemmas.Bool.{false≢true, lt-ltb, le-ltb}
use Rattle.dn_lists.specs.InOrder.{put_in_order}
use Rattle.dn_lists.proofs.Lists.{by_test}
use Rattle.dn_lists.proofs.Sorting.{one_if, count, rises_from_sorted}
use Rattle.dn_model.specs.declared.event.Event.{Event}
use Rattle.dn_model.specs.Order.{event_cmp, event_total}
use Rattle.dn_world.specs.World.{Part, stands, without, is_before_last, is_behind, is_ready, is_empty}
use Rattle.dn_world.specs.Steps.{arrived}
use Rattle.dn_world.specs.Runs.{IsTidy}
use Rattle.dn_world.proofs.Parts.{count_without}
use Rattle.dn_world.proofs.Tidy.{todo_cancels, todo_stays, void_cancels_one, void_stays}
use Rattle.dn_world.proofs.Canonical.{behind_by_first}
use Rattle.dn_queue.proofs.Counts.{count_put}
use Rattle.dn_router.specs.Sound.{marked_in, recounted}

-- ---- the count after an arrival

count_short : (p : Event → Bool) (es : List Event) → count p es ≤ length es
count_short p [] = omega arith
count_short p (e ∷ es) = let ih = count_short p es in by_test (p e) (λ g. simp g (omega (arith, ih))) (λ g. simp g (omega (arith, ih)))

all_count : (es : List Event) → count (λ e. true) es ≡ length es
all_count [] = refl
all_count (e ∷ es) = let ih = all_count es in omega (arith, ih)

-- what becomes of voids: it stays, one goes, or one comes
pub record Change (e : Event) (before after : List Event) : Type 0 where
  pub how : (after ≡ before) ⊎ (((stands e before ≡ true) × (after ≡ without e before)) ⊎ (after ≡ put_in_order event_cmp e before))

pub voids_change : (plus : Bool) (e : Event) (p : Part) → IsTidy p → Change e p.voids (arrived (record { plus = plus; event = e }) p).voids
unfolding arrived
voids_change true e p t =
    by_test (stands e p.voids)
    (λ g. record { how = inr (inl (g, ap (λ q. q.voids) (todo_cancels e p t g))) })
    (λ g. record { how = inl (ap (λ q. q.voids) (todo_stays e p t g)) })
voids_change false e p t =
    by_test (stands e p.todo)
    (λ g. record { how = inl (ap (λ q. q.voids) (void_cancels_one e p t g)) })
    (λ g. record { how = inr (inr (ap (λ q. q.voids) (void_stays e p t g))) })

-- the count and the length afterwards
pub record Counts (handled : Bool) (marked before marked_after after : ℕ) : Type 0 where
  pub some : handled ≡ true → after < before → 0 < marked
  pub room : handled ≡ true → before < after → marked < after
  pub is : recounted marked handled before after ≡ marked_after

stays_counted : (h : Bool) (m b : ℕ) → recounted m h b b ≡ m
stays_counted h m b =
    let g : nat_lt b b ≡ false = le-ltb b b (omega arith) in by_test h (λ k. simp (k, g)) (λ k. simp (k, g))

goes_counted : (h : Bool) (m b n a : ℕ) → one_if h + n ≡ m → 1 + a ≡ b → recounted m h b a ≡ n
goes_counted h m b n a e l =
    let g : nat_lt b a ≡ false = le-ltb b a (omega (arith, l)) in
    let k : nat_lt a b ≡ true = lt-ltb a b (omega (arith, l)) in
    by_test h
    (λ t. let one : one_if h ≡ 1 = ap one_if t in simp (t, g, k) (omega (arith, e, one)))
    (λ t. let none : one_if h ≡ 0 = ap one_if t in simp (t, g, k) (omega (arith, e, none)))

comes_counted : (h : Bool) (m b n a : ℕ) → n ≡ one_if h + m → a ≡ 1 + b → recounted m h b a ≡ n
comes_counted h m b n a e l =
    let g : nat_lt b a ≡ true = lt-ltb b a (omega (arith, l)) in
    let k : nat_lt a b ≡ false = le-ltb a b (omega (arith, l)) in
    by_test h
    (λ t. let one : one_if h ≡ 1 = ap one_if t in simp (t, g, k) (omega (arith, e, one)))
    (λ t. let none : one_if h ≡ 0 = ap one_if t in simp (t, g, k) (omega (arith, e, none)))

pub counted : (e : Event) (done before after : List Event) → Change e before after → Counts (stands e done) (marked_in done before) (length before) (marked_in done after) (length after)
counted e done before after c = by_how c.how
  where
    h : Bool
    h = stands e done

    by_how : (after ≡ before) ⊎ (((stands e before ≡ true) × (after ≡ without e before)) ⊎ (after ≡ put_in_order event_cmp e before)) → Counts (stands e done) (marked_in done before) (length before) (marked_in done after) (length after)
    by_how (inl same) =
        let l = ap length same in
        let m = ap (marked_in done) same in
        record {
          some = λ t less. absurd (omega (arith, l, less));
          room = λ t less. absurd (omega (arith, l, less));
          is = ap (recounted (marked_in done before) (stands e done) (length before)) l ∙ stays_counted (stands e done) (marked_in done before) (length before) ∙ sym m;
        }
    by_how (inr (inl gone)) =
        let one = count_without (λ v. stands v done) e before gone.0 in
        let all = count_without (λ v. true) e before gone.0 in
        let lb = all_count before in
        let la = all_count (without e before) in
        let l : length after ≡ length (without e before) = ap length gone.1 in
        let m : marked_in done after ≡ count (λ v. stands v done) (without e before) = ap (marked_in done) gone.1 in
        record {
          some = λ t less. (let i : one_if (stands e done) ≡ 1 = ap one_if t in omega (arith, one, i));
          room = λ t more. absurd (omega (arith, all, lb, la, l, more));
          is = goes_counted (stands e done) (marked_in done before) (length before) (marked_in done after) (length after) (omega (arith, one, m)) (omega (arith, all, lb, la, l));
        }
    by_how (inr (inr put)) =
        let one = count_put (λ v. stands v done) e before in
        let all = count_put (λ v. true) e before in
        let lb = all_count before in
        let la = all_count (put_in_order event_cmp e before) in
        let short = count_short (λ v. stands v done) before in
        let l : length after ≡ length (put_in_order event_cmp e before) = ap length put in
        let m : marked_in done after ≡ count (λ v. stands v done) (put_in_order event_cmp e before) = ap (marked_in done) put in
        record {
          some = λ t less. absurd (omega (arith, all, lb, la, l, less));
          room = λ t more. omega (arith, all, lb, la, l, short);
          is = comes_counted (stands e done) (marked_in done before) (length before) (marked_in done after) (length after) (omega (arith, one, m)) (omega (arith, all, lb, la, l));
        }

-- ---- behind

any_counted : (f : Event → Bool) (es : List Event) → list_any f es ≡ nat_lt 0 (count f es)
any_counted f [] = refl
any_counted f (e ∷ es) =
    let ih = any_counted f es in
    by_test (f e)
    (λ g. simp g (sym (lt-ltb 0 (1 + count f es) (omega arith))))
    (λ g. simp g (ih ∙ ap (nat_lt 0) (let z : count f es ≡ 0 + count f es = omega arith in z)))

pub behind_marked : (p : Part) → 0 < marked_in p.done p.voids → is_behind p ≡ true
unfolding is_behind
behind_marked p h =
    let g : list_any (λ v. stands v p.done) p.voids ≡ true = any_counted (λ v. stands v p.done) p.voids ∙ lt-ltb 0 (marked_in p.done p.voids) h in
    by_test (list_any (is_before_last p.done) p.todo) (λ k. simp k) (λ k. simp (k, g))

-- where none is marked, the first of todo tells
pub behind_first : (p : Part) (x : Event) → IsTidy p → marked_in p.done p.voids ≤ 0 → Some x ≡ slice_get p.todo 0 → is_before_last p.done x ≡ is_behind p
unfolding is_behind
behind_first p x t h first = from_list p.todo refl
  where
    none : list_any (λ v. stands v p.done) p.voids ≡ false
    none = any_counted (λ v. stands v p.done) p.voids ∙ le-ltb 0 (marked_in p.done p.voids) h

    from_list : (es : List Event) → p.todo ≡ es → is_before_last p.done x ≡ (list_any (is_before_last p.done) p.todo || list_any (λ v. stands v p.done) p.voids)
    from_list [] same = absurd (let bad : Some x ≡ None = first ∙ ap (λ l. slice_get l 0) same in cc)
    from_list (y ∷ ys) same =
        let here : Some x ≡ Some y = first ∙ ap (λ l. slice_get l 0) same in
        let is : x ≡ y = cc in
        let up = subst (λ l. IsSorted event_cmp l) same t.todo in
        let tells = behind_by_first p.done y ys (rises_from_sorted event_cmp event_total (y ∷ ys) up) in
        let g = none in
        ap (is_before_last p.done) is ∙ sym tells ∙ ap (list_any (is_before_last p.done)) (sym same)
        ∙ by_test (list_any (is_before_last p.done) p.todo) (λ k. simp k) (λ k. simp (k, g))

pub behind_nothing : (p : Part) → marked_in p.done p.voids ≤ 0 → None ≡ slice_get p.todo 0 → false ≡ is_behind p
unfolding is_behind
behind_nothing p h first = from_list p.todo refl
  where
    none : list_any (λ v. stands v p.done) p.voids ≡ false
    none = any_counted (λ v. stands v p.done) p.voids ∙ le-ltb 0 (marked_in p.done p.voids) h

    from_list : (es : List Event) → p.todo ≡ es → false ≡ (list_any (is_before_last p.done) p.todo || list_any (λ v. stands v p.done) p.voids)
    from_list [] same = let g = none in sym (ap (λ l. list_any (is_before_last p.done) l || list_any (λ v. stands v p.done) p.voids) same ∙ g)
    from_list (y ∷ ys) same = absurd (let bad : None ≡ Some y = first ∙ ap (λ l. slice_get l 0) same in cc)

-- ---- ready

pub some_waits : (todo : List Event) (r : Option (Bor Event)) → option_copied r ≡ slice_get todo 0 → is_some r ≡ not (is_empty todo)
some_waits [] None h = refl
some_waits [] (Some x) h = absurd (cc)
some_waits (e ∷ es) None h = absurd (cc)
some_waits (e ∷ es) (Some x) h = refl

pub ready_is : (p : Part) (behind some : Bool) → behind ≡ is_behind p → some ≡ not (is_empty p.todo) → (not behind && some) ≡ is_ready p
unfolding is_ready
ready_is p behind some h k = λ i. not (h i) && k i

pub ready_waits : (p : Part) → is_ready p ≡ true → 0 < length p.todo
unfolding is_ready
ready_waits p h = from_list p.todo refl
  where
    from_list : (es : List Event) → p.todo ≡ es → 0 < length p.todo
    from_list [] same = absurd (false≢true (sym (ap (λ l. not (is_behind p) && not (is_empty l)) same ∙ by_test (is_behind p) (λ k. simp k) (λ k. simp k)) ∙ h))
    from_list (y ∷ ys) same = let l = ap length same in omega (arith, l)

pub ready_not_behind : (p : Part) → is_ready p ≡ true → is_behind p ≡ false
unfolding is_ready
ready_not_behind p h = by_test (is_behind p) (λ k. absurd (false≢true (sym (simp k) ∙ h))) (λ k. k)

pub first_waits : (todo : List Event) → 0 < length todo → None ≡ slice_get todo 0 → ⊥
first_waits [] l h = omega (arith, l)
first_waits (e ∷ es) l h = cc

pub behind_unready : (p : Part) → is_behind p ≡ true → false ≡ is_ready p
unfolding is_ready
behind_unready p h = sym (simp h)
