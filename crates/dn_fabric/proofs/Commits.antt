-- What is committed at all routers, router by router.
use Rattle.std.proofs.Common.{◌≡◌, ℕ, ◌+◌, ◌-◌, ◌<◌, ◌≤◌, ltb, eqb, List, [], ◌∷◌, ◌++◌, length, get_or, set, take, map, length-append, append-nil, append_assoc, refl, sym, ap, ◌∙◌, subst, arith}
use Rattle.std.proofs.lemmas.Bool.{eqb-true, eqb-false, ltb-true, ltb-false}
use Rattle.std.proofs.lemmas.Option.{get_or_from_slice_get, slice_get-get_or, slice_get_within}
use Rattle.std.proofs.lemmas.List.{length-set}
use Rattle.std.specs.FinMap.{IsAntisymmetric}
use Rattle.std.specs.List.Sorted.{IsPermutation, IsSorted}
use Rattle.std.proofs.Math.Seq.{take-append-add}
use Rattle.std.proofs.lemmas.List.{take_all, take_more, ext_get_or, get_or_default, length-map, get_or-map, get_or-set_same, get_or-set_other}
use Rattle.dn_lists.proofs.Lists.{by_test}
use Rattle.dn_lists.proofs.Sorting.{rises_from_sorted, in_order_is}
use Rattle.dn_model.specs.declared.event.Event.{Event}
use Rattle.dn_model.specs.declared.key.Key.{Key}
use Rattle.dn_model.specs.Order.{event_cmp, event_total, sorted}
use Rattle.dn_router.specs.Routers.{Speculation}
use Rattle.dn_fabric.specs.Commits.{committed_to, fresh_at, fresh_of, AreAsHandled}

pub sorted_is : IsAntisymmetric event_cmp → (xs ys : List Event) → IsPermutation xs ys → IsSorted event_cmp ys → ys ≡ sorted xs
unfolding sorted
sorted_is apart xs ys p s = in_order_is event_cmp event_total apart xs ys p (rises_from_sorted event_cmp event_total ys s)

-- ---- so many of two lists

pub cut_shown : (limit : ℕ) (xs ys : List Event) → length xs ≤ limit → xs ++ take (limit - length xs) ys ≡ take limit (xs ++ ys)
cut_shown limit xs ys l =
    let same : length xs + (limit - length xs) ≡ limit = omega (arith, l) in
    sym (take-append-add xs ys (limit - length xs)) ∙ ap (λ n. take n (xs ++ ys)) same

pub all_shown : (limit : ℕ) (xs ys : List Event) → length xs + length ys ≤ limit → xs ++ ys ≡ take limit (xs ++ ys)
all_shown limit xs ys l = let n = length-append xs ys in sym (take_all limit (xs ++ ys) (omega (arith, l, n)))

-- ---- the first n routers have committed up to the key

pub record AreOn {S : Type 0} (key : Key) (n : ℕ) (before now : List (Speculation S)) (rows : List Event) : Type 0 where
  pub count : length now ≡ length before
  pub done : (r : ℕ) (d : Speculation S) → r < n → r < length before → get_or now r d ≡ committed_to key (get_or before r d)
  pub left : (r : ℕ) (d : Speculation S) → n ≤ r → get_or now r d ≡ get_or before r d
  pub fresh : rows ≡ fresh_of key (take n before)

pub same_lists : {X : Type 0} (xs ys : List X) → length xs ≡ length ys → ((i : ℕ) (d : X) → i < length xs → get_or xs i d ≡ get_or ys i d) → xs ≡ ys
same_lists [] [] n h = refl
same_lists [] (y ∷ ys) n h = absurd (omega (arith, n))
same_lists (x ∷ xs) ys n h = ext_get_or x (x ∷ xs) ys n (λ i l. h i x l)

pub fresh_push : {S : Type 0} (key : Key) (xs : List (Speculation S)) (x : Speculation S) → fresh_of key (xs ++ x ∷ []) ≡ fresh_of key xs ++ fresh_at key x
unfolding fresh_of
fresh_push key [] x = append-nil (fresh_at key x)
fresh_push key (y ∷ ys) x = ap (λ l. fresh_at key y ++ l) (fresh_push key ys x) ∙ sym (append_assoc (fresh_at key y) (fresh_of key ys) (fresh_at key x))

pub fresh_none : {S : Type 0} (key : Key) (xs : List (Speculation S)) → fresh_of key (take 0 xs) ≡ []
unfolding fresh_of
fresh_none key xs = refl

-- all but what was committed is the same
abbrev pub Keeps : {S : Type 0} → Speculation S → Speculation S → Type 0
Keeps old s = s ≡ record old { committed = s.committed; bound = s.bound }

pub keeps_on : {S : Type 0} (key : Key) (old : Speculation S) → Keeps old (committed_to key old)
keeps_on key old = refl

module _ {S : Type 0} (key : Key) where
  pub on_start : (rs : List (Speculation S)) (rows : List Event) → rows ≡ [] → AreOn key 0 rs rs rows
  on_start rs rows e =
      record { count = refl; done = λ r d l m. absurd (omega (arith, l)); left = λ r d l. refl; fresh = e ∙ sym (fresh_none key rs) }

  module _ (n : ℕ) (before now : List (Speculation S)) (rows : List Event) (on : AreOn key n before now rows) where
    pub here_is : (d : Speculation S) → get_or now n d ≡ get_or before n d
    here_is d = on.left n d (omega arith)

    pub on_turn : (s new : Speculation S) (more rows_now : List Event) → n < length before → s ≡ get_or now n s → new ≡ committed_to key s → more ≡ fresh_at key s → rows_now ≡ rows ++ more → AreOn key (n + 1) before (set now n new) rows_now
    on_turn s new more rows_now l is to h all =
        let old : s ≡ get_or before n s = is ∙ here_is s in
        let within : n < length now = omega (arith, on.count, l) in
        record {
          count = length-set now n new ∙ on.count;
          done = λ r d k m.
              by_test (eqb r n)
              (λ g.
              let e : r ≡ n = eqb-true r n g in
              ap (λ i. get_or (set now n new) i d) e
              ∙ get_or-set_same now n new d within
              ∙ to
              ∙ ap (committed_to key) (old ∙ get_or_default before n s d l)
              ∙ ap (λ i. committed_to key (get_or before i d)) (sym e))
              (λ g.
              let no = eqb-false r n g in
              get_or-set_other now n r new d no ∙ on.done r d (omega (arith, k, no)) m);
          left = λ r d k. get_or-set_other now n r new d (λ e. omega (arith, e, k)) ∙ on.left r d (omega (arith, k));
          fresh = all
              ∙ (λ i. on.fresh i ++ h i)
              ∙ sym (fresh_push key (take n before) s)
              ∙ ap (λ x. fresh_of key (take n before ++ x ∷ [])) old
              ∙ ap (fresh_of key) (sym (take_more before n s l));
        }

    pub on_all : length before ≤ n → now ≡ map (committed_to key) before
    on_all l =
        same_lists now (map (committed_to key) before) (on.count ∙ sym (length-map before (committed_to key)))
        (λ i d k.
        let within : i < length before = omega (arith, k, on.count) in
        on.done i d (omega (arith, within, l)) within ∙ sym (get_or-map (committed_to key) before i d d within))

    kept_at : (r : ℕ) (d : Speculation S) → r < length before → Keeps (get_or before r d) (get_or now r d)
    kept_at r d l =
        by_test (ltb r n)
        (λ g. subst (Keeps (get_or before r d)) (sym (on.done r d (ltb-true r n g) l)) (keeps_on key (get_or before r d)))
        (λ g. subst (Keeps (get_or before r d)) (sym (on.left r d (ltb-false r n g))) refl)

    -- between two calls
    pub on_handled : AreAsHandled before now
    on_handled =
        record {
          count = on.count;
          each = λ r x h.
              let inside = slice_get_within now r x h in
              let within : r < length before = omega (arith, inside, on.count) in (
                get_or before r x,
                slice_get-get_or before r x within,
                subst (Keeps (get_or before r x)) (get_or_from_slice_get now r x x h) (kept_at r x within),
              );
        }

    -- where the call at the router n left this one there
    pub on_fails : (s new : Speculation S) → n < length before → s ≡ get_or now n s → Keeps s new → AreAsHandled before (set now n new)
    on_fails s new l is keeps =
        record {
          count = length-set now n new ∙ on.count;
          each = λ r x h.
              let count = length-set now n new in
              let inside = slice_get_within (set now n new) r x h in
              let within : r < length before = omega (arith, inside, count, on.count) in
              let got : get_or (set now n new) r x ≡ x = get_or_from_slice_get (set now n new) r x x h in
              let old = get_or before r x in (
                old,
                slice_get-get_or before r x within,
                by_test (eqb r n)
                    (λ g.
                    let e : r ≡ n = eqb-true r n g in
                    let place : new ≡ x = sym (get_or-set_same now n new x (omega (arith, l, on.count))) ∙ ap (λ i. get_or (set now n new) i x) (sym e) ∙ got in
                    let from : s ≡ old = is ∙ here_is s ∙ get_or_default before n s x l ∙ ap (λ i. get_or before i x) (sym e) in
                    subst (Keeps old) place (subst (λ z. Keeps z new) from keeps))
                    (λ g.
                    let other : get_or now r x ≡ x = sym (get_or-set_other now n r new x (eqb-false r n g)) ∙ got in
                    subst (Keeps old) other (kept_at r x within)),
              );
        }
