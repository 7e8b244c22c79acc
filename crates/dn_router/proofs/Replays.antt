-- Replays, and the nodes that are kept.
use Rattle.std.proofs.Common.{◌≡◌, ℕ, zero, suc, ◌+◌, ◌<◌, ◌≤◌, List, [], ◌∷◌, ◌++◌, length, get_or, take, drop, drop-cons, add-one, append-nil, append_assoc, refl, sym, ap, ◌∙◌, subst, arith}
use Rattle.std.specs.Prelude.{Some}
use Rattle.dn_guest.specs.declared.node.Node.{Node}
use Rattle.dn_guest.specs.declared.node.Sent.{Sent}
use Rattle.dn_guest.specs.Meaning.{Meaning}
use Rattle.dn_guest.specs.Node.{node_after, node_sent}
use Rattle.dn_model.specs.declared.event.Event.{Event}
use Rattle.dn_model.specs.declared.link.End.{End}
use Rattle.dn_model.specs.declared.timing.Timing.{Timing}
use Rattle.dn_ckpt.specs.Shelves.{Kept, kept_at, kept_from, kept_up_to, with_kept, base_place, HasBase}
use Rattle.dn_ckpt.proofs.Entries.{le_is, not_le}
use Rattle.dn_router.proofs.Kept.{cmp_same, cmp_past, has_at, base_at, at_from, from_from}
use Rattle.dn_router.specs.Replays.{node_over, emitted_at, emitted_over, last_sent, nodes_over}

-- the list from a place on: the element there and the rest
rest_from : (es : List Event) (i : ℕ) (e : Event) → i < length es → e ≡ get_or es i e → drop i es ≡ e ∷ drop (i + 1) es
rest_from es i e l is =
    let n : drop (suc i) es ≡ drop (i + 1) es = rw add-one refl in
    drop-cons es i e l ∙ (λ j. sym is j ∷ n j)

pub none_from : (es : List Event) (i : ℕ) → length es ≤ i → drop i es ≡ []
none_from [] zero l = refl
none_from [] (suc i) l = refl
none_from (e ∷ es) zero l = absurd (omega (arith, l))
none_from (e ∷ es) (suc i) l = none_from es i (omega (arith, l))

module _ {S : Type 0} (guests : Meaning S) where
  pub node_append : (node : Node S) (xs ys : List Event) → node_over guests node (xs ++ ys) ≡ node_over guests (node_over guests node xs) ys
  unfolding node_over
  node_append node [] ys = refl
  node_append node (x ∷ xs) ys = node_append (node_after guests node x.input) xs ys

  pub node_more : (node : Node S) (xs : List Event) (e : Event) → node_over guests node (xs ++ e ∷ []) ≡ node_after guests (node_over guests node xs) e.input
  unfolding node_over
  node_more node [] e = refl
  node_more node (x ∷ xs) e = node_more (node_after guests node x.input) xs e

  pub node_nothing : (node : Node S) → node_over guests node [] ≡ node
  unfolding node_over
  node_nothing node = refl

  -- ---- loops over the events

  pub node_step : (node : Node S) (es : List Event) (i : ℕ) (e : Event) → i < length es → e ≡ get_or es i e → node_over guests node (drop i es) ≡ node_over guests (node_after guests node e.input) (drop (i + 1) es)
  unfolding node_over
  node_step node es i e l is = ap (node_over guests node) (rest_from es i e l is)

  pub sent_step : (node : Node S) (sent : List Sent) (es : List Event) (i : ℕ) (e : Event) → i < length es → e ≡ get_or es i e → last_sent guests node sent (drop i es) ≡ last_sent guests (node_after guests node e.input) (node_sent guests node e.input) (drop (i + 1) es)
  unfolding last_sent
  sent_step node sent es i e l is = ap (last_sent guests node sent) (rest_from es i e l is)

  pub sent_nothing : (node : Node S) (sent : List Sent) → last_sent guests node sent [] ≡ sent
  unfolding last_sent
  sent_nothing node sent = refl

  pub emitted_step : (t : Timing) (ends : List End) (node : Node S) (es : List Event) (i : ℕ) (e : Event) → i < length es → e ≡ get_or es i e → emitted_over guests t ends node (drop i es) ≡ emitted_at guests t ends node e ++ emitted_over guests t ends (node_after guests node e.input) (drop (i + 1) es)
  unfolding emitted_over
  emitted_step t ends node es i e l is = ap (emitted_over guests t ends node) (rest_from es i e l is)

  pub emitted_nothing : (t : Timing) (ends : List End) (node : Node S) → emitted_over guests t ends node [] ≡ []
  unfolding emitted_over
  emitted_nothing t ends node = refl

  -- ---- the kept nodes

  pub kept_node : (k : ℕ) (node : Node S) (es : List Event) (i p : ℕ) → p ≡ k + i → i ≤ length es → kept_at (nodes_over guests k node es) p ≡ Some (node_over guests node (take i es))
  unfolding nodes_over node_over
  kept_node k node [] zero p h l = let g = cmp_same p k (omega (arith, h)) in simp g
  kept_node k node [] (suc i) p h l = absurd (omega (arith, l))
  kept_node k node (e ∷ es) zero p h l = let g = cmp_same p k (omega (arith, h)) in simp g
  kept_node k node (e ∷ es) (suc i) p h l =
      let g = cmp_past p k (omega (arith, h)) in
      simp g (kept_node (suc k) (node_after guests node e.input) es i p (omega (arith, h)) (omega (arith, l)))

  -- one more is kept
  pub kept_more : (k : ℕ) (node : Node S) (es : List Event) (e : Event) (p : ℕ) → p ≡ suc (k + length es) → with_kept (nodes_over guests k node es) p (node_over guests node (es ++ e ∷ [])) ≡ nodes_over guests k node (es ++ e ∷ [])
  unfolding nodes_over node_over
  kept_more k node [] e p h =
      let g = cmp_past p k (omega (arith, h)) in
      let same : p ≡ suc k = omega (arith, h) in
      simp g (λ i. (k, node) ∷ (same i, node_after guests node e.input) ∷ [])
  kept_more k node (x ∷ xs) e p h =
      let g = cmp_past p k (omega (arith, h)) in
      simp g (ap (λ l. (k, node) ∷ l) (kept_more (suc k) (node_after guests node x.input) xs e p (omega (arith, h))))

  -- some are cut off
  cut_none : (k : ℕ) (node : Node S) (es : List Event) (p : ℕ) → p < k → kept_up_to p (nodes_over guests k node es) ≡ []
  unfolding nodes_over
  cut_none k node [] p h = let g = not_le k p h in simp g
  cut_none k node (e ∷ es) p h = let g = not_le k p h in simp g (cut_none (suc k) (node_after guests node e.input) es p (omega (arith, h)))

  pub kept_cut : (k : ℕ) (node : Node S) (es : List Event) (i p : ℕ) → p ≡ k + i → i ≤ length es → kept_up_to p (nodes_over guests k node es) ≡ nodes_over guests k node (take i es)
  unfolding nodes_over
  kept_cut k node [] zero p h l = let g = le_is k p (omega (arith, h)) in simp g
  kept_cut k node [] (suc i) p h l = absurd (omega (arith, l))
  kept_cut k node (e ∷ es) zero p h l =
      let g = le_is k p (omega (arith, h)) in
      simp g (ap (λ l. (k, node) ∷ l) (cut_none (suc k) (node_after guests node e.input) es p (omega (arith, h))))
  kept_cut k node (e ∷ es) (suc i) p h l =
      let g = le_is k p (omega (arith, h)) in
      simp g (ap (λ l. (k, node) ∷ l) (kept_cut (suc k) (node_after guests node e.input) es i p (omega (arith, h)) (omega (arith, l))))

  -- ---- a turn of such a loop

  pub node_turn : (node new before : Node S) (es : List Event) (i : ℕ) (e : Event) → i < length es → e ≡ get_or es i e → new ≡ node_after guests node e.input → node_over guests node (drop i es) ≡ before → node_over guests new (drop (i + 1) es) ≡ before
  node_turn node new before es i e l is took h =
      ap (λ n. node_over guests n (drop (i + 1) es)) took ∙ sym (node_step node es i e l is) ∙ h

  pub sent_turn : (node new : Node S) (sent more before : List Sent) (es : List Event) (i : ℕ) (e : Event) → i < length es → e ≡ get_or es i e → new ≡ node_after guests node e.input → more ≡ node_sent guests node e.input → last_sent guests node sent (drop i es) ≡ before → last_sent guests new more (drop (i + 1) es) ≡ before
  sent_turn node new sent more before es i e l is took gave h =
      (λ j. last_sent guests (took j) (gave j) (drop (i + 1) es)) ∙ sym (sent_step node sent es i e l is) ∙ h

  pub emitted_turn : (t : Timing) (ends : List End) (node new : Node S) (emitted more all before : List Event) (es : List Event) (i : ℕ) (e : Event) → i < length es → e ≡ get_or es i e → new ≡ node_after guests node e.input → more ≡ emitted_at guests t ends node e → all ≡ emitted ++ more → emitted ++ emitted_over guests t ends node (drop i es) ≡ before → all ++ emitted_over guests t ends new (drop (i + 1) es) ≡ before
  emitted_turn t ends node new emitted more all before es i e l is took gave join h =
      (λ j. join j ++ emitted_over guests t ends (took j) (drop (i + 1) es))
      ∙ append_assoc emitted more (emitted_over guests t ends (node_after guests node e.input) (drop (i + 1) es))
      ∙ ap (λ r. emitted ++ r) ((λ j. gave j ++ emitted_over guests t ends (node_after guests node e.input) (drop (i + 1) es)) ∙ sym (emitted_step t ends node es i e l is))
      ∙ h

  pub node_end : (node : Node S) (es : List Event) (i : ℕ) → length es ≤ i → node_over guests node (drop i es) ≡ node
  node_end node es i l = ap (node_over guests node) (none_from es i l) ∙ node_nothing node

  pub sent_end : (node : Node S) (sent : List Sent) (es : List Event) (i : ℕ) → length es ≤ i → last_sent guests node sent (drop i es) ≡ sent
  sent_end node sent es i l = ap (last_sent guests node sent) (none_from es i l) ∙ sent_nothing node sent

  pub emitted_end : (t : Timing) (ends : List End) (node : Node S) (emitted es : List Event) (i : ℕ) → length es ≤ i → emitted ++ emitted_over guests t ends node (drop i es) ≡ emitted
  emitted_end t ends node emitted es i l =
      ap (λ r. emitted ++ r) (ap (emitted_over guests t ends node) (none_from es i l) ∙ emitted_nothing t ends node) ∙ append-nil emitted

  pub kept_nothing : (k : ℕ) (node : Node S) → nodes_over guests k node [] ≡ (k, node) ∷ []
  unfolding nodes_over
  kept_nothing k node = refl

  -- ---- what is kept from a place on

  pub kept_front : (node : Node S) (es : List Event) (f p : ℕ) → f ≤ p → p ≤ length es → kept_at (kept_from f (nodes_over guests 0 node es)) p ≡ Some (node_over guests node (take p es))
  kept_front node es f p h l = at_from f p (nodes_over guests 0 node es) h ∙ kept_node 0 node es p p (omega arith) l

  base_is : (node : Node S) (es : List Event) (f p : ℕ) (kept : Kept S) → f ≤ p → p ≤ length es → kept ≡ kept_from f (nodes_over guests 0 node es) → base_place p kept ≡ p
  base_is node es f p kept h l is =
      ap (base_place p) is ∙ base_at p (kept_from f (nodes_over guests 0 node es)) (node_over guests node (take p es)) (kept_front node es f p h l)

  pub has_is : (node : Node S) (es : List Event) (f p : ℕ) (kept : Kept S) → f ≤ p → f ≤ length es → kept ≡ kept_from f (nodes_over guests 0 node es) → HasBase p kept
  has_is node es f p kept h l is =
      subst (HasBase p) (sym is) (has_at f p (kept_from f (nodes_over guests 0 node es)) (node_over guests node (take f es)) (kept_front node es f f (omega arith) l) h)

  -- what `base_for` gives for the place after a front of the events
  pub base_front : (node : Node S) (es : List Event) (f len : ℕ) (kept : Kept S) (place : ℕ) (at : Node S) → f ≤ len → len ≤ length es → kept ≡ kept_from f (nodes_over guests 0 node es) → place ≡ base_place len kept → kept_at kept place ≡ Some at → (place ≡ len) × (at ≡ node_over guests node (take len es))
  base_front node es f len kept place at h l is p got =
      let here : place ≡ len = p ∙ base_is node es f len kept h l is in
      let same : Some at ≡ Some (node_over guests node (take len es)) = sym got ∙ (λ i. kept_at (is i) (here i)) ∙ kept_front node es f len h l in
      (here, cc)

  -- and for that after all of them
  pub base_last : (node : Node S) (es : List Event) (f len : ℕ) (kept : Kept S) (place : ℕ) (at : Node S) → f ≤ length es → len ≡ length es → kept ≡ kept_from f (nodes_over guests 0 node es) → place ≡ base_place len kept → kept_at kept place ≡ Some at → (place ≡ length es) × (at ≡ node_over guests node es)
  base_last node es f len kept place at h l is p got =
      let front = base_front node es f len kept place at (omega (arith, h, l)) (omega (arith, l)) is p got in
      (front.0 ∙ l, front.1 ∙ ap (λ n. node_over guests node (take n es)) l ∙ ap (node_over guests node) (all_of es))
    where
      all_of : (xs : List Event) → take (length xs) xs ≡ xs
      all_of [] = refl
      all_of (x ∷ xs) = ap (λ l. x ∷ l) (all_of xs)

  -- what `trim` leaves
  pub trimmed : (node : Node S) (es : List Event) (f p : ℕ) (kept after : Kept S) → f ≤ p → p ≤ length es → kept ≡ kept_from f (nodes_over guests 0 node es) → after ≡ kept_from (base_place p kept) kept → after ≡ kept_from p (nodes_over guests 0 node es)
  trimmed node es f p kept after h l is a =
      a ∙ (λ i. kept_from (base_is node es f p kept h l is i) (is i)) ∙ from_from f p (nodes_over guests 0 node es) h
