-- An engine that stands in a run: the next row, one row further, and the end.
use Rattle.std.proofs.Common.{◌≡◌, ℕ, ◌+◌, ◌<◌, false, Option, Some, None, List, [], ◌∷◌, ◌++◌, length, take, eqb, refl, sym, ap, ◌∙◌, subst, arith, append-nil, add-one, Bor}
use Rattle.std.specs.Prelude.{slice_get, IfSome, IfNone, option_copied}
use Rattle.std.specs.List.{filter}
use Rattle.std.specs.List.Sorted.{IsPermutation, IsSorted}
use Rattle.std.proofs.lemmas.Bool.{eqb-true, eqb-false, eq-eqb, ne_eqb}
use Rattle.std.proofs.lemmas.List.{length-take-le}
use Rattle.std.proofs.lemmas.Option.{same_Some, slice_get_past, slice_get_within}
use Rattle.std.specs.Ordering.{is_gt}
use Rattle.dn_guest.specs.declared.node.Node.{Node}
use Rattle.dn_guest.specs.Meaning.{Meaning}
use Rattle.dn_guest.specs.Node.{node_after, node_sent}
use Rattle.dn_model.specs.declared.key.Key.{Key}
use Rattle.dn_model.specs.declared.event.Event.{Event}
use Rattle.dn_model.specs.declared.feed.External.{External}
use Rattle.dn_model.specs.Order.{event_cmp, event_total}
use Rattle.dn_model.specs.Network.{Network, Family, emitted, is_at, routers, opening_node, state_from, state, sent, sent_to, injected}
use Rattle.dn_model.specs.Settled.{row_limit, IsFeedOf, IsPrefixOf, IsSettled, IsSettledBelow, IsTimed, AreSame, below, due, lockstep, rows}
use Rattle.dn_model.specs.SoFar.{IsRunSoFar, IsWired, by_router, next_emitted}
use Rattle.dn_lists.proofs.Lists.{by_test, all_back, all_permutation, filter_all, filter_append, filter_none, pairs_filter}
use Rattle.dn_lists.proofs.Sorting.{rises_from_sorted, sorted_from_rises}
use Rattle.dn_lockstep.specs.Least.{IsUpTo, IsLeast}
use Rattle.dn_lockstep.specs.Running.{Running, StandsIn, IsAtEnd, first_rows, row_before}
use Rattle.dn_lockstep.specs.Steps.{IsHandled}
use Rattle.dn_lockstep.specs.Answers.{answer_after}
use Rattle.dn_lockstep.specs.declared.engine.Next.TheVariants.{Row, End, Cut}
use Rattle.dn_lockstep.proofs.Places.{GoesOn, goes_on, get_set_same, get_set_other}

-- whoever handles the least of what waits, again and again, handles the lockstep rows, one by one
pub record OneByOne {S : Type 0} (net : Network S) (feed : List External) : Type 0 where
  pub in_any_order : (done waiting other : List Event) → IsRunSoFar net feed done waiting → IsPermutation waiting other → IsRunSoFar net feed done other
  pub onward : IsTimed net.header → IsWired net → IsFeedOf net.header feed → (done waiting rest : List Event) (e : Event) → IsRunSoFar net feed done waiting → IsPermutation waiting (e ∷ rest) → IsUpTo e rest → IsRunSoFar net feed (done ++ e ∷ []) (rest ++ next_emitted net done e)
  pub next : IsTimed net.header → IsFeedOf net.header feed → (done waiting rest : List Event) (e : Event) → IsRunSoFar net feed done waiting → IsPermutation waiting (e ∷ rest) → IsUpTo e rest → IsPrefixOf (done ++ e ∷ []) (rows net feed)
  pub last : IsTimed net.header → IsFeedOf net.header feed → (done : List Event) → IsRunSoFar net feed done [] → rows net feed ≡ done

-- the lockstep lists are a settled family, and no other is, the same below every key; settled are the histories
pub record OneFamily {S : Type 0} (net : Network S) (feed : List External) : Type 0 where
  pub no_other : IsTimed net.header → IsFeedOf net.header feed → (f : Family) → IsSettled net feed f → AreSame net feed f (lockstep net feed)
  pub lockstep_below : IsTimed net.header → IsFeedOf net.header feed → (bound : Key) → IsSettledBelow net feed bound (lockstep net feed)
  pub no_other_below : IsTimed net.header → IsFeedOf net.header feed → (bound : Key) (f : Family) → IsSettledBelow net feed bound f → (r : ℕ) → r < routers net → below bound (f r) ≡ below bound (lockstep net feed r)
  pub same : (bound : Key) (f g : Family) → AreSame net feed f g → IsSettledBelow net feed bound g → IsSettledBelow net feed bound f

-- ---- the events of a router, and one more

at_own : (es : List Event) (e : Event) → by_router (es ++ e ∷ []) e.router ≡ by_router es e.router ++ e ∷ []
unfolding is_at
at_own es e =
    filter_append (is_at e.router) es (e ∷ []) ∙ ap (λ l. by_router es e.router ++ l) (filter_all (is_at e.router) (e ∷ []) (eq-eqb e.router e.router refl, tt))

at_other : (es : List Event) (e : Event) (r : ℕ) → (e.router ≡ r → ⊥) → by_router (es ++ e ∷ []) r ≡ by_router es r
unfolding is_at
at_other es e r h =
    filter_append (is_at r) es (e ∷ [])
    ∙ ap (λ l. by_router es r ++ l) (filter_none (is_at r) (e ∷ []) (ne_eqb e.router r h, tt))
    ∙ append-nil (by_router es r)

module _ {S : Type 0} (net : Network S) where
  -- ---- the replay of one event more

  state_append : (node : Node S) (xs ys : List Event) → state_from net node (xs ++ ys) ≡ state_from net (state_from net node xs) ys
  unfolding state_from
  state_append node [] ys = refl
  state_append node (x ∷ xs) ys = state_append (node_after net.guests node x.input) xs ys

  state_own : (done : List Event) (e : Event) → state net e.router (by_router (done ++ e ∷ []) e.router) ≡ node_after net.guests (state net e.router (by_router done e.router)) e.input
  unfolding state state_from
  state_own done e =
      ap (state_from net (opening_node net e.router)) (at_own done e)
      ∙ state_append (opening_node net e.router) (by_router done e.router) (e ∷ [])

  state_other : (done : List Event) (e : Event) (r : ℕ) → (e.router ≡ r → ⊥) → state net r (by_router (done ++ e ∷ []) r) ≡ state net r (by_router done r)
  state_other done e r ne = ap (state net r) (at_other done e r ne)

  module _ (feed : List External) where
    -- ---- the next row

    module _ (rows_one_by_one : OneByOne net feed) (e : Running S) (so : StandsIn net feed e) where
      done : List Event
      done = first_rows net feed e.place

      pub next_is : (w : Event) (rest : List Event) → IsPermutation e.waiting (w ∷ rest) → IsUpTo w rest → GoesOn (rows net feed) e.place w
      next_is w rest moves first =
          let front : IsPrefixOf (first_rows net feed e.place ++ w ∷ []) (rows net feed) = rows_one_by_one.next so.timed so.fed (first_rows net feed e.place) e.waiting rest w so.so_far moves first in
          goes_on (rows net feed) e.place w front.0 so.within front.1

      -- where nothing waits, all rows are done
      pub all_done : e.waiting ≡ [] → rows net feed ≡ first_rows net feed e.place
      all_done none = rows_one_by_one.last so.timed so.fed (first_rows net feed e.place) (subst (IsRunSoFar net feed (first_rows net feed e.place)) none so.so_far)

      pub place_at_end : e.waiting ≡ [] → e.place ≡ length (rows net feed)
      place_at_end none =
          let a = length-take-le e.place (rows net feed) so.within in
          let b : length (rows net feed) ≡ length (first_rows net feed e.place) = ap length (all_done none) in
          omega (arith, a, b)

      -- ---- the end

      settled_at_end : e.waiting ≡ [] → IsSettled net feed (by_router (rows net feed))
      settled_at_end none =
          let so_far : IsRunSoFar net feed (rows net feed) [] =
          subst (λ (es : List Event). IsRunSoFar net feed es []) (sym (all_done none)) (subst (IsRunSoFar net feed (first_rows net feed e.place)) none so.so_far) in
          let up = rises_from_sorted event_cmp event_total (rows net feed) so_far.sorted in
          record {
            sorted = λ r l. sorted_from_rises event_cmp event_total (by_router (rows net feed) r) (pairs_filter (λ x y. is_gt (event_cmp x y) ≡ false) (is_at r) (rows net feed) up);
            complete = λ r l. subst (λ (es : List Event). IsPermutation (due net feed (by_router (rows net feed)) r) (by_router es r)) (append-nil (rows net feed)) (so_far.complete r l);
          }

      pub at_end : OneFamily net feed → e.waiting ≡ [] → IsAtEnd net feed e
      at_end one none =
          let settled = settled_at_end none in
          let same = one.no_other so.timed so.fed (by_router (rows net feed)) settled in
          record {
            place = place_at_end none;
            of_router = same;
            settled = settled;
            settled_below = λ bound. one.same bound (by_router (rows net feed)) (lockstep net feed) same (one.lockstep_below so.timed so.fed bound);
            no_other = λ f is r l. one.no_other so.timed so.fed f is r l ∙ sym (same r l);
            no_other_below = λ bound f is r l. one.no_other_below so.timed so.fed bound f is r l ∙ ap (below bound) (sym (same r l));
            nodes = λ r l. so.nodes r l ∙ ap (λ (es : List Event). Some (state net r es)) (ap (λ (es : List Event). by_router es r) (sym (all_done none)) ∙ same r l);
          }

      -- ---- one row further

      pub stands_on : (guests : Meaning S) → net.guests ≡ guests → (w : Event) (nodes : List (Node S)) (waiting : List Event) → IsHandled guests e.header e.nodes e.waiting w nodes waiting → StandsIn net feed (record { header = e.header; nodes = nodes; waiting = waiting; place = e.place + 1; last = Some w; spent = false })
      stands_on guests are w nodes waiting h =
          let now = first_rows net feed e.place in
          let on = next_is w h.rest h.among h.first in
          let then : take (e.place + 1) (rows net feed) ≡ now ++ w ∷ [] = rw add-one on.front in
          let at : w.router < routers net =
          (all_permutation (λ (x : Event). x.router < routers net) e.waiting (w ∷ h.rest) h.among (all_back (λ (x : Event). x.router < routers net) (first_rows net feed e.place) e.waiting so.so_far.inside)).0 in
          let node_is : h.node ≡ state net w.router (by_router now w.router) = same_Some h.node (state net w.router (by_router now w.router)) (sym h.had ∙ so.nodes w.router at) in
          let out : emitted e.header w (node_sent guests h.node w.input) ≡ next_emitted net now w =
          λ i. emitted (so.header i) w (node_sent (sym are i) (node_is i) w.input) in
          let stepped : IsRunSoFar net feed (now ++ w ∷ []) (h.rest ++ next_emitted net now w) = rows_one_by_one.onward so.timed so.wired so.fed now e.waiting h.rest w so.so_far h.among h.first in
          let moved : IsRunSoFar net feed (now ++ w ∷ []) waiting =
          rows_one_by_one.in_any_order (now ++ w ∷ []) (h.rest ++ next_emitted net now w) waiting stepped (subst (λ (es : List Event). IsPermutation (h.rest ++ es) waiting) out h.added) in
          record {
            timed = so.timed;
            wired = so.wired;
            fed = so.fed;
            header = so.header;
            within = omega (arith, on.more);
            so_far = subst (λ (es : List Event). IsRunSoFar net feed es waiting) (sym then) moved;
            last = last_is on;
            nodes = λ r l.
                by_test (eqb w.router r)
                (λ g.
                let same = eqb-true w.router r g in
                let own : slice_get nodes w.router ≡ Some (state net w.router (by_router (now ++ w ∷ []) w.router)) =
                ap (λ (ns : List (Node S)). slice_get ns w.router) h.took
                ∙ get_set_same e.nodes w.router (node_after guests h.node w.input) (slice_get_within e.nodes w.router h.node h.had)
                ∙ (λ i. Some (node_after (sym are i) (node_is i) w.input))
                ∙ ap (λ (n : Node S). Some n) (sym (state_own now w)) in
                subst (λ (k : ℕ). slice_get nodes k ≡ Some (state net k (by_router (take (e.place + 1) (rows net feed)) k))) same
                (own ∙ ap (λ (es : List Event). Some (state net w.router (by_router es w.router))) (sym then)))
                (λ g.
                let ne = eqb-false w.router r g in
                ap (λ (ns : List (Node S)). slice_get ns r) h.took
                ∙ get_set_other e.nodes w.router r (node_after guests h.node w.input) ne
                ∙ so.nodes r l
                ∙ ap (λ (n : Node S). Some n) (sym (state_other now w r ne))
                ∙ ap (λ (es : List Event). Some (state net r (by_router es r))) (sym then));
            unspent = refl;
          }
        where
          last_is : GoesOn (rows net feed) e.place w → Some w ≡ row_before net feed (e.place + 1)
          last_is on = rw add-one (sym on.next)

      -- ---- what is peeked

      pub peek_is : (r : Option (Bor Event)) → IfSome r (λ x. IsLeast x.now e.waiting) → IfNone r (e.waiting ≡ []) → option_copied r ≡ slice_get (rows net feed) e.place
      peek_is None least none =
          let end = place_at_end none in
          sym (slice_get_past (rows net feed) e.place (omega (arith, end)))
      peek_is (Some x) least none = sym (next_is x.now least.rest least.among least.first).next

      -- where something waits, there are more rows
      pub more_rows : (w : Event) → IsLeast w e.waiting → e.place < length (rows net feed)
      more_rows w least = (next_is w least.rest least.among least.first).more

-- ---- the answers of `next`

pub answer_end : (place : ℕ) (rows : List Event) → place ≡ length rows → End ≡ answer_after place rows
answer_end place rows e = let h = eq-eqb place (length rows) e in simp h refl

pub answer_cut : (place : ℕ) (rows : List Event) → place < length rows → place ≡ row_limit → Cut ≡ answer_after place rows
answer_cut place rows l e =
    let h = ne_eqb place (length rows) (λ x. omega (arith, l, x)) in let k = eq-eqb place row_limit e in simp (h, k) refl

pub answer_row : (place : ℕ) (rows : List Event) → place < length rows → (place ≡ row_limit → ⊥) → Row ≡ answer_after place rows
answer_row place rows l ne =
    let h = ne_eqb place (length rows) (λ x. omega (arith, l, x)) in let k = ne_eqb place row_limit ne in simp (h, k) refl
