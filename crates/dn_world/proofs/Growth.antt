-- The rows below the boundary only grow, and only by Commit; a quiet world that is committed stays as it is.
use Rattle.std.proofs.Common.{◌≡◌, ℕ, zero, suc, ◌<◌, true, false, not, ◌&&◌, List, [], ◌∷◌, ◌++◌, length, get_or, set, take, refl, sym, ap, ◌∙◌, subst, arith, append-nil, length-append}
use Rattle.std.specs.Prelude.{◌==◌, Option, Some, None, slice_get, nat_lt}
use Rattle.std.specs.List.{filter, AllByRecursion}
use Rattle.std.specs.Ordering.{is_lt, is_gt}
use Rattle.std.proofs.lemmas.Bool.{ltb-true, lt-ltb}
use Rattle.dn_model.specs.declared.key.Key.{Key}
use Rattle.dn_model.specs.declared.event.Event.{Event}
use Rattle.dn_model.specs.Order.{key_cmp, event_cmp, event_total, is_below, sorted}
use Rattle.dn_model.specs.Network.{Network, external, joined, routers}
use Rattle.dn_model.specs.Settled.{IsPrefixOf, below, row_limit}
use Rattle.dn_lists.proofs.Lists.{by_test, filter_append, filter_inner, filter_none, filter_split, filter_all, pairs_weaker}
use Rattle.dn_lists.proofs.Sorting.{rises_in_order}
use Rattle.dn_model.proofs.Waves.{sort, filter_sort, IsRising, below_cut, all_of}
use Rattle.dn_model.proofs.Rows.{joined_same, joined_filter}
use Rattle.dn_world.specs.declared.packet.Packet.{Packet}
use Rattle.dn_world.specs.declared.step.Step.{Step}
use Rattle.dn_world.specs.declared.step.Step.TheVariants.{Beacon, Inject, Close, Deliver, Handle, RollBack, Commit}
use Rattle.dn_world.specs.World.{Part, World, no_part, part, horizon, is_ready, is_behind, is_empty, is_quiet}
use Rattle.dn_world.specs.Steps.{is_enabled, is_injectable, beacon, inject, deliver, is_wrong, handle, kept, taken_off, roll_back, after}
use Rattle.dn_world.specs.Runs.{settled_rows, fresh_rows, committed, is_cut_off, IsPast, IsAllPast}
use Rattle.dn_world.proofs.Parts.{get_kept, todo_done, get_ticked, until_since}
use Rattle.dn_world.proofs.Balance.{both_true, IsCounted, arrived_done}
use Rattle.dn_world.proofs.Quiet.{quiet_parts, calm_part}
use Rattle.dn_world.proofs.Past.{past_trans, past_same, horizon_least, from_waiting, waits_at, roll_back_past}

-- nothing of these is below the key
none_below : (b : Key) (es : List Event) → AllByRecursion (λ e. IsPast b e.key) es → filter (is_below b) es ≡ []
unfolding is_below
none_below b es a = filter_none (λ e. is_lt (key_cmp e.key b)) es a

take_on : {X : Type 0} (n : ℕ) (xs ys zs : List X) → xs ++ zs ≡ ys → IsPrefixOf (take n xs) (take n ys)
take_on zero xs ys zs e = ([], refl)
take_on (suc n) [] ys zs e = (take (suc n) ys, refl)
take_on (suc n) (x ∷ xs) [] zs e = absurd (cc)
take_on (suc n) (x ∷ xs) (y ∷ ys) zs e =
    let head : x ≡ y = cc in
    let rest : xs ++ zs ≡ ys = cc in
    let more = take_on n xs ys zs rest in
    (more.0, λ i. head i ∷ more.1 i)

closed_no : (w : World) → is_quiet w ≡ true → not w.closed ≡ true → ⊥
closed_no w q h = let z : not w.closed ≡ false = ap not (quiet_parts w q).0 in let y : true ≡ false = sym h ∙ z in cc

module _ {S : Type 0} (net : Network S) where
  -- a part as a step leaves it, seen below the boundary
  abbrev Same : Key → List Part → List Part → Type 0
  Same b ps qs = (r : ℕ) → r < length ps → filter (is_below b) (get_or qs r no_part).done ≡ filter (is_below b) (get_or ps r no_part).done

  one_same : (b : Key) (ps : List Part) (i : ℕ) (q : Part) → filter (is_below b) q.done ≡ filter (is_below b) (get_or ps i no_part).done → Same b ps (set ps i q)
  one_same b ps i q h r l = get_kept (λ (p : Part). filter (is_below b) p.done) ps i r q no_part h

  handle_same : (b : Key) (w : World) (r : ℕ) (es : List Event) → (part w r).todo ≡ es → AllByRecursion (λ e. IsPast b e.key) (part w r).todo → Same b w.parts (handle net w r (part w r) es).parts
  unfolding handle part
  handle_same b w r [] e a = λ s l. refl
  handle_same b w r (x ∷ xs) e a =
      let first : AllByRecursion (λ e. IsPast b e.key) (x ∷ xs) = subst (AllByRecursion (λ e. IsPast b e.key)) e a in
      one_same b w.parts r _
      (filter_append (is_below b) (get_or w.parts r no_part).done (x ∷ [])
      ∙ ap (λ l. filter (is_below b) (get_or w.parts r no_part).done ++ l) (none_below b (x ∷ []) (first.0, tt))
      ∙ append-nil (filter (is_below b) (get_or w.parts r no_part).done))

  deliver_same : (b : Key) (w : World) (place : ℕ) (o : Option Packet) → Same b w.parts (deliver w place o).parts
  unfolding deliver part
  deliver_same b w place None = λ r l. refl
  deliver_same b w place (Some k) = one_same b w.parts k.event.router _ (ap (filter (is_below b)) (arrived_done net k (get_or w.parts k.event.router no_part)))

  roll_back_same : (b : Key) (w : World) (r : ℕ) → AllByRecursion (λ e. IsPast b e.key) (taken_off net (part w r)) → Same b w.parts (roll_back net w r (part w r)).parts
  unfolding roll_back part
  roll_back_same b w r a =
      let q = get_or w.parts r no_part in
      one_same b w.parts r _
      (ap (filter (is_below b)) (todo_done (taken_off net q) (record q { done = kept net q }))
      ∙ sym (append-nil (filter (is_below b) (kept net q)))
      ∙ ap (λ l. filter (is_below b) (kept net q) ++ l) (sym (none_below b (taken_off net q) a))
      ∙ sym (filter_append (is_below b) (kept net q) (taken_off net q))
      ∙ ap (filter (is_below b)) (until_since (is_wrong q) q.done))

  step_same : (w : World) (s : Step) → is_enabled net w s ≡ true → ((r : ℕ) → r < routers net → IsRising (part w r).done) → IsAllPast net w.boundary w → Same w.boundary w.parts (after net w s).parts
  unfolding after beacon inject part
  step_same w Beacon h up a = λ r l. ap (λ (p : Part). filter (is_below w.boundary) p.done) (get_ticked (suc w.floor) 0 w.parts r l) ∙ ap (filter (is_below w.boundary)) (todo_done _ (get_or w.parts r no_part))
  step_same w (Inject x) h up a = one_same w.boundary w.parts x.router _ (ap (filter (is_below w.boundary)) (todo_done (external (length w.accepted) x ∷ []) (get_or w.parts x.router no_part)))
  step_same w Close h up a = λ r l. refl
  step_same w (Deliver place) h up a = deliver_same w.boundary w place (slice_get w.flight place)
  step_same w (Handle r) h up a = handle_same w.boundary w r (part w r).todo refl (waits_at (λ e. IsPast w.boundary e.key) w r (from_waiting (λ e. IsPast w.boundary e.key) w a.waiting)).0
  step_same w (RollBack r) h up a = roll_back_same w.boundary w r (roll_back_past net w r h up a)
  step_same w Commit h up a = λ r l. refl

  -- below the boundary that the step leaves, and below the one before it
  older : (b c : Key) (e : Event) → IsPast b c → is_below b e ≡ true → is_below c e ≡ true
  unfolding is_below
  older b c e h k =
      by_test (is_lt (key_cmp e.key c)) (λ g. g)
      (λ g.
      let back : IsPast b e.key = past_trans b c e.key h g in
      absurd (let no : true ≡ false = sym k ∙ back in cc))

  rows_split : (b : Key) (w : World) → IsPast b w.boundary → sorted (joined (routers net) (λ r. below b (part w r).done)) ++ fresh_rows net b w ≡ settled_rows net w
  unfolding settled_rows sorted below fresh_rows
  rows_split b w h =
      let q = is_below b in
      let all = joined (routers net) (λ r. filter (is_below w.boundary) (part w r).done) in
      let up : IsRising (sort all) = rises_in_order event_cmp event_total all in
      let front : filter q (sort all) ≡ sort (joined (routers net) (λ r. filter q (part w r).done)) =
      filter_sort q all
      ∙ ap (λ es. sort es)
      (joined_filter q (routers net) (λ r. filter (is_below w.boundary) (part w r).done)
      ∙ joined_same (routers net) (λ r. filter q (filter (is_below w.boundary) (part w r).done)) (λ r. filter q (part w r).done) (λ r l. filter_inner q (is_below w.boundary) (part w r).done (λ e k. older b w.boundary e h k))) in
      let back : filter (λ e. not (q e)) (sort all) ≡ sort (joined (routers net) (λ r. filter (λ e. not (q e)) (filter (is_below w.boundary) (part w r).done))) =
      filter_sort (λ e. not (q e)) all ∙ ap (λ es. sort es) (joined_filter (λ e. not (q e)) (routers net) (λ r. filter (is_below w.boundary) (part w r).done)) in
      (λ i. sym front i ++ sym back i)
      ∙ filter_split q (λ _. true) (λ e. not (q e)) (sort all) (λ e k. (refl, ap not k)) (λ e k. ap not k)
      (pairs_weaker (λ _. Unit {0}) (λ x y. is_gt (event_cmp x y) ≡ false) (λ x y. q y ≡ true → q x ≡ true) (sort all) (λ x y u v k g. below_cut b x y k g) (all_of (sort all) (λ e. tt)) up)
      ∙ filter_all (λ _. true) (sort all) (all_of (sort all) (λ e. refl))

  deliver_boundary : (w : World) (place : ℕ) (o : Option Packet) → (deliver w place o).boundary ≡ w.boundary
  unfolding deliver
  deliver_boundary w place None = refl
  deliver_boundary w place (Some k) = refl

  handle_boundary : (w : World) (r : ℕ) (es : List Event) → (handle net w r (part w r) es).boundary ≡ w.boundary
  unfolding handle
  handle_boundary w r [] = refl
  handle_boundary w r (e ∷ es) = refl

  -- only Commit moves the boundary, and to the horizon
  boundary_on : (w : World) (s : Step) → IsPast w.boundary (horizon net.header w) → IsPast w.boundary (after net w s).boundary
  unfolding after beacon inject roll_back
  boundary_on w Beacon h = past_same w.boundary
  boundary_on w (Inject x) h = past_same w.boundary
  boundary_on w Close h = past_same w.boundary
  boundary_on w (Deliver place) h = delivered (slice_get w.flight place)
    where
      delivered : (o : Option Packet) → IsPast w.boundary (deliver w place o).boundary
      delivered o = subst (IsPast w.boundary) (sym (deliver_boundary w place o)) (past_same w.boundary)
  boundary_on w (Handle r) h = subst (IsPast w.boundary) (sym (handle_boundary w r (part w r).todo)) (past_same w.boundary)
  boundary_on w (RollBack r) h = past_same w.boundary
  boundary_on w Commit h = h

  module _ (w : World) (s : Step) (enabled : is_enabled net w s ≡ true) (counted : IsCounted net w) (past : IsAllPast net w.boundary w) where
    -- what was below the boundary before
    rows_before : sorted (joined (routers net) (λ r. below w.boundary (part (after net w s) r).done)) ≡ settled_rows net w
    unfolding settled_rows below part
    rows_before =
        ap sorted (joined_same (routers net) (λ r. filter (is_below w.boundary) (get_or (after net w s).parts r no_part).done) (λ r. filter (is_below w.boundary) (get_or w.parts r no_part).done)
        (λ r l. step_same w s enabled counted.rises past r (omega (arith, l, counted.count))))

    moves_on : IsPast w.boundary (after net w s).boundary
    moves_on = boundary_on w s (horizon_least net w.boundary w past)

    -- the rows after a step are those before it, and the fresh ones
    pub rows_grow : settled_rows net w ++ fresh_rows net w.boundary (after net w s) ≡ settled_rows net (after net w s)
    rows_grow = ap (λ l. l ++ fresh_rows net w.boundary (after net w s)) (sym rows_before) ∙ rows_split w.boundary (after net w s) moves_on

    -- where the boundary stays, so do the rows
    pub rows_stay : (after net w s).boundary ≡ w.boundary → settled_rows net (after net w s) ≡ settled_rows net w
    unfolding settled_rows
    rows_stay e = ap (λ b. sorted (joined (routers net) (λ r. below b (part (after net w s) r).done))) e ∙ rows_before

    pub committed_grow : IsPrefixOf (committed net w) (committed net (after net w s))
    unfolding committed
    committed_grow = take_on row_limit (settled_rows net w) (settled_rows net (after net w s)) (fresh_rows net w.boundary (after net w s)) rows_grow

    pub cut_stays : is_cut_off net w ≡ true → is_cut_off net (after net w s) ≡ true
    unfolding is_cut_off
    cut_stays h =
        let more = ltb-true row_limit (length (settled_rows net w)) h in
        let len : length (settled_rows net w ++ fresh_rows net w.boundary (after net w s)) ≡ length (settled_rows net (after net w s)) = ap length rows_grow in
        let sum = length-append (settled_rows net w) (fresh_rows net w.boundary (after net w s)) in
        lt-ltb row_limit (length (settled_rows net (after net w s))) (omega (arith, more, len, sum))

  -- ---- a quiet world

  -- in a quiet world only Commit is enabled
  pub only_commit : (w : World) (s : Step) → is_quiet w ≡ true → is_enabled net w s ≡ true → s ≡ Commit
  unfolding is_enabled is_ready
  only_commit w Beacon q h = absurd (closed_no w q (both_true (not w.closed) (nat_lt (suc w.floor) net.header.groups) h).0)
  only_commit w (Inject x) q h =
      absurd (closed_no w q (both_true (not w.closed) (x.group == w.floor) (both_true (not w.closed && (x.group == w.floor)) (nat_lt x.router (routers net)) (both_true (not w.closed && (x.group == w.floor) && nat_lt x.router (routers net)) (is_injectable net.header x.router x.input) h).0).0).0)
  only_commit w Close q h = absurd (closed_no w q (both_true (not w.closed) (suc w.floor == net.header.groups) h).0)
  only_commit w (Deliver place) q h =
      let none : length w.flight ≡ 0 = ap length (quiet_parts w q).1 in
      absurd (let l = ltb-true place (length w.flight) h in omega (arith, l, none))
  only_commit w (Handle r) q h =
      let ready = (both_true (nat_lt r (routers net)) (is_ready (part w r)) h).1 in
      let some = (both_true (not (is_behind (part w r))) (not (is_empty (part w r).todo)) ready).1 in
      absurd (let no : not (is_empty (part w r).todo) ≡ false = ap (λ es. not (is_empty es)) (calm_part w r q).0 in let z : true ≡ false = sym some ∙ no in cc)
  only_commit w (RollBack r) q h =
      absurd (let z : true ≡ false = sym (both_true (nat_lt r (routers net)) (is_behind (part w r)) h).1 ∙ (calm_part w r q).1 in cc)
  only_commit w Commit q h = refl

  commit_same : (w : World) → horizon net.header w ≡ w.boundary → after net w Commit ≡ w
  unfolding after
  commit_same w e = λ i. record w { boundary = e i }

  -- a quiet world with the boundary at the horizon stays as it is
  pub ended_stays : (w : World) (s : Step) → is_quiet w ≡ true → w.boundary ≡ horizon net.header w → is_enabled net w s ≡ true → after net w s ≡ w
  ended_stays w s q e h = ap (after net w) (only_commit w s q h) ∙ commit_same w (sym e)
