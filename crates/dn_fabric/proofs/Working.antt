-- What there is to do, found router by router.
use Rattle.std.proofs.Common.{◌≡◌, ℕ, zero, suc, ◌+◌, ◌<◌, ◌≤◌, Bool, true, false, not, ◌&&◌, List, [], ◌∷◌, length, get_or, drop, map, refl, sym, ap, ◌∙◌, arith}
use Rattle.std.specs.Prelude.{Option, Some, None, if◌then◌else◌}
use Rattle.std.specs.Ordering.{is_gt}
use Rattle.dn_model.specs.declared.event.Event.{Event}
use Rattle.dn_model.specs.Order.{key_cmp}
use Rattle.dn_world.specs.declared.packet.Packet.{Packet}
use Rattle.dn_world.specs.World.{Part, World, is_behind, is_ready, is_empty, are_quiet, is_quiet, horizon}
use Rattle.dn_router.specs.Routers.{Speculation}
use Rattle.dn_fabric.specs.declared.asking.Asked.{Asked}
use Rattle.dn_fabric.specs.declared.asking.Asked.TheVariants as asked
use Rattle.dn_fabric.specs.declared.work.Work.{Work}
use Rattle.dn_fabric.specs.declared.work.Work.TheVariants.{Deliver, RollBack, Handle, Commit, Nothing, Ended}
use Rattle.dn_fabric.specs.Fabrics.{Fabric}
use Rattle.dn_fabric.specs.Rosters.{asked_of, asked_by}
use Rattle.dn_fabric.specs.Work.{first_behind, earlier_of, least_ready, can_commit, committing, handling, rolling_back, delivering, next_work}

-- a list from a place on
dropped : {X : Type 0} (xs : List X) (i : ℕ) (x : X) → i < length xs → x ≡ get_or xs i x → drop i xs ≡ x ∷ drop (i + 1) xs
dropped [] i x l e = absurd (omega (arith, l))
dropped (y ∷ ys) zero x l e = λ k. sym e k ∷ ys
dropped (y ∷ ys) (suc i) x l e =
    dropped ys i x (omega (arith, l)) e ∙ ap (λ n. x ∷ drop n (y ∷ ys)) (let more : suc (i + 1) ≡ suc i + 1 = omega arith in more)

dropped_all : {X : Type 0} (xs : List X) (i : ℕ) → length xs ≤ i → drop i xs ≡ []
dropped_all [] zero l = refl
dropped_all [] (suc i) l = refl
dropped_all (x ∷ xs) zero l = absurd (omega (arith, l))
dropped_all (x ∷ xs) (suc i) l = dropped_all xs i (omega (arith, l))

none_quiet : are_quiet [] ≡ true
unfolding are_quiet
none_quiet = refl

none_behind : (i : ℕ) → first_behind i [] ≡ None
unfolding first_behind
none_behind i = refl

none_ready : (i : ℕ) (leased : List Bool) (found : Option (ℕ × Event)) → least_ready i [] leased found ≡ found
unfolding least_ready
none_ready i leased found = refl

module _ {S : Type 0} where
  abbrev pub parts_of : List (Speculation S) → List Part
  parts_of rs = map (λ r. r.part) rs

  -- ---- quiet

  abbrev pub IsQuietFrom : List (Speculation S) → ℕ → Type 0
  IsQuietFrom rs i = are_quiet (parts_of (drop i rs)) ≡ are_quiet (parts_of rs)

  quiet_at : (rs : List (Speculation S)) (i : ℕ) (x : Speculation S) → i < length rs → x ≡ get_or rs i x → are_quiet (parts_of (drop i rs)) ≡ ((is_empty x.part.todo && not (is_behind x.part)) && are_quiet (parts_of (drop (i + 1) rs)))
  unfolding are_quiet
  quiet_at rs i x l e = ap (λ ys. are_quiet (parts_of ys)) (dropped rs i x l e)

  pub quiet_not : (rs : List (Speculation S)) (i : ℕ) (x : Speculation S) (calm : Bool) → i < length rs → x ≡ get_or rs i x → calm ≡ (is_empty x.part.todo && not (is_behind x.part)) → calm ≡ false → IsQuietFrom rs i → false ≡ are_quiet (parts_of rs)
  quiet_not rs i x calm l e is fails from =
      ap (λ b. b && are_quiet (parts_of (drop (i + 1) rs))) (sym fails ∙ is) ∙ sym (quiet_at rs i x l e) ∙ from

  pub quiet_more : (rs : List (Speculation S)) (i : ℕ) (x : Speculation S) (calm : Bool) → i < length rs → x ≡ get_or rs i x → calm ≡ (is_empty x.part.todo && not (is_behind x.part)) → calm ≡ true → IsQuietFrom rs i → IsQuietFrom rs (i + 1)
  quiet_more rs i x calm l e is holds from =
      ap (λ b. b && are_quiet (parts_of (drop (i + 1) rs))) (sym holds ∙ is) ∙ sym (quiet_at rs i x l e) ∙ from

  pub quiet_first : (rs : List (Speculation S)) → IsQuietFrom rs 0
  quiet_first rs = refl

  pub quiet_all : (rs : List (Speculation S)) (i : ℕ) → length rs ≤ i → IsQuietFrom rs i → true ≡ are_quiet (parts_of rs)
  quiet_all rs i l from = sym none_quiet ∙ ap (λ ys. are_quiet (parts_of ys)) (sym (dropped_all rs i l)) ∙ from

  -- ---- behind

  abbrev pub IsBehindFrom : List (Speculation S) → ℕ → Type 0
  IsBehindFrom rs i = first_behind i (parts_of (drop i rs)) ≡ first_behind 0 (parts_of rs)

  behind_at : (rs : List (Speculation S)) (i : ℕ) (x : Speculation S) → i < length rs → x ≡ get_or rs i x → first_behind i (parts_of (drop i rs)) ≡ (if is_behind x.part then Some i else first_behind (i + 1) (parts_of (drop (i + 1) rs)))
  unfolding first_behind
  behind_at rs i x l e =
      ap (λ ys. first_behind i (parts_of ys)) (dropped rs i x l e)
      ∙ ap (λ n. if is_behind x.part then Some i else first_behind n (parts_of (drop (i + 1) rs))) (let more : suc i ≡ i + 1 = omega arith in more)

  pub behind_found : (rs : List (Speculation S)) (i : ℕ) (x : Speculation S) (behind : Bool) → i < length rs → x ≡ get_or rs i x → behind ≡ is_behind x.part → behind ≡ true → IsBehindFrom rs i → Some i ≡ first_behind 0 (parts_of rs)
  behind_found rs i x behind l e is holds from =
      ap (λ b. if b then Some i else first_behind (i + 1) (parts_of (drop (i + 1) rs))) (sym holds ∙ is) ∙ sym (behind_at rs i x l e) ∙ from

  pub behind_more : (rs : List (Speculation S)) (i : ℕ) (x : Speculation S) (behind : Bool) → i < length rs → x ≡ get_or rs i x → behind ≡ is_behind x.part → behind ≡ false → IsBehindFrom rs i → IsBehindFrom rs (i + 1)
  behind_more rs i x behind l e is fails from =
      ap (λ b. if b then Some i else first_behind (i + 1) (parts_of (drop (i + 1) rs))) (sym fails ∙ is) ∙ sym (behind_at rs i x l e) ∙ from

  pub behind_none : (rs : List (Speculation S)) (i : ℕ) → length rs ≤ i → IsBehindFrom rs i → None ≡ first_behind 0 (parts_of rs)
  behind_none rs i l from = sym (none_behind i) ∙ ap (λ ys. first_behind i (parts_of ys)) (sym (dropped_all rs i l)) ∙ from

  -- ---- ready

  abbrev pub IsReadyFrom : List (Speculation S) → List Bool → ℕ → Option (ℕ × Event) → Type 0
  IsReadyFrom rs leased i found = least_ready i (parts_of (drop i rs)) leased found ≡ least_ready 0 (parts_of rs) leased None

  ready_at : (rs : List (Speculation S)) (leased : List Bool) (i : ℕ) (x : Speculation S) (found : Option (ℕ × Event)) → i < length rs → x ≡ get_or rs i x → least_ready i (parts_of (drop i rs)) leased found ≡ least_ready (i + 1) (parts_of (drop (i + 1) rs)) leased (if is_ready x.part && not (get_or leased i false) then earlier_of i x.part.todo found else found)
  unfolding least_ready
  ready_at rs leased i x found l e =
      ap (λ ys. least_ready i (parts_of ys) leased found) (dropped rs i x l e)
      ∙ ap (λ n. least_ready n (parts_of (drop (i + 1) rs)) leased (if is_ready x.part && not (get_or leased i false) then earlier_of i x.part.todo found else found)) (let more : suc i ≡ i + 1 = omega arith in more)

  pub ready_more : (rs : List (Speculation S)) (leased : List Bool) (i : ℕ) (x : Speculation S) (found next : Option (ℕ × Event)) → i < length rs → x ≡ get_or rs i x → next ≡ (if is_ready x.part && not (get_or leased i false) then earlier_of i x.part.todo found else found) → IsReadyFrom rs leased i found → IsReadyFrom rs leased (i + 1) next
  ready_more rs leased i x found next l e is from =
      ap (least_ready (i + 1) (parts_of (drop (i + 1) rs)) leased) is ∙ sym (ready_at rs leased i x found l e) ∙ from

  pub ready_all : (rs : List (Speculation S)) (leased : List Bool) (i : ℕ) (found : Option (ℕ × Event)) → length rs ≤ i → IsReadyFrom rs leased i found → found ≡ least_ready 0 (parts_of rs) leased None
  ready_all rs leased i found l from = sym (none_ready i leased found) ∙ ap (λ ys. least_ready i (parts_of ys) leased found) (sym (dropped_all rs i l)) ∙ from

-- ---- a quiet world

pub unclosed_not : (w : World) → w.closed ≡ false → false ≡ is_quiet w
unfolding is_quiet
unclosed_not w e = ap (λ b. b && is_empty w.flight && are_quiet w.parts) (sym e)

empty_not : (ks : List Packet) → 0 < length ks → is_empty ks ≡ false
empty_not [] l = absurd (omega (arith, l))
empty_not (k ∷ ks) l = refl

empty_is : (ks : List Packet) → length ks ≤ 0 → is_empty ks ≡ true
empty_is [] l = refl
empty_is (k ∷ ks) l = absurd (omega (arith, l))

pub flying_not : (w : World) → w.closed ≡ true → 0 < length w.flight → false ≡ is_quiet w
unfolding is_quiet
flying_not w e l = sym (λ i. e i && empty_not w.flight l i && are_quiet w.parts)

pub quiet_is : (w : World) (b : Bool) → w.closed ≡ true → length w.flight ≤ 0 → b ≡ are_quiet w.parts → b ≡ is_quiet w
unfolding is_quiet
quiet_is w b e l is = is ∙ sym (λ i. e i && empty_is w.flight l i && are_quiet w.parts)

-- ---- what there is to do

none_flies : (ks : List Packet) → length ks ≤ 0 → ks ≡ []
none_flies [] l = refl
none_flies (k ∷ ks) l = absurd (omega (arith, l))

module _ {S : Type 0} (f : Fabric S) where
  some_fly : (ks : List Packet) → 0 < length ks → Deliver 0 ≡ delivering f ks
  some_fly [] l = absurd (omega (arith, l))
  some_fly (k ∷ ks) l = refl

  pub to_deliver : 0 < length f.live.world.flight → Deliver 0 ≡ next_work f
  unfolding next_work
  to_deliver l = some_fly f.live.world.flight l

  module _ (calm : length f.live.world.flight ≤ 0) where
    not_flying : rolling_back f (first_behind 0 f.live.world.parts) ≡ next_work f
    unfolding next_work
    not_flying = ap (delivering f) (sym (none_flies f.live.world.flight calm))

    -- what the routers ask for first, or else what there is when they ask for nothing
    abbrev pub answered : Asked → Work
    answered (asked.RollBack r) = RollBack r
    answered (asked.Handle r) = Handle r
    answered asked.Nothing = committing f

    asked_ready : (o : Option (ℕ × Event)) → answered (asked_of None o) ≡ handling f o
    asked_ready None = refl
    asked_ready (Some found) = refl

    asked_first : (b : Option ℕ) → answered (asked_of b (least_ready 0 f.live.world.parts f.leased None)) ≡ rolling_back f b
    asked_first None = asked_ready (least_ready 0 f.live.world.parts f.leased None)
    asked_first (Some r) = refl

    pub to_answer : (a : Asked) → a ≡ asked_by f.live.world.parts f.leased → answered a ≡ next_work f
    to_answer a e = ap answered e ∙ asked_first (first_behind 0 f.live.world.parts) ∙ not_flying

  commits : (b : Bool) → b ≡ is_gt (key_cmp (horizon f.live.header f.live.world) f.live.world.boundary) → (if b then Commit else (if is_quiet f.live.world then Ended else Nothing)) ≡ committing f
  unfolding committing can_commit
  commits b e = ap (λ x. if x then Commit else (if is_quiet f.live.world then Ended else Nothing)) e

  pub to_commit : (b : Bool) → b ≡ is_gt (key_cmp (horizon f.live.header f.live.world) f.live.world.boundary) → b ≡ true → Commit ≡ committing f
  to_commit b e holds = ap (λ x. if x then Commit else (if is_quiet f.live.world then Ended else Nothing)) (sym holds) ∙ commits b e

  pub to_end : (b q : Bool) → b ≡ is_gt (key_cmp (horizon f.live.header f.live.world) f.live.world.boundary) → b ≡ false → q ≡ is_quiet f.live.world → (if q then Ended else Nothing) ≡ committing f
  to_end b q e fails quiet =
      ap (λ x. if x then Ended else Nothing) quiet
      ∙ ap (λ x. if x then Commit else (if is_quiet f.live.world then Ended else Nothing)) (sym fails) ∙ commits b e
