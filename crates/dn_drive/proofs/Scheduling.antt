-- What a turn chooses is allowed, and what the schedule is after it.
use Rattle.std.proofs.Common.{◌≡◌, ℕ, zero, suc, ◌+◌, ◌%◌, ◌<◌, ◌≤◌, Bool, true, false, not, ◌&&◌, nat_lt, List, [], ◌∷◌, ◌++◌, length, map, get_or, refl, sym, ap, ◌∙◌, subst, arith, append_assoc, append-nil, ⊎_elim}
use Rattle.std.specs.Prelude.{◌==◌, Some, slice_get, if◌then◌else◌}
use Rattle.std.specs.Option.{option_map_or}
use Rattle.std.specs.List.{AllByRecursion}
use Rattle.std.specs.Ordering.{is_eq}
use Rattle.std.proofs.lemmas.Bool.{cases_Bool, lt-ltb, ltb-true, ltb-false, eq-eqb, eqb-false}
use Rattle.std.proofs.lemmas.Cmp.{tied_itself}
use Rattle.dn_guest.specs.Meaning.{Meaning}
use Rattle.dn_guest.specs.InputOrder.{input_cmp, input_total}
use Rattle.dn_model.specs.declared.feed.External.{External}
use Rattle.dn_model.specs.Cases.{Heading, AreExternals}
use Rattle.dn_model.specs.Network.{Network, routers}
use Rattle.dn_world.specs.declared.step.Step.{Step}
use Rattle.dn_world.specs.declared.step.Step.TheVariants.{Beacon, Inject, Close, Deliver, Handle, RollBack, Commit}
use Rattle.dn_world.specs.World.{Part, World, opening, no_part, part, is_behind, is_ready, is_empty}
use Rattle.dn_world.specs.Steps.{after}
use Rattle.dn_world.specs.Runs.{is_cut_off}
use Rattle.dn_fabric.specs.Fabrics.{Fabric, IsNetworkOf, stepped}
use Rattle.dn_fabric.specs.Work.{can_commit}
use Rattle.dn_drive.specs.Allowed.{is_same_external, starts_later, rest_after, is_allowed_here, is_allowed}
use Rattle.dn_drive.specs.Choices.{choices, commit_steps, drawn, feed_steps, next_group, numbers, open_feed, passing, schedule}
use Rattle.dn_fabric.specs.Driven.{IsOpening}
use Rattle.dn_drive.proofs.Allowing.{allowed_is, both_from}
use Rattle.dn_drive.proofs.Following.{if_true, if_false}
use Rattle.dn_drive.proofs.Going.{Goes, InputsApart}

-- ---- what is chosen is allowed

pub same_itself : (x : External) → is_same_external x x ≡ true
same_itself x =
    both_from ((x.group == x.group) && (x.router == x.router)) (is_eq (input_cmp x.input x.input))
    (both_from (x.group == x.group) (x.router == x.router) (eq-eqb x.group x.group refl) (eq-eqb x.router x.router refl))
    (ap is_eq (tied_itself input_total x.input))

element : {X : Type 0} (P : X → Type 0) (xs : List X) (i : ℕ) (x : X) → AllByRecursion P xs → slice_get xs i ≡ Some x → P x
element P [] i x a e = absurd (cc)
element P (y ∷ ys) zero x a e = let same : y ≡ x = cc in subst P same a.0
element P (y ∷ ys) (suc i) x a e = element P ys i x a.1 e

module _ (P : Step → Type 0) where
  all_numbers : (r n : ℕ) → ((i : ℕ) → i < r + n → P (Deliver i)) → AllByRecursion P (map Deliver (numbers r n))
  unfolding numbers
  all_numbers r zero f = tt
  all_numbers r (suc n) f = (f r (omega arith), all_numbers (suc r) n (λ i l. f i (omega arith)))

  all_together : (ss ts : List Step) → AllByRecursion P ss → AllByRecursion P ts → AllByRecursion P (ss ++ ts)
  all_together [] ts a b = b
  all_together (s ∷ ss) ts a b = (a.0, all_together ss ts a.1 b)

  all_if : (g : ℕ → Step) (r : ℕ) (ns : List ℕ) (b : Bool) → (b ≡ true → P (g r)) → AllByRecursion P (map g ns) → AllByRecursion P (map g (if b then r ∷ ns else ns))
  all_if g r ns true f a = (f refl, a)
  all_if g r ns false f a = a

  all_passing : (g : ℕ → Step) (q : Part → Bool) (r : ℕ) (ps : List Part) → ((i : ℕ) → i < length ps → q (get_or ps i no_part) ≡ true → P (g (r + i))) → AllByRecursion P (map g (passing q r ps))
  unfolding passing
  all_passing g q r [] f = tt
  all_passing g q r (p ∷ ps) f =
      let here : r + 0 ≡ r = omega arith in
      let next : (i : ℕ) → i < length ps → q (get_or ps i no_part) ≡ true → P (g (suc r + i)) = λ i l t.
      let at : r + suc i ≡ suc r + i = omega arith in
      subst (λ n. P (g n)) at (f (suc i) (omega arith) t) in
      all_if g r (passing q (suc r) ps) (q p) (λ e. subst (λ n. P (g n)) here (f 0 (omega arith) e)) (all_passing g q (suc r) ps next)

module _ (h : Heading) (w : World) where
  abbrev May : List External → Step → Type 0
  May xs s = is_allowed_here h w xs s ≡ true

  open_so : w.closed ≡ false → not w.closed ≡ true
  open_so c = ap not c

  -- where no group is left, the last has begun
  beacon_or_close : (xs : List External) → w.closed ≡ false → w.floor < h.groups → (suc w.floor < h.groups → starts_later w.floor xs ≡ true) → (h.groups ≤ suc w.floor → is_empty xs ≡ true) → May xs (next_group h w)
  beacon_or_close xs c fl later none =
      ⊎_elim
      (λ t.
      let lt : suc w.floor < h.groups = ltb-true (suc w.floor) h.groups t in
      subst (May xs) (sym (if_true (nat_lt (suc w.floor) h.groups) Beacon Close t))
      (both_from (not w.closed && nat_lt (suc w.floor) h.groups) (starts_later w.floor xs) (both_from (not w.closed) (nat_lt (suc w.floor) h.groups) (open_so c) t) (later lt)))
      (λ t.
      let le : h.groups ≤ suc w.floor = ltb-false (suc w.floor) h.groups t in
      subst (May xs) (sym (if_false (nat_lt (suc w.floor) h.groups) Beacon Close t))
      (both_from (not w.closed && (suc w.floor == h.groups)) (is_empty xs) (both_from (not w.closed) (suc w.floor == h.groups) (open_so c) (eq-eqb (suc w.floor) h.groups (omega arith))) (none le)))
      (cases_Bool (nat_lt (suc w.floor) h.groups))

  feed_may : (xs : List External) → w.closed ≡ false → w.floor < h.groups → AreExternals h w.floor xs → May xs (open_feed h w xs)
  feed_may [] c fl a = beacon_or_close [] c fl (λ _. refl) (λ _. refl)
  feed_may (x ∷ xs) c fl a =
      ⊎_elim
      (λ t.
      subst (May (x ∷ xs)) (sym (if_true (x.group == w.floor) (Inject x) (next_group h w) t))
      (both_from (not w.closed && (x.group == w.floor)) (is_same_external x x) (both_from (not w.closed) (x.group == w.floor) (open_so c) t) (same_itself x)))
      (λ t.
      let ne : x.group ≡ w.floor → ⊥ = eqb-false x.group w.floor t in
      let rises : w.floor ≤ x.group = a.0.rises in
      let below : x.group < h.groups = a.0.group in
      let later : w.floor < x.group = omega arith in
      subst (May (x ∷ xs)) (sym (if_false (x.group == w.floor) (Inject x) (next_group h w) t))
      (beacon_or_close (x ∷ xs) c fl (λ _. lt-ltb w.floor x.group later) (λ l. absurd (omega (arith, l, later, below)))))
      (cases_Bool (x.group == w.floor))

  all_feed : (xs : List External) (b : Bool) → (b ≡ false → May xs (open_feed h w xs)) → AllByRecursion (May xs) (if b then [] else open_feed h w xs ∷ [])
  all_feed xs true f = tt
  all_feed xs false f = (f refl, tt)

  all_commit : (xs : List External) (b : Bool) → AllByRecursion (May xs) (if b then Commit ∷ [] else [])
  all_commit xs true = (refl, tt)
  all_commit xs false = tt

  all_may : (xs : List External) → length w.parts ≡ length h.routers → w.floor < h.groups → AreExternals h w.floor xs → AllByRecursion (May xs) (choices h w xs)
  unfolding choices feed_steps commit_steps part
  all_may xs e fl a =
      let router : (q : Part → Bool) (i : ℕ) → i < length w.parts → q (get_or w.parts i no_part) ≡ true → (nat_lt (0 + i) (length h.routers) && q (get_or w.parts (0 + i) no_part)) ≡ true = λ q i l t.
      let zero_more : i ≡ 0 + i = omega arith in
      subst (λ n. (nat_lt n (length h.routers) && q (get_or w.parts n no_part)) ≡ true) zero_more
      (both_from (nat_lt i (length h.routers)) (q (get_or w.parts i no_part)) (lt-ltb i (length h.routers) (omega (arith, e, l))) t) in
      all_together (May xs) (feed_steps h w xs) _ (all_feed xs w.closed (λ c. feed_may xs c fl a))
      (all_together (May xs) (map Deliver (numbers 0 (length w.flight))) _ (all_numbers (May xs) 0 (length w.flight) (λ i l. lt-ltb i (length w.flight) (omega (arith, l))))
      (all_together (May xs) (map RollBack (passing is_behind 0 w.parts)) _ (all_passing (May xs) RollBack is_behind 0 w.parts (router is_behind))
      (all_together (May xs) (map Handle (passing is_ready 0 w.parts)) _ (all_passing (May xs) Handle is_ready 0 w.parts (router is_ready))
      (all_commit xs (can_commit h w)))))

-- ---- the schedule, one step after another

module _ {S : Type 0} (net : Network S) where
  pub chosen_allowed : InputsApart → (h : Heading) (w : World) (xs : List External) (feed : List External) (i : ℕ) (s : Step) → net.header ≡ h → length w.parts ≡ length h.routers → Goes net.header feed w xs → slice_get (choices h w xs) i ≡ Some s → is_allowed net w xs s ≡ true
  chosen_allowed apart h w xs feed i s e parts g at =
      sym (allowed_is apart net w xs s g.rules)
      ∙ ap (λ k. is_allowed_here k w xs s) e
      ∙ element (λ s. is_allowed_here h w xs s ≡ true) (choices h w xs) i s
      (all_may h w xs parts (subst (λ (k : Heading). w.floor < k.groups) e g.floor) (subst (λ k. AreExternals k w.floor xs) e g.rules)) at

  none_chosen : (all : List Step) (i : ℕ) → length all ≡ 0 → (f : Step → List Step) → option_map_or f (slice_get all i) [] ≡ []
  none_chosen [] i e f = refl
  none_chosen (x ∷ xs) i e f = absurd (omega arith)

  schedule_none : (w : World) (xs : List External) (h n : ℕ) → length (choices net.header w xs) ≡ 0 → schedule net w xs h n ≡ []
  unfolding schedule
  schedule_none w xs h zero e = refl
  schedule_none w xs h (suc n) e = none_chosen (choices net.header w xs) _ e _

  pub schedule_zero : (w : World) (xs : List External) (h n : ℕ) → n ≡ 0 → schedule net w xs h n ≡ []
  unfolding schedule
  schedule_zero w xs h zero e = refl
  schedule_zero w xs h (suc n) e = absurd (omega arith)

  pub schedule_on : (w : World) (xs : List External) (h n m : ℕ) (s : Step) → n ≡ suc m → slice_get (choices net.header w xs) (drawn h % length (choices net.header w xs)) ≡ Some s → schedule net w xs h n ≡ s ∷ (if is_cut_off net (after net w s) then [] else schedule net (after net w s) (rest_after xs s) (drawn h) m)
  unfolding schedule
  schedule_on w xs h n m s e at =
      ap (schedule net w xs h) e
      ∙ ap (λ o. option_map_or (λ s. s ∷ (if is_cut_off net (after net w s) then [] else schedule net (after net w s) (rest_after xs s) (drawn h) m)) o []) at

  module _ (total : List Step) (f : Fabric S) (xs : List External) (h n : ℕ) (t : total ≡ f.journal ++ schedule net f.live.world xs h n) where
    pub nothing_left : length (choices net.header f.live.world xs) ≡ 0 → total ≡ f.journal
    nothing_left e = t ∙ ap (λ l. f.journal ++ l) (schedule_none f.live.world xs h n e) ∙ append-nil f.journal

    pub no_turn_left : n ≡ 0 → total ≡ f.journal
    no_turn_left e = t ∙ ap (λ l. f.journal ++ l) (schedule_zero f.live.world xs h n e) ∙ append-nil f.journal

    pub turn_cut : (now : Fabric S) (m : ℕ) (s : Step) → n ≡ suc m → slice_get (choices net.header f.live.world xs) (drawn h % length (choices net.header f.live.world xs)) ≡ Some s → now ≡ stepped net f s → now.live.cut ≡ true → total ≡ f.journal ++ s ∷ []
    turn_cut now m s e at is c =
        let cut : is_cut_off net (after net f.live.world s) ≡ true = ap (λ (k : Fabric S). k.live.cut) (sym is) ∙ c in
        t ∙ ap (λ l. f.journal ++ l) (schedule_on f.live.world xs h n m s e at ∙ ap (λ l. s ∷ l) (if_true (is_cut_off net (after net f.live.world s)) _ _ cut))

    pub turn_on : (now : Fabric S) (m : ℕ) (s : Step) → n ≡ suc m → slice_get (choices net.header f.live.world xs) (drawn h % length (choices net.header f.live.world xs)) ≡ Some s → now ≡ stepped net f s → now.live.cut ≡ false → total ≡ now.journal ++ schedule net now.live.world (rest_after xs s) (drawn h) m
    turn_on now m s e at is c =
        let cut : is_cut_off net (after net f.live.world s) ≡ false = ap (λ (k : Fabric S). k.live.cut) (sym is) ∙ c in
        let more : total ≡ (f.journal ++ s ∷ []) ++ schedule net (after net f.live.world s) (rest_after xs s) (drawn h) m =
        t ∙ ap (λ l. f.journal ++ l) (schedule_on f.live.world xs h n m s e at ∙ ap (λ l. s ∷ l) (if_false (is_cut_off net (after net f.live.world s)) _ _ cut))
        ∙ sym (append_assoc f.journal (s ∷ []) (schedule net (after net f.live.world s) (rest_after xs s) (drawn h) m)) in
        subst (λ (k : Fabric S). total ≡ k.journal ++ schedule net k.live.world (rest_after xs s) (drawn h) m) (sym is) more

-- before the first turn all of the schedule is left
pub schedule_first : {S : Type 0} (net : Network S) (m : Meaning S) (f : Fabric S) (feed : List External) (h n k : ℕ) → IsOpening f → IsNetworkOf net m f.live.header f.live.openings → n ≡ k → schedule net (opening (routers net)) feed h n ≡ f.journal ++ schedule net f.live.world feed h k
unfolding routers
schedule_first {S = S} net m f feed h n k o is e =
    let world : opening (length net.header.routers) ≡ f.live.world = ap (λ (g : Heading). opening (length g.routers)) is.header ∙ sym (ap (λ (g : Fabric S). g.live.world) o.is) in
    let journal : [] ≡ f.journal = sym (ap (λ (g : Fabric S). g.journal) o.is) in
    (λ i. schedule net (world i) feed h (e i)) ∙ ap (λ j. j ++ schedule net f.live.world feed h k) journal

-- what was drawn, in the network's own header
pub drawn_choice : (h g : Heading) (w : World) (xs : List External) (last now place count : ℕ) (s : Step) → h ≡ g → now ≡ drawn last → count ≡ length (choices g w xs) → place ≡ now % count → slice_get (choices g w xs) place ≡ Some s → slice_get (choices h w xs) (drawn last % length (choices h w xs)) ≡ Some s
drawn_choice h g w xs last now place count s e n c p at =
    let whole : place ≡ drawn last % length (choices g w xs) = p ∙ (λ i. n i % c i) in
    subst (λ k. slice_get (choices k w xs) (drawn last % length (choices k w xs)) ≡ Some s) (sym e) (ap (slice_get (choices g w xs)) (sym whole) ∙ at)
