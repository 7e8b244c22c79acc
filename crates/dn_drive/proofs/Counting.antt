-- How many steps there are to choose from, and where each kind stands.
use Rattle.std.proofs.Common.{◌≡◌, ℕ, zero, suc, ◌+◌, ◌<◌, ◌≤◌, Bool, true, false, Some, List, [], ◌∷◌, ◌++◌, length, map, get_or, drop, refl, sym, ap, ◌∙◌, subst, arith, length-append}
use Rattle.std.specs.Prelude.{None, slice_get, option_map, if◌then◌else◌}
use Rattle.std.specs.Int.{from_bool}
use Rattle.std.proofs.lemmas.Option.{slice_get_past, slice_get-get_or, slice_get-map}
use Rattle.std.proofs.Math.Seq.{drop-cons}
use Rattle.std.proofs.Math.ListN.{drop_of_length-le}
use Rattle.std.proofs.lemmas.List.{length-map}
use Rattle.dn_model.specs.declared.feed.External.{External}
use Rattle.dn_model.specs.Cases.{Heading}
use Rattle.dn_world.specs.declared.step.Step.{Step}
use Rattle.dn_world.specs.declared.step.Step.TheVariants.{Deliver, Handle, RollBack, Commit}
use Rattle.dn_world.specs.World.{Part, World, part, no_part, is_behind, is_ready}
use Rattle.dn_fabric.specs.Work.{can_commit}
use Rattle.dn_drive.specs.declared.choices.Counts.{Counts}
use Rattle.dn_drive.specs.Choices.{choices, commit_steps, feed_steps, numbers, open_feed, passing}
use Rattle.dn_drive.specs.Counting.{AreCounts}
use Rattle.dn_drive.proofs.Following.{if_true, if_false}

pub length_numbers : (r n : ℕ) → length (numbers r n) ≡ n
unfolding numbers
length_numbers r zero = refl
length_numbers r (suc n) = ap suc (length_numbers (suc r) n)

pub get_number : (r n i : ℕ) → i < n → slice_get (numbers r n) i ≡ Some (r + i)
unfolding numbers
get_number r zero i l = absurd (omega arith)
get_number r (suc n) zero l = ap Some (omega arith)
get_number r (suc n) (suc i) l = get_number (suc r) n i (omega arith) ∙ ap Some (omega arith)

-- the numbers from r on, in one step
pub passing_from : (q : Part → Bool) (r : ℕ) (ps : List Part) → r < length ps → passing q r (drop r ps) ≡ (if q (get_or ps r no_part) then r ∷ passing q (suc r) (drop (suc r) ps) else passing q (suc r) (drop (suc r) ps))
unfolding passing
passing_from q r ps l = ap (passing q r) (drop-cons ps r no_part l)

-- the first of two lists, and the second
pub get_first : {X : Type 0} (xs ys : List X) (i : ℕ) → i < length xs → slice_get (xs ++ ys) i ≡ slice_get xs i
get_first [] ys i l = absurd (omega arith)
get_first (x ∷ xs) ys zero l = refl
get_first (x ∷ xs) ys (suc i) l = get_first xs ys i (omega arith)

pub get_second : {X : Type 0} (xs ys : List X) (i j : ℕ) → j ≡ length xs + i → slice_get (xs ++ ys) j ≡ slice_get ys i
get_second [] ys i j e = ap (slice_get ys) (omega arith)
get_second (x ∷ xs) ys i zero e = absurd (omega arith)
get_second (x ∷ xs) ys i (suc j) e = get_second xs ys i j (omega arith)

count_passing : (q : Part → Bool) (r : ℕ) (ps : List Part) → r < length ps → length (passing q r (drop r ps)) ≡ (if q (get_or ps r no_part) then 1 else 0) + length (passing q (suc r) (drop (suc r) ps))
count_passing q r ps l = ap length (passing_from q r ps l) ∙ split (q (get_or ps r no_part))
  where
    split : (b : Bool) → length (if b then r ∷ passing q (suc r) (drop (suc r) ps) else passing q (suc r) (drop (suc r) ps)) ≡ (if b then 1 else 0) + length (passing q (suc r) (drop (suc r) ps))
    split true = omega arith
    split false = omega arith

byte : (b : Bool) → from_bool b ≡ (if b then 1 else 0)
byte true = refl
byte false = refl

-- one router more is counted
pub counted_on : (q : Part → Bool) (w : World) (r n k total : ℕ) (b : Bool) → r < length w.parts → b ≡ q (part w r) → k ≡ from_bool b → n + length (passing q r (drop r w.parts)) ≡ total → n + k + length (passing q (r + 1) (drop (r + 1) w.parts)) ≡ total
unfolding part
counted_on q w r n k total b l tested one e =
    let c = count_passing q r w.parts l in
    let s : length (passing q (suc r) (drop (suc r) w.parts)) ≡ length (passing q (r + 1) (drop (r + 1) w.parts)) = ap (λ m. length (passing q m (drop m w.parts))) (omega arith) in
    let d : k ≡ (if q (get_or w.parts r no_part) then 1 else 0) = one ∙ ap from_bool tested ∙ byte (q (get_or w.parts r no_part)) in
    omega (arith, c, s, d, e)

pub at_most_one : (b : Bool) → from_bool b ≤ 1
at_most_one true = omega arith
at_most_one false = omega arith

-- all of them are
pub counted_all : (q : Part → Bool) (r : ℕ) (ps : List Part) → length ps ≤ r → length (passing q r (drop r ps)) ≡ 0
unfolding passing
counted_all q r ps l = ap (λ l. length (passing q r l)) (drop_of_length-le ps l)

-- the router that is looked for

pub found_here : (q : Part → Bool) (w : World) (r : ℕ) → r < length w.parts → q (part w r) ≡ true → slice_get (passing q r (drop r w.parts)) 0 ≡ Some r
unfolding part
found_here q w r l t = ap (λ ns. slice_get ns 0) (passing_from q r w.parts l ∙ if_true (q (get_or w.parts r no_part)) _ _ t)

pub found_later : (q : Part → Bool) (w : World) (r n m : ℕ) → r < length w.parts → q (part w r) ≡ true → n ≡ m + 1 → slice_get (passing q r (drop r w.parts)) n ≡ slice_get (passing q (r + 1) (drop (r + 1) w.parts)) m
unfolding part
found_later q w r n m l t e =
    let up : n ≡ suc m = omega arith in
    let on : suc r ≡ r + 1 = omega arith in
    ap (λ ns. slice_get ns n) (passing_from q r w.parts l ∙ if_true (q (get_or w.parts r no_part)) _ _ t)
    ∙ ap (slice_get (r ∷ passing q (suc r) (drop (suc r) w.parts))) up
    ∙ ap (λ k. slice_get (passing q k (drop k w.parts)) m) on

pub not_here : (q : Part → Bool) (w : World) (r n : ℕ) → r < length w.parts → q (part w r) ≡ false → slice_get (passing q r (drop r w.parts)) n ≡ slice_get (passing q (r + 1) (drop (r + 1) w.parts)) n
unfolding part
not_here q w r n l t =
    let on : suc r ≡ r + 1 = omega arith in
    ap (λ ns. slice_get ns n) (passing_from q r w.parts l ∙ if_false (q (get_or w.parts r no_part)) _ _ t)
    ∙ ap (λ k. slice_get (passing q k (drop k w.parts)) n) on

pub none_left : (q : Part → Bool) (r n i : ℕ) (ps : List Part) → length ps ≤ r → i < length (passing q 0 ps) → slice_get (passing q r (drop r ps)) n ≡ slice_get (passing q 0 ps) i → ⊥
none_left q r n i ps l there e =
    let no : slice_get (passing q r (drop r ps)) n ≡ None = slice_get_past (passing q r (drop r ps)) n (omega (arith, counted_all q r ps l)) in
    let some : slice_get (passing q 0 ps) i ≡ Some (get_or (passing q 0 ps) i 0) = slice_get-get_or (passing q 0 ps) i 0 there in
    cc

five : (a b c d e : List Step) → length (a ++ (b ++ (c ++ (d ++ e)))) ≡ length a + (length b + (length c + (length d + length e)))
five a b c d e = simp length-append

module _ (h : Heading) (w : World) (xs : List External) where
  pub total_is : (k : Counts) → AreCounts h w xs k → k.flying + (k.behind + k.ready) + (k.feeding + k.committing) ≡ length (choices h w xs)
  unfolding choices
  total_is k c =
      let f : length (map Deliver (numbers 0 (length w.flight))) ≡ k.flying = length-map (numbers 0 (length w.flight)) Deliver ∙ length_numbers 0 (length w.flight) ∙ sym c.flying in
      let g : length (map RollBack (passing is_behind 0 w.parts)) ≡ k.behind = length-map (passing is_behind 0 w.parts) RollBack ∙ sym c.behind in
      let i : length (map Handle (passing is_ready 0 w.parts)) ≡ k.ready = length-map (passing is_ready 0 w.parts) Handle ∙ sym c.ready in
      let a : length (feed_steps h w xs) ≡ k.feeding = sym c.feeding in
      let b : length (commit_steps h w) ≡ k.committing = sym c.committing in
      let sums : length (feed_steps h w xs ++ (map Deliver (numbers 0 (length w.flight)) ++ (map RollBack (passing is_behind 0 w.parts) ++ (map Handle (passing is_ready 0 w.parts) ++ commit_steps h w)))) ≡ k.feeding + (k.flying + (k.behind + (k.ready + k.committing))) =
      five (feed_steps h w xs) (map Deliver (numbers 0 (length w.flight))) (map RollBack (passing is_behind 0 w.parts)) (map Handle (passing is_ready 0 w.parts)) (commit_steps h w)
      ∙ (λ t. a t + (f t + (g t + (i t + b t)))) in
      let order : k.flying + (k.behind + k.ready) + (k.feeding + k.committing) ≡ k.feeding + (k.flying + (k.behind + (k.ready + k.committing))) = omega arith in
      order ∙ sym sums

  -- ---- where each kind stands

  module _ (k : Counts) (c : AreCounts h w xs k) where
    past_feed : (p i : ℕ) → p ≡ k.feeding + i → slice_get (choices h w xs) p ≡ slice_get (map Deliver (numbers 0 (length w.flight)) ++ (map RollBack (passing is_behind 0 w.parts) ++ (map Handle (passing is_ready 0 w.parts) ++ commit_steps h w))) i
    unfolding choices
    past_feed p i e = get_second (feed_steps h w xs) _ i p (e ∙ ap (λ n. n + i) c.feeding)

    past_flight : (p i : ℕ) → p ≡ k.feeding + (k.flying + i) → slice_get (choices h w xs) p ≡ slice_get (map RollBack (passing is_behind 0 w.parts) ++ (map Handle (passing is_ready 0 w.parts) ++ commit_steps h w)) i
    past_flight p i e =
        past_feed p (k.flying + i) e
        ∙ get_second (map Deliver (numbers 0 (length w.flight))) _ i (k.flying + i) (ap (λ n. n + i) (c.flying ∙ sym (length-map (numbers 0 (length w.flight)) Deliver ∙ length_numbers 0 (length w.flight))))

    past_behind : (p i : ℕ) → p ≡ k.feeding + (k.flying + (k.behind + i)) → slice_get (choices h w xs) p ≡ slice_get (map Handle (passing is_ready 0 w.parts) ++ commit_steps h w) i
    past_behind p i e =
        past_flight p (k.behind + i) e
        ∙ get_second (map RollBack (passing is_behind 0 w.parts)) _ i (k.behind + i) (ap (λ n. n + i) (c.behind ∙ sym (length-map (passing is_behind 0 w.parts) RollBack)))

    past_ready : (p i : ℕ) → p ≡ k.feeding + (k.flying + (k.behind + (k.ready + i))) → slice_get (choices h w xs) p ≡ slice_get (commit_steps h w) i
    past_ready p i e =
        past_behind p (k.ready + i) e
        ∙ get_second (map Handle (passing is_ready 0 w.parts)) _ i (k.ready + i) (ap (λ n. n + i) (c.ready ∙ sym (length-map (passing is_ready 0 w.parts) Handle)))

    only_feed : (b : Bool) (s : Step) (p : ℕ) → p < length (if b then [] else s ∷ []) → slice_get (if b then [] else s ∷ []) p ≡ Some s
    only_feed true s p l = absurd (omega arith)
    only_feed false s zero l = refl
    only_feed false s (suc p) l = absurd (omega arith)

    pub at_feed : (p : ℕ) → p < k.feeding → slice_get (choices h w xs) p ≡ Some (open_feed h w xs)
    unfolding choices feed_steps
    at_feed p l =
        let lt : p < length (feed_steps h w xs) = subst (λ n. p < n) c.feeding l in
        get_first (feed_steps h w xs) _ p lt ∙ only_feed w.closed (open_feed h w xs) p lt

    pub at_flight : (p i : ℕ) → p ≡ k.feeding + i → i < k.flying → slice_get (choices h w xs) p ≡ Some (Deliver i)
    at_flight p i e l =
        let fly : k.flying ≡ length w.flight = c.flying in
        let n : i < length w.flight = omega arith in
        let m : i < length (map Deliver (numbers 0 (length w.flight))) = subst (λ k. i < k) (sym (length-map (numbers 0 (length w.flight)) Deliver ∙ length_numbers 0 (length w.flight))) n in
        past_feed p i e
        ∙ get_first (map Deliver (numbers 0 (length w.flight))) _ i m
        ∙ slice_get-map Deliver (numbers 0 (length w.flight)) i
        ∙ ap (option_map Deliver) (get_number 0 (length w.flight) i n ∙ ap Some (omega arith))

    pub at_behind : (p i r : ℕ) → p ≡ k.feeding + (k.flying + i) → i < k.behind → slice_get (passing is_behind 0 w.parts) i ≡ Some r → slice_get (choices h w xs) p ≡ Some (RollBack r)
    at_behind p i r e l g =
        past_flight p i e
        ∙ get_first (map RollBack (passing is_behind 0 w.parts)) _ i (subst (λ n. i < n) (c.behind ∙ sym (length-map (passing is_behind 0 w.parts) RollBack)) l)
        ∙ slice_get-map RollBack (passing is_behind 0 w.parts) i
        ∙ ap (option_map RollBack) g

    pub at_ready : (p i r : ℕ) → p ≡ k.feeding + (k.flying + (k.behind + i)) → i < k.ready → slice_get (passing is_ready 0 w.parts) i ≡ Some r → slice_get (choices h w xs) p ≡ Some (Handle r)
    at_ready p i r e l g =
        past_behind p i e
        ∙ get_first (map Handle (passing is_ready 0 w.parts)) _ i (subst (λ n. i < n) (c.ready ∙ sym (length-map (passing is_ready 0 w.parts) Handle)) l)
        ∙ slice_get-map Handle (passing is_ready 0 w.parts) i
        ∙ ap (option_map Handle) g

    only_commit : (b : Bool) (i : ℕ) → i < length (if b then Commit ∷ [] else []) → slice_get (if b then Commit ∷ [] else []) i ≡ Some Commit
    only_commit true zero l = refl
    only_commit true (suc i) l = absurd (omega arith)
    only_commit false i l = absurd (omega arith)

    pub at_commit : (p i : ℕ) → p ≡ k.feeding + (k.flying + (k.behind + (k.ready + i))) → p < length (choices h w xs) → slice_get (choices h w xs) p ≡ Some Commit
    unfolding commit_steps
    at_commit p i e there =
        let t = total_is k c in
        let lt : i < k.committing = omega arith in
        past_ready p i e ∙ only_commit (can_commit h w) i (subst (λ n. i < n) c.committing lt)
