-- Each step of a legal run is taken where the case is just what the run injects.
use Rattle.std.proofs.Common.{◌≡◌, ◌⊎◌, inl, inr, ℕ, suc, ◌<◌, Bool, true, false, not, ◌&&◌, List, [], ◌∷◌, ◌++◌, refl, sym, ap, ◌∙◌, subst, arith}
use Rattle.std.specs.Prelude.{if◌then◌else◌, slice_get}
use Rattle.std.specs.Cmp.{tied_itself}
use Rattle.std.specs.Ordering.{is_gt}
use Rattle.std.proofs.lemmas.Bool.{lt-ltb}
use Rattle.dn_model.specs.declared.feed.External.{External}
use Rattle.dn_model.specs.declared.key.Key.{Key}
use Rattle.dn_model.specs.Cases.{Heading}
use Rattle.dn_model.specs.Network.{Network, routers}
use Rattle.dn_model.specs.Order.{key_cmp, key_total}
use Rattle.dn_world.specs.declared.step.Step.{Step}
use Rattle.dn_world.specs.declared.step.Step.TheVariants.{Beacon, Inject, Close, Deliver, Handle, RollBack, Commit}
use Rattle.dn_world.specs.World.{World, part, opening, horizon, is_empty, is_quiet}
use Rattle.dn_world.specs.Steps.{is_enabled, beacon, roll_back, after}
use Rattle.dn_world.specs.Runs.{IsLegal, IsLegalFrom, injects, is_cut_off, run, world}
use Rattle.dn_fabric.specs.Work.{can_commit}
use Rattle.dn_drive.specs.declared.ended.Ended.TheVariants.{Whole, Cut, Open}
use Rattle.dn_drive.specs.Allowed.{end_of, is_allowed, is_fed, legal_front, rerun, rest_after, starts_later}
use Rattle.dn_drive.proofs.Allowing.{both_from}
use Rattle.dn_drive.proofs.Following.{rerun_cut, rerun_end, rerun_on}
use Rattle.dn_drive.proofs.Going.{deliver_same, handle_same}
use Rattle.dn_drive.proofs.Journals.{front_begins, taken_cut}
use Rattle.dn_drive.proofs.May.{may}
use Rattle.dn_drive.proofs.Scheduling.{same_itself}

-- ---- the end

whole_if : (q k : Bool) → q ≡ true → k ≡ false → (if q && not k then Whole else Open) ≡ Whole
whole_if true true q k = absurd (cc)
whole_if true false q k = refl
whole_if false k q n = absurd (cc)

-- no Commit is left to take where the boundary is at the horizon
none_at_horizon : (h : Heading) (w : World) → w.boundary ≡ horizon h w → can_commit h w ≡ false
unfolding can_commit
none_at_horizon h w e = ap (λ (b : Key). is_gt (key_cmp (horizon h w) b)) e ∙ ap is_gt (tied_itself key_total (horizon h w))

end_is_whole : (h : Heading) (w : World) → is_quiet w ≡ true → w.boundary ≡ horizon h w → end_of h w ≡ Whole
unfolding end_of
end_is_whole h w q e = whole_if (is_quiet w) (can_commit h w) q (none_at_horizon h w e)

-- ---- what a run injects

module _ {S : Type 0} (net : Network S) where
  first_of : (w : World) (s : Step) (ss : List Step) → IsLegalFrom net w (s ∷ ss) → is_enabled net w s ≡ true
  unfolding IsLegalFrom
  first_of w s ss l = l.0

  behind_of : (w : World) (s : Step) (ss : List Step) → IsLegalFrom net w (s ∷ ss) → IsLegalFrom net (after net w s) ss
  unfolding IsLegalFrom
  behind_of w s ss l = l.1

  -- the floor never falls, so a run injects nothing of a group before it
  none_before : (w : World) (ss : List Step) (k : ℕ) → IsLegalFrom net w ss → k < w.floor → starts_later k (injects ss) ≡ true
  unfolding injects after beacon roll_back
  none_before w [] k l under = refl
  none_before w (Beacon ∷ ss) k l under = none_before (after net w Beacon) ss k (behind_of w Beacon ss l) (omega (arith, under))
  none_before w (Inject x ∷ ss) k l under =
      let at = (may net w (Inject x) (first_of w (Inject x) ss l)).1 in
      lt-ltb k x.group (omega (arith, at, under))
  none_before w (Close ∷ ss) k l under = none_before (after net w Close) ss k (behind_of w Close ss l) under
  none_before w (Deliver place ∷ ss) k l under =
      none_before (after net w (Deliver place)) ss k (behind_of w (Deliver place) ss l)
      (subst (λ n. k < n) (sym (deliver_same w place (slice_get w.flight place)).floor) under)
  none_before w (Handle r ∷ ss) k l under =
      none_before (after net w (Handle r)) ss k (behind_of w (Handle r) ss l)
      (subst (λ n. k < n) (sym (handle_same net w r (part w r) (part w r).todo).floor) under)
  none_before w (RollBack r ∷ ss) k l under = none_before (after net w (RollBack r)) ss k (behind_of w (RollBack r) ss l) under
  none_before w (Commit ∷ ss) k l under = none_before (after net w Commit) ss k (behind_of w Commit ss l) under

  -- closed stays closed, so a run from a closed world injects nothing
  none_if_closed : (w : World) (ss : List Step) → IsLegalFrom net w ss → w.closed ≡ true → injects ss ≡ []
  unfolding injects after roll_back
  none_if_closed w [] l c = refl
  none_if_closed w (Beacon ∷ ss) l c = absurd (let no : true ≡ false = sym c ∙ (may net w Beacon (first_of w Beacon ss l)).0 in cc)
  none_if_closed w (Inject x ∷ ss) l c = absurd (let no : true ≡ false = sym c ∙ (may net w (Inject x) (first_of w (Inject x) ss l)).0 in cc)
  none_if_closed w (Close ∷ ss) l c = absurd (let no : true ≡ false = sym c ∙ (may net w Close (first_of w Close ss l)).0 in cc)
  none_if_closed w (Deliver place ∷ ss) l c =
      none_if_closed (after net w (Deliver place)) ss (behind_of w (Deliver place) ss l) ((deliver_same w place (slice_get w.flight place)).closed ∙ c)
  none_if_closed w (Handle r ∷ ss) l c =
      none_if_closed (after net w (Handle r)) ss (behind_of w (Handle r) ss l) ((handle_same net w r (part w r) (part w r).todo).closed ∙ c)
  none_if_closed w (RollBack r ∷ ss) l c = none_if_closed (after net w (RollBack r)) ss (behind_of w (RollBack r) ss l) c
  none_if_closed w (Commit ∷ ss) l c = none_if_closed (after net w Commit) ss (behind_of w Commit ss l) c

  -- ---- each step is allowed

  first_is_fed : (w : World) (s : Step) (ss : List Step) → IsLegalFrom net w (s ∷ ss) → is_fed w.floor (injects (s ∷ ss)) s ≡ true
  unfolding injects after beacon
  first_is_fed w Beacon ss l = none_before (after net w Beacon) ss w.floor (behind_of w Beacon ss l) (omega arith)
  first_is_fed w (Inject x) ss l = same_itself x
  first_is_fed w Close ss l = ap is_empty (none_if_closed (after net w Close) ss (behind_of w Close ss l) refl)
  first_is_fed w (Deliver place) ss l = refl
  first_is_fed w (Handle r) ss l = refl
  first_is_fed w (RollBack r) ss l = refl
  first_is_fed w Commit ss l = refl

  first_is_allowed : (w : World) (s : Step) (ss : List Step) → IsLegalFrom net w (s ∷ ss) → is_allowed net w (injects (s ∷ ss)) s ≡ true
  unfolding is_allowed
  first_is_allowed w s ss l = both_from (is_enabled net w s) (is_fed w.floor (injects (s ∷ ss)) s) (first_of w s ss l) (first_is_fed w s ss l)

  rest_is : (s : Step) (ss : List Step) → rest_after (injects (s ∷ ss)) s ≡ injects ss
  unfolding injects
  rest_is Beacon ss = refl
  rest_is (Inject x) ss = refl
  rest_is Close ss = refl
  rest_is (Deliver place) ss = refl
  rest_is (Handle r) ss = refl
  rest_is (RollBack r) ss = refl
  rest_is Commit ss = refl

  -- ---- what the steps come to

  goes_on : (w : World) (n : ℕ) (s : Step) (ss : List Step) → IsLegalFrom net w (s ∷ ss) → is_cut_off net (after net w s) ≡ false → rerun net w (injects (s ∷ ss)) n (s ∷ ss) ≡ rerun net (after net w s) (injects ss) (suc n) ss
  goes_on w n s ss l c =
      rerun_on net w (injects (s ∷ ss)) n s ss (first_is_allowed w s ss l) c ∙ ap (λ xs. rerun net (after net w s) xs (suc n) ss) (rest_is s ss)

  -- Cut, or what the last world comes to
  abbrev Comes : World → ℕ → List Step → Type 0
  Comes w n ss = (rerun net w (injects ss) n ss ≡ Cut) ⊎ (rerun net w (injects ss) n ss ≡ end_of net.header (run net w ss))

  comes_on : (w : World) (n : ℕ) (s : Step) (ss : List Step) → rerun net w (injects (s ∷ ss)) n (s ∷ ss) ≡ rerun net (after net w s) (injects ss) (suc n) ss → Comes (after net w s) (suc n) ss → Comes w n (s ∷ ss)
  unfolding run
  comes_on w n s ss e (inl c) = inl (e ∙ c)
  comes_on w n s ss e (inr c) = inr (e ∙ c)

  comes_cases : (w : World) (n : ℕ) (s : Step) (ss : List Step) → IsLegalFrom net w (s ∷ ss) → Comes (after net w s) (suc n) ss → (c : Bool) → is_cut_off net (after net w s) ≡ c → Comes w n (s ∷ ss)
  comes_cases w n s ss l more true c = inl (rerun_cut net w (injects (s ∷ ss)) n s ss (first_is_allowed w s ss l) c)
  comes_cases w n s ss l more false c = comes_on w n s ss (goes_on w n s ss l c) more

  comes : (w : World) (n : ℕ) (ss : List Step) → IsLegalFrom net w ss → Comes w n ss
  unfolding run injects
  comes w n [] l = inr (rerun_end net w [] n)
  comes w n (s ∷ ss) l = comes_cases w n s ss l (comes (after net w s) (suc n) ss (behind_of w s ss l)) (is_cut_off net (after net w s)) refl

  later : (w : World) (s : Step) (ss : List Step) → is_cut_off net (run net w (s ∷ ss)) ≡ true → is_cut_off net (run net (after net w s) ss) ≡ true
  unfolding run
  later w s ss c = c

  cut_cases : (w : World) (n : ℕ) (s : Step) (ss : List Step) → IsLegalFrom net w (s ∷ ss) → (is_cut_off net (after net w s) ≡ false → rerun net (after net w s) (injects ss) (suc n) ss ≡ Cut) → (c : Bool) → is_cut_off net (after net w s) ≡ c → rerun net w (injects (s ∷ ss)) n (s ∷ ss) ≡ Cut
  cut_cases w n s ss l more true c = rerun_cut net w (injects (s ∷ ss)) n s ss (first_is_allowed w s ss l) c
  cut_cases w n s ss l more false c = goes_on w n s ss l c ∙ more c

  comes_to_cut : (w : World) (n : ℕ) (ss : List Step) → IsLegalFrom net w ss → is_cut_off net w ≡ false → is_cut_off net (run net w ss) ≡ true → rerun net w (injects ss) n ss ≡ Cut
  unfolding run
  comes_to_cut w n [] l u c = absurd (let no : true ≡ false = sym c ∙ u in cc)
  comes_to_cut w n (s ∷ ss) l u c =
      cut_cases w n s ss l (λ v. comes_to_cut (after net w s) (suc n) ss (behind_of w s ss l) v (later w s ss c)) (is_cut_off net (after net w s)) refl

  -- ---- from the opening world

  module _ (feed : List External) (steps : List Step) (legal : IsLegal net steps) (fed : injects steps ≡ feed) where
    abbrev first : World
    first = opening (routers net)

    pub cut_is_taken : is_cut_off net first ≡ false → is_cut_off net (world net steps) ≡ true → rerun net first feed 0 steps ≡ Cut
    cut_is_taken u c = subst (λ xs. rerun net first xs 0 steps ≡ Cut) fed (comes_to_cut first 0 steps legal u c)

    -- a front that leads to a cut world leads on to cut worlds alone
    abbrev StaysCut : Type 0
    StaysCut = (xs ys : List Step) → IsLegal net (xs ++ ys) → is_cut_off net (world net xs) ≡ true → is_cut_off net (world net (xs ++ ys)) ≡ true

    cut_at_last : StaysCut → rerun net first feed 0 steps ≡ Cut → is_cut_off net (world net steps) ≡ true
    cut_at_last stays is =
        let front = legal_front net first feed steps in
        let begins = front_begins net first feed steps in
        subst (λ ss. is_cut_off net (world net ss) ≡ true) begins.1
        (stays front begins.0 (subst (IsLegal net) (sym begins.1) legal) (taken_cut net feed steps is))

    pub whole_is_taken : StaysCut → is_cut_off net (world net steps) ≡ false → is_quiet (world net steps) ≡ true → (world net steps).boundary ≡ horizon net.header (world net steps) → rerun net first feed 0 steps ≡ Whole
    whole_is_taken stays u q e = answer (comes first 0 steps legal) where
      answer : Comes first 0 steps → rerun net first feed 0 steps ≡ Whole
      answer (inl c) = absurd (let no : true ≡ false = sym (cut_at_last stays (subst (λ xs. rerun net first xs 0 steps ≡ Cut) fed c)) ∙ u in cc)
      answer (inr c) = subst (λ xs. rerun net first xs 0 steps ≡ Whole) fed (c ∙ end_is_whole net.header (world net steps) q e)
