-- What the steps that are taken are: a legal run of the case, which ends as the answer says.
use Rattle.std.proofs.Common.{◌≡◌, ℕ, zero, suc, ◌<◌, Bool, true, false, not, ◌&&◌, List, [], ◌∷◌, ◌++◌, length, refl, sym, ap, ◌∙◌, subst, arith, append-nil}
use Rattle.std.specs.Prelude.{if◌then◌else◌, Option, Some, None, slice_get, ◌%◌}
use Rattle.std.specs.Option.{option_map_or}
use Rattle.dn_model.specs.declared.feed.External.{External}
use Rattle.dn_model.specs.Cases.{Heading, Recording, AreExternals, IsRecording}
use Rattle.dn_model.specs.Network.{Network, routers}
use Rattle.dn_model.specs.Settled.{IsPrefixOf}
use Rattle.dn_world.specs.declared.step.Step.{Step}
use Rattle.dn_world.specs.World.{World, opening, horizon, is_quiet}
use Rattle.dn_world.specs.Steps.{is_enabled, after}
use Rattle.dn_world.specs.Runs.{IsBalanced, IsLegalFrom, IsLegalOf, IsPast, injects, is_cut_off, run, world}
use Rattle.dn_fabric.specs.Work.{can_commit}
use Rattle.dn_drive.specs.declared.ended.Ended.{Ended}
use Rattle.dn_drive.specs.declared.ended.Ended.TheVariants.{Whole, Cut, Illegal, Open}
use Rattle.dn_drive.specs.Allowed.{end_of, is_allowed, legal_front, rerun, rest_after}
use Rattle.dn_drive.specs.Choices.{choices, drawn, schedule}
use Rattle.dn_drive.proofs.Ending.{closed_if_quiet, no_more_above}
use Rattle.dn_drive.proofs.Following.{rerun_on, rerun_cut, rerun_no, rerun_end, front_on, front_cut, front_no, front_end}
use Rattle.dn_drive.proofs.Going.{Goes, InputsApart, goes_on, injects_on, no_more_on}
use Rattle.dn_drive.proofs.Scheduling.{chosen_allowed, schedule_on, schedule_zero}
use Rattle.dn_drive.proofs.Ways.{allowed_parts}

-- ---- the end

ends_whole : (q k : Bool) → (if q && not k then Whole else Open) ≡ Whole → (q ≡ true) × (k ≡ false)
ends_whole true true e = absurd (cc)
ends_whole true false e = (refl, refl)
ends_whole false k e = absurd (cc)

never_cut : (b : Bool) → (if b then Whole else Open) ≡ Cut → ⊥
never_cut true e = cc
never_cut false e = cc

pub end_whole : (h : Heading) (w : World) → end_of h w ≡ Whole → (is_quiet w ≡ true) × (can_commit h w ≡ false)
unfolding end_of
end_whole h w e = ends_whole (is_quiet w) (can_commit h w) e

end_not_cut : (h : Heading) (w : World) → end_of h w ≡ Cut → ⊥
unfolding end_of
end_not_cut h w e = never_cut (is_quiet w && not (can_commit h w)) e

module _ {S : Type 0} (net : Network S) where
  -- ---- the steps that are taken

  -- nothing is left once the world is closed
  abbrev NoMore : World → List External → Type 0
  NoMore w xs = w.closed ≡ true → xs ≡ []

  -- a run from the world is legal, injects a front of the rest xs, and closes only after all of it
  record Runs (w : World) (xs : List External) (ss : List Step) : Type 0 where
    legal : IsLegalFrom net w ss
    further : List External
    whole : injects ss ++ further ≡ xs
    no_more : (run net w ss).closed ≡ true → further ≡ []

  runs_none : (w : World) (xs : List External) → NoMore w xs → Runs w xs []
  unfolding IsLegalFrom run injects
  runs_none w xs none = record { legal = tt; further = xs; whole = refl; no_more = none }

  runs_on : InputsApart → (w : World) (xs : List External) (s : Step) (ss : List Step) → is_allowed net w xs s ≡ true → Runs (after net w s) (rest_after xs s) ss → Runs w xs (s ∷ ss)
  unfolding IsLegalFrom run
  runs_on apart w xs s ss a r =
      let p = allowed_parts net xs w xs s a in
      record { legal = (p.0, r.legal); further = r.further; whole = injects_on apart w xs r.further s ss p.1 r.whole; no_more = r.no_more }

  next_none : InputsApart → (w : World) (xs : List External) (s : Step) → is_allowed net w xs s ≡ true → NoMore w xs → NoMore (after net w s) (rest_after xs s)
  next_none apart w xs s a none = let p = allowed_parts net xs w xs s a in no_more_on net apart w xs s p.0 p.1 none

  front_cases : InputsApart → (w : World) (xs : List External) (s : Step) (ss : List Step) → NoMore w xs → (NoMore (after net w s) (rest_after xs s) → Runs (after net w s) (rest_after xs s) (legal_front net (after net w s) (rest_after xs s) ss)) → (a c : Bool) → is_allowed net w xs s ≡ a → is_cut_off net (after net w s) ≡ c → Runs w xs (legal_front net w xs (s ∷ ss))
  front_cases apart w xs s ss none more true true a c =
      subst (Runs w xs) (sym (front_cut net w xs s ss a c)) (runs_on apart w xs s [] a (runs_none (after net w s) (rest_after xs s) (next_none apart w xs s a none)))
  front_cases apart w xs s ss none more true false a c =
      subst (Runs w xs) (sym (front_on net w xs s ss a c)) (runs_on apart w xs s (legal_front net (after net w s) (rest_after xs s) ss) a (more (next_none apart w xs s a none)))
  front_cases apart w xs s ss none more false b a c = subst (Runs w xs) (sym (front_no net w xs s ss a)) (runs_none w xs none)

  front_runs : InputsApart → (w : World) (xs : List External) (ss : List Step) → NoMore w xs → Runs w xs (legal_front net w xs ss)
  front_runs apart w xs [] none = subst (Runs w xs) (sym (front_end net w xs)) (runs_none w xs none)
  front_runs apart w xs (s ∷ ss) none =
      front_cases apart w xs s ss none (front_runs apart (after net w s) (rest_after xs s) ss) (is_allowed net w xs s) (is_cut_off net (after net w s)) refl refl

  -- ---- they are a front of the steps

  begins : (steps fs behind : List Step) → fs ++ behind ≡ steps → (front : List Step) → front ≡ fs → IsPrefixOf front steps
  begins steps fs behind e front is = (behind, ap (λ l. l ++ behind) is ∙ e)

  begins_cases : (w : World) (xs : List External) (s : Step) (ss : List Step) → IsPrefixOf (legal_front net (after net w s) (rest_after xs s) ss) ss → (a c : Bool) → is_allowed net w xs s ≡ a → is_cut_off net (after net w s) ≡ c → IsPrefixOf (legal_front net w xs (s ∷ ss)) (s ∷ ss)
  begins_cases w xs s ss more true true a c = begins (s ∷ ss) (s ∷ []) ss refl _ (front_cut net w xs s ss a c)
  begins_cases w xs s ss more true false a c =
      begins (s ∷ ss) (s ∷ legal_front net (after net w s) (rest_after xs s) ss) more.0 (ap (λ l. s ∷ l) more.1) _ (front_on net w xs s ss a c)
  begins_cases w xs s ss more false b a c = begins (s ∷ ss) [] (s ∷ ss) refl _ (front_no net w xs s ss a)

  pub front_begins : (w : World) (xs : List External) (ss : List Step) → IsPrefixOf (legal_front net w xs ss) ss
  front_begins w xs [] = begins [] [] [] refl _ (front_end net w xs)
  front_begins w xs (s ∷ ss) =
      begins_cases w xs s ss (front_begins (after net w s) (rest_after xs s) ss) (is_allowed net w xs s) (is_cut_off net (after net w s)) refl refl

  -- ---- what they come to

  -- Whole: all are taken, and they lead to such an end; Cut: those that are taken lead to a cut world
  abbrev Comes : World → List External → List Step → Ended → Type 0
  Comes w xs ss Whole = (legal_front net w xs ss ≡ ss) × (end_of net.header (run net w ss) ≡ Whole)
  Comes w xs ss Cut = is_cut_off net (run net w (legal_front net w xs ss)) ≡ true
  Comes w xs ss (Illegal n) = Unit {0}
  Comes w xs ss Open = Unit {0}

  comes_none : (w : World) (xs : List External) (e : Ended) → end_of net.header w ≡ e → Comes w xs [] e
  unfolding run
  comes_none w xs Whole is = (front_end net w xs, is)
  comes_none w xs Cut is = absurd (end_not_cut net.header w is)
  comes_none w xs (Illegal n) is = tt
  comes_none w xs Open is = tt

  comes_on : (w : World) (xs : List External) (s : Step) (ss : List Step) (e : Ended) → legal_front net w xs (s ∷ ss) ≡ s ∷ legal_front net (after net w s) (rest_after xs s) ss → Comes (after net w s) (rest_after xs s) ss e → Comes w xs (s ∷ ss) e
  unfolding run
  comes_on w xs s ss Whole front c = (front ∙ ap (λ l. s ∷ l) c.0, c.1)
  comes_on w xs s ss Cut front c = subst (λ l. is_cut_off net (run net w l) ≡ true) (sym front) c
  comes_on w xs s ss (Illegal n) front c = tt
  comes_on w xs s ss Open front c = tt

  comes_cut : (w : World) (s : Step) (front : List Step) → front ≡ s ∷ [] → is_cut_off net (after net w s) ≡ true → is_cut_off net (run net w front) ≡ true
  unfolding run
  comes_cut w s front is c = subst (λ l. is_cut_off net (run net w l) ≡ true) (sym is) c

  comes_cases : (w : World) (xs : List External) (n : ℕ) (s : Step) (ss : List Step) → Comes (after net w s) (rest_after xs s) ss (rerun net (after net w s) (rest_after xs s) (suc n) ss) → (a c : Bool) → is_allowed net w xs s ≡ a → is_cut_off net (after net w s) ≡ c → Comes w xs (s ∷ ss) (rerun net w xs n (s ∷ ss))
  comes_cases w xs n s ss more true true a c =
      subst (Comes w xs (s ∷ ss)) (sym (rerun_cut net w xs n s ss a c)) (comes_cut w s (legal_front net w xs (s ∷ ss)) (front_cut net w xs s ss a c) c)
  comes_cases w xs n s ss more true false a c =
      subst (Comes w xs (s ∷ ss)) (sym (rerun_on net w xs n s ss a c))
      (comes_on w xs s ss (rerun net (after net w s) (rest_after xs s) (suc n) ss) (front_on net w xs s ss a c) more)
  comes_cases w xs n s ss more false b a c = subst (Comes w xs (s ∷ ss)) (sym (rerun_no net w xs n s ss a)) tt

  comes : (w : World) (xs : List External) (n : ℕ) (ss : List Step) → Comes w xs ss (rerun net w xs n ss)
  comes w xs n [] = subst (Comes w xs []) (sym (rerun_end net w xs n)) (comes_none w xs (end_of net.header w) refl)
  comes w xs n (s ∷ ss) =
      comes_cases w xs n s ss (comes (after net w s) (rest_after xs s) (suc n) ss) (is_allowed net w xs s) (is_cut_off net (after net w s)) refl refl

  -- ---- from the opening world

  module _ (feed : List External) (steps : List Step) where
    not_closed : NoMore (opening (routers net)) feed
    unfolding opening
    not_closed c = absurd (cc)

    taken : InputsApart → Runs (opening (routers net)) feed (legal_front net (opening (routers net)) feed steps)
    taken apart = front_runs apart (opening (routers net)) feed steps not_closed

    pub taken_legal : InputsApart → IsLegalOf net feed (legal_front net (opening (routers net)) feed steps)
    taken_legal apart = let t = taken apart in record { legal = t.legal; further = t.further; whole = t.whole; no_more = t.no_more }

    pub taken_cut : rerun net (opening (routers net)) feed 0 steps ≡ Cut → is_cut_off net (world net (legal_front net (opening (routers net)) feed steps)) ≡ true
    taken_cut is = subst (Comes (opening (routers net)) feed steps) is (comes (opening (routers net)) feed 0 steps)

    module _ (is : rerun net (opening (routers net)) feed 0 steps ≡ Whole) where
      come : Comes (opening (routers net)) feed steps Whole
      come = subst (Comes (opening (routers net)) feed steps) is (comes (opening (routers net)) feed 0 steps)

      end : (is_quiet (world net steps) ≡ true) × (can_commit net.header (world net steps) ≡ false)
      end = end_whole net.header (world net steps) come.1

      pub whole_legal : InputsApart → IsLegalOf net feed steps
      whole_legal apart = subst (IsLegalOf net feed) come.0 (taken_legal apart)

      pub whole_all : InputsApart → injects steps ≡ feed
      whole_all apart =
          let l = whole_legal apart in
          let none : l.further ≡ [] = l.no_more (closed_if_quiet (world net steps) end.0) in
          sym (append-nil (injects steps)) ∙ ap (λ l. injects steps ++ l) (sym none) ∙ l.whole

      pub whole_quiet : is_quiet (world net steps) ≡ true
      whole_quiet = end.0

      pub whole_no_more : IsPast (horizon net.header (world net steps)) (world net steps).boundary
      whole_no_more = no_more_above net.header (world net steps) end.1

  -- ---- schedules

  turn_front : (w : World) (xs : List External) (h m : ℕ) (s : Step) → is_allowed net w xs s ≡ true → (is_cut_off net (after net w s) ≡ false → legal_front net (after net w s) (rest_after xs s) (schedule net (after net w s) (rest_after xs s) (drawn h) m) ≡ schedule net (after net w s) (rest_after xs s) (drawn h) m) → (c : Bool) → is_cut_off net (after net w s) ≡ c → (ss : List Step) → ss ≡ s ∷ (if c then [] else schedule net (after net w s) (rest_after xs s) (drawn h) m) → legal_front net w xs ss ≡ ss
  turn_front w xs h m s a more true c ss e = subst (λ l. legal_front net w xs l ≡ l) (sym e) (front_cut net w xs s [] a c)
  turn_front w xs h m s a more false c ss e =
      subst (λ l. legal_front net w xs l ≡ l) (sym e)
      (front_on net w xs s (schedule net (after net w s) (rest_after xs s) (drawn h) m) a c ∙ ap (λ l. s ∷ l) (more c))

  parts_of : (w : World) → IsBalanced net w → length w.parts ≡ length net.header.routers
  unfolding routers
  parts_of w b = b.count

  schedule_stops : (w : World) (xs : List External) (h m : ℕ) → slice_get (choices net.header w xs) (drawn h % length (choices net.header w xs)) ≡ None → schedule net w xs h (suc m) ≡ []
  unfolding schedule
  schedule_stops w xs h m at =
      ap (λ o. option_map_or (λ s. s ∷ (if is_cut_off net (after net w s) then [] else schedule net (after net w s) (rest_after xs s) (drawn h) m)) o []) at

  chosen_front : InputsApart → (feed : List External) (w : World) (xs : List External) (h m : ℕ) → Goes net.header feed w xs → IsBalanced net w → ((s : Step) → is_allowed net w xs s ≡ true → legal_front net (after net w s) (rest_after xs s) (schedule net (after net w s) (rest_after xs s) (drawn h) m) ≡ schedule net (after net w s) (rest_after xs s) (drawn h) m) → (o : Option Step) → slice_get (choices net.header w xs) (drawn h % length (choices net.header w xs)) ≡ o → legal_front net w xs (schedule net w xs h (suc m)) ≡ schedule net w xs h (suc m)
  chosen_front apart feed w xs h m g c more None at = subst (λ l. legal_front net w xs l ≡ l) (sym (schedule_stops w xs h m at)) (front_end net w xs)
  chosen_front apart feed w xs h m g c more (Some s) at =
      let a : is_allowed net w xs s ≡ true = chosen_allowed net apart net.header w xs feed (drawn h % length (choices net.header w xs)) s refl (parts_of w c) g at in
      turn_front w xs h m s a (λ _. more s a) (is_cut_off net (after net w s)) refl (schedule net w xs h (suc m)) (schedule_on net w xs h (suc m) m s refl at)

  -- each enabled step keeps the balance
  abbrev StaysBalanced : Type 0
  StaysBalanced = (w : World) (s : Step) → is_enabled net w s ≡ true → IsBalanced net w → IsBalanced net (after net w s)

  schedule_front : InputsApart → StaysBalanced → (feed : List External) (w : World) (xs : List External) (h n : ℕ) → Goes net.header feed w xs → IsBalanced net w → legal_front net w xs (schedule net w xs h n) ≡ schedule net w xs h n
  schedule_front apart stays feed w xs h zero g c = subst (λ l. legal_front net w xs l ≡ l) (sym (schedule_zero net w xs h zero refl)) (front_end net w xs)
  schedule_front apart stays feed w xs h (suc m) g c =
      chosen_front apart feed w xs h m g c
      (λ s a.
      let p = allowed_parts net xs w xs s a in
      schedule_front apart stays feed (after net w s) (rest_after xs s) (drawn h) m (goes_on net apart feed w xs s p.0 p.1 g) (stays w s p.0 c))
      (slice_get (choices net.header w xs) (drawn h % length (choices net.header w xs))) refl

  opening_goes : (case : Recording) → IsRecording case → net.header ≡ case.header → Goes net.header case.feed (opening (routers net)) case.feed
  unfolding opening
  opening_goes case is same =
      let some = is.header.groups.0 in
      let groups : 0 < case.header.groups = omega (arith, some) in
      record {
        whole = refl;
        rules = subst (λ (h : Heading). AreExternals h 0 case.feed) (sym same) is.feed;
        floor = subst (λ (h : Heading). 0 < h.groups) (sym same) groups;
        no_more = λ c. absurd (cc);
      }

  pub schedule_taken : InputsApart → StaysBalanced → IsBalanced net (opening (routers net)) → (case : Recording) (number turns : ℕ) → IsRecording case → net.header ≡ case.header → legal_front net (opening (routers net)) case.feed (schedule net (opening (routers net)) case.feed number turns) ≡ schedule net (opening (routers net)) case.feed number turns
  schedule_taken apart stays balanced case number turns is same =
      schedule_front apart stays case.feed (opening (routers net)) case.feed number turns (opening_goes case is same) balanced
