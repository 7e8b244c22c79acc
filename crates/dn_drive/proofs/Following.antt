-- What the steps behind a journal come to.
use Rattle.std.proofs.Common.{◌≡◌, ℕ, suc, ◌+◌, Bool, true, false, List, [], ◌∷◌, ◌++◌, length, refl, sym, ap, ◌∙◌, subst, arith, append_assoc, length-append, append-nil}
use Rattle.std.specs.Prelude.{if◌then◌else◌}
use Rattle.dn_model.specs.declared.feed.External.{External}
use Rattle.dn_model.specs.Network.{Network, routers}
use Rattle.dn_world.specs.declared.step.Step.{Step}
use Rattle.dn_world.specs.World.{World, opening}
use Rattle.dn_world.specs.Steps.{after}
use Rattle.dn_world.specs.Runs.{is_cut_off}
use Rattle.dn_fabric.specs.Fabrics.{Fabric, stepped}
use Rattle.dn_drive.specs.declared.ended.Ended.{Ended}
use Rattle.dn_drive.specs.declared.ended.Ended.TheVariants.{Cut, Illegal}
use Rattle.dn_drive.specs.Allowed.{rest_after, end_of, is_allowed, rerun, legal_front}

pub if_true : {X : Type 0} (b : Bool) (x y : X) → b ≡ true → (if b then x else y) ≡ x
if_true true x y h = refl
if_true false x y h = absurd (cc)

pub if_false : {X : Type 0} (b : Bool) (x y : X) → b ≡ false → (if b then x else y) ≡ y
if_false true x y h = absurd (cc)
if_false false x y h = refl

module _ {S : Type 0} (net : Network S) where
  -- one step of a replay
  pub rerun_on : (w : World) (xs : List External) (n : ℕ) (s : Step) (ss : List Step) → is_allowed net w xs s ≡ true → is_cut_off net (after net w s) ≡ false → rerun net w xs n (s ∷ ss) ≡ rerun net (after net w s) (rest_after xs s) (suc n) ss
  unfolding rerun
  rerun_on w xs n s ss a c = if_true (is_allowed net w xs s) _ _ a ∙ if_false (is_cut_off net (after net w s)) _ _ c

  pub rerun_cut : (w : World) (xs : List External) (n : ℕ) (s : Step) (ss : List Step) → is_allowed net w xs s ≡ true → is_cut_off net (after net w s) ≡ true → rerun net w xs n (s ∷ ss) ≡ Cut
  unfolding rerun
  rerun_cut w xs n s ss a c = if_true (is_allowed net w xs s) _ _ a ∙ if_true (is_cut_off net (after net w s)) _ _ c

  pub rerun_no : (w : World) (xs : List External) (n : ℕ) (s : Step) (ss : List Step) → is_allowed net w xs s ≡ false → rerun net w xs n (s ∷ ss) ≡ Illegal (suc n)
  unfolding rerun
  rerun_no w xs n s ss a = if_false (is_allowed net w xs s) _ _ a

  pub rerun_end : (w : World) (xs : List External) (n : ℕ) → rerun net w xs n [] ≡ end_of net.header w
  unfolding rerun
  rerun_end w xs n = refl

  pub front_on : (w : World) (xs : List External) (s : Step) (ss : List Step) → is_allowed net w xs s ≡ true → is_cut_off net (after net w s) ≡ false → legal_front net w xs (s ∷ ss) ≡ s ∷ legal_front net (after net w s) (rest_after xs s) ss
  unfolding legal_front
  front_on w xs s ss a c = if_true (is_allowed net w xs s) _ _ a ∙ ap (λ l. s ∷ l) (if_false (is_cut_off net (after net w s)) _ _ c)

  pub front_cut : (w : World) (xs : List External) (s : Step) (ss : List Step) → is_allowed net w xs s ≡ true → is_cut_off net (after net w s) ≡ true → legal_front net w xs (s ∷ ss) ≡ s ∷ []
  unfolding legal_front
  front_cut w xs s ss a c = if_true (is_allowed net w xs s) _ _ a ∙ ap (λ l. s ∷ l) (if_true (is_cut_off net (after net w s)) _ _ c)

  pub front_no : (w : World) (xs : List External) (s : Step) (ss : List Step) → is_allowed net w xs s ≡ false → legal_front net w xs (s ∷ ss) ≡ []
  unfolding legal_front
  front_no w xs s ss a = if_false (is_allowed net w xs s) _ _ a

  pub front_end : (w : World) (xs : List External) → legal_front net w xs [] ≡ []
  unfolding legal_front
  front_end w xs = refl

  module _ (feed : List External) where
    abbrev all_answer : List Step → Ended
    all_answer steps = rerun net (opening (routers net)) feed 0 steps

    abbrev all_front : List Step → List Step
    all_front steps = legal_front net (opening (routers net)) feed steps

    -- steps that begin with the journal come to what those behind it come to
    pub record Follows (f : Fabric S) (xs : List External) : Type 0 where
      pub answer : (ss : List Step) → all_answer (f.journal ++ ss) ≡ rerun net f.live.world xs (length f.journal) ss
      pub front : (ss : List Step) → all_front (f.journal ++ ss) ≡ f.journal ++ legal_front net f.live.world xs ss

    pub follows_on : (f now : Fabric S) (xs : List External) (s : Step) → Follows f xs → is_allowed net f.live.world xs s ≡ true → now ≡ stepped net f s → now.live.cut ≡ false → Follows now (rest_after xs s)
    follows_on f now xs s t a e c =
        let w = f.live.world in
        let cut : is_cut_off net (after net w s) ≡ false = ap (λ (n : Fabric S). n.live.cut) (sym e) ∙ c in
        let count : suc (length f.journal) ≡ length (f.journal ++ s ∷ []) = omega (arith, length-append f.journal (s ∷ [])) in
        let on : Follows (stepped net f s) (rest_after xs s) = record {
          answer = λ ss. ap all_answer (append_assoc f.journal (s ∷ []) ss) ∙ t.answer (s ∷ ss) ∙ rerun_on w xs (length f.journal) s ss a cut
              ∙ ap (λ n. rerun net (after net w s) (rest_after xs s) n ss) count;
          front = λ ss. ap all_front (append_assoc f.journal (s ∷ []) ss) ∙ t.front (s ∷ ss) ∙ ap (λ l. f.journal ++ l) (front_on w xs s ss a cut)
              ∙ sym (append_assoc f.journal (s ∷ []) (legal_front net (after net w s) (rest_after xs s) ss));
        } in
        subst (λ n. Follows n (rest_after xs s)) (sym e) on

    -- ---- ends

    pub answer_end : (f : Fabric S) (xs : List External) (steps : List Step) → Follows f xs → steps ≡ f.journal → end_of net.header f.live.world ≡ all_answer steps
    answer_end f xs steps t e = sym (ap all_answer (e ∙ sym (append-nil f.journal)) ∙ t.answer [] ∙ rerun_end f.live.world xs (length f.journal))

    pub front_all : (f : Fabric S) (xs : List External) (steps : List Step) → Follows f xs → steps ≡ f.journal → f.journal ≡ all_front steps
    front_all f xs steps t e =
        sym (ap all_front (e ∙ sym (append-nil f.journal)) ∙ t.front [] ∙ ap (λ l. f.journal ++ l) (front_end f.live.world xs) ∙ append-nil f.journal)

    pub answer_no : (f : Fabric S) (xs : List External) (steps more : List Step) (s : Step) → Follows f xs → is_allowed net f.live.world xs s ≡ false → steps ≡ f.journal ++ s ∷ more → Illegal (length f.journal + 1) ≡ all_answer steps
    answer_no f xs steps more s t a e =
        sym (ap all_answer e ∙ t.answer (s ∷ more) ∙ rerun_no f.live.world xs (length f.journal) s more a ∙ ap Illegal (omega arith))

    pub front_before : (f : Fabric S) (xs : List External) (steps more : List Step) (s : Step) → Follows f xs → is_allowed net f.live.world xs s ≡ false → steps ≡ f.journal ++ s ∷ more → f.journal ≡ all_front steps
    front_before f xs steps more s t a e =
        sym (ap all_front e ∙ t.front (s ∷ more) ∙ ap (λ l. f.journal ++ l) (front_no f.live.world xs s more a) ∙ append-nil f.journal)

    pub answer_cut : (f now : Fabric S) (xs : List External) (steps more : List Step) (s : Step) → Follows f xs → is_allowed net f.live.world xs s ≡ true → now ≡ stepped net f s → now.live.cut ≡ true → steps ≡ f.journal ++ s ∷ more → Cut ≡ all_answer steps
    answer_cut f now xs steps more s t a n c e =
        let cut : is_cut_off net (after net f.live.world s) ≡ true = ap (λ (n : Fabric S). n.live.cut) (sym n) ∙ c in
        sym (ap all_answer e ∙ t.answer (s ∷ more) ∙ rerun_cut f.live.world xs (length f.journal) s more a cut)

    pub front_to_cut : (f now : Fabric S) (xs : List External) (steps more : List Step) (s : Step) → Follows f xs → is_allowed net f.live.world xs s ≡ true → now ≡ stepped net f s → now.live.cut ≡ true → steps ≡ f.journal ++ s ∷ more → now.journal ≡ all_front steps
    front_to_cut f now xs steps more s t a n c e =
        let cut : is_cut_off net (after net f.live.world s) ≡ true = ap (λ (n : Fabric S). n.live.cut) (sym n) ∙ c in
        ap (λ (n : Fabric S). n.journal) n ∙ sym (ap all_front e ∙ t.front (s ∷ more) ∙ ap (λ l. f.journal ++ l) (front_cut f.live.world xs s more a cut))
