-- Where the steps of a journal stop, and that the answer says so.
use Rattle.std.proofs.Common.{◌≡◌, ◌⊎◌, inl, inr, ℕ, suc, ◌+◌, Bool, true, false, not, ◌&&◌, List, [], ◌∷◌, ◌++◌, length, refl, sym, ap, ◌∙◌, subst, arith}
use Rattle.std.specs.Prelude.{if◌then◌else◌}
use Rattle.dn_model.specs.declared.feed.External.{External}
use Rattle.dn_model.specs.Cases.{Heading}
use Rattle.dn_model.specs.Network.{Network, routers}
use Rattle.dn_world.specs.declared.step.Step.{Step}
use Rattle.dn_world.specs.World.{World, opening, is_quiet}
use Rattle.dn_world.specs.Steps.{after}
use Rattle.dn_world.specs.Runs.{IsLegalOf, injects, is_cut_off, run, world}
use Rattle.dn_fabric.specs.Work.{can_commit}
use Rattle.dn_drive.specs.declared.ended.Ended.{Ended}
use Rattle.dn_drive.specs.declared.ended.Ended.TheVariants.{Whole, Cut, Illegal, Open}
use Rattle.dn_drive.specs.Allowed.{end_of, is_allowed, legal_front, rerun, rest_after}
use Rattle.dn_drive.specs.Outcomes.{StopsAt, StaysOpen}
use Rattle.dn_drive.proofs.Following.{rerun_on, rerun_cut, rerun_no, rerun_end, front_on, front_cut, front_no, front_end}
use Rattle.dn_drive.proofs.Going.{InputsApart, injects_on}
use Rattle.dn_drive.proofs.Journals.{taken_legal}
use Rattle.dn_drive.proofs.Ways.{allowed_parts}

-- ---- the end

is_open : (q k : Bool) → (if q && not k then Whole else Open) ≡ Open → (q ≡ false) ⊎ (k ≡ true)
is_open true true e = inr refl
is_open true false e = absurd (cc)
is_open false k e = inl refl

never_illegal : (b : Bool) (n : ℕ) → (if b then Whole else Open) ≡ Illegal n → ⊥
never_illegal true n e = cc
never_illegal false n e = cc

open_if : (q k : Bool) → (q ≡ false) ⊎ (k ≡ true) → (if q && not k then Whole else Open) ≡ Open
open_if true true l = refl
open_if true false (inl e) = absurd (cc)
open_if true false (inr e) = absurd (cc)
open_if false k l = refl

end_open : (h : Heading) (w : World) → end_of h w ≡ Open → (is_quiet w ≡ false) ⊎ (can_commit h w ≡ true)
unfolding end_of
end_open h w e = is_open (is_quiet w) (can_commit h w) e

end_legal : (h : Heading) (w : World) (n : ℕ) → end_of h w ≡ Illegal n → ⊥
unfolding end_of
end_legal h w n e = never_illegal (is_quiet w && not (can_commit h w)) n e

end_left : (h : Heading) (w : World) → (is_quiet w ≡ false) ⊎ (can_commit h w ≡ true) → end_of h w ≡ Open
unfolding end_of
end_left h w l = open_if (is_quiet w) (can_commit h w) l

tail_of : {X : Type 0} → List X → List X
tail_of [] = []
tail_of (x ∷ xs) = xs

module _ {S : Type 0} (net : Network S) where
  -- ---- from any world, after n steps

  record Stops (w : World) (xs : List External) (n m : ℕ) (ss : List Step) : Type 0 where
    before : List Step
    refused : Step
    behind : List Step
    whole : before ++ refused ∷ behind ≡ ss
    number : m ≡ suc (n + length before)
    taken : legal_front net w xs ss ≡ before
    rest : List External
    fed : injects before ++ rest ≡ xs
    not_allowed : is_allowed net (run net w before) rest refused ≡ false
    uncut : is_cut_off net (run net w before) ≡ false

  record Goes (w : World) (xs : List External) (ss : List Step) : Type 0 where
    taken : legal_front net w xs ss ≡ ss
    uncut : is_cut_off net (run net w ss) ≡ false
    left : (is_quiet (run net w ss) ≡ false) ⊎ (can_commit net.header (run net w ss) ≡ true)

  -- what an answer says of the steps
  abbrev Says : World → List External → ℕ → List Step → Ended → Type 0
  Says w xs n ss Whole = Unit {0}
  Says w xs n ss Cut = Unit {0}
  Says w xs n ss (Illegal m) = Stops w xs n m ss
  Says w xs n ss Open = Goes w xs ss

  says_none : (w : World) (xs : List External) (n : ℕ) → is_cut_off net w ≡ false → (e : Ended) → end_of net.header w ≡ e → Says w xs n [] e
  unfolding run
  says_none w xs n c Whole is = tt
  says_none w xs n c Cut is = tt
  says_none w xs n c (Illegal m) is = absurd (end_legal net.header w m is)
  says_none w xs n c Open is = record { taken = front_end net w xs; uncut = c; left = end_open net.header w is }

  says_no : (w : World) (xs : List External) (n : ℕ) (s : Step) (ss : List Step) → is_cut_off net w ≡ false → is_allowed net w xs s ≡ false → Stops w xs n (suc n) (s ∷ ss)
  unfolding run injects
  says_no w xs n s ss c a =
      record {
        before = [];
        refused = s;
        behind = ss;
        whole = refl;
        number = omega arith;
        taken = front_no net w xs s ss a;
        rest = xs;
        fed = refl;
        not_allowed = a;
        uncut = c;
      }

  says_on : InputsApart → (w : World) (xs : List External) (n : ℕ) (s : Step) (ss : List Step) → is_allowed net w xs s ≡ true → is_cut_off net (after net w s) ≡ false → (e : Ended) → Says (after net w s) (rest_after xs s) (suc n) ss e → Says w xs n (s ∷ ss) e
  unfolding run
  says_on apart w xs n s ss a c Whole p = tt
  says_on apart w xs n s ss a c Cut p = tt
  says_on apart w xs n s ss a c (Illegal m) p =
      let count = p.number in
      record {
        before = s ∷ p.before;
        refused = p.refused;
        behind = p.behind;
        whole = ap (λ l. s ∷ l) p.whole;
        number = omega (arith, count);
        taken = front_on net w xs s ss a c ∙ ap (λ l. s ∷ l) p.taken;
        rest = p.rest;
        fed = injects_on apart w xs p.rest s p.before (allowed_parts net xs w xs s a).1 p.fed;
        not_allowed = p.not_allowed;
        uncut = p.uncut;
      }
  says_on apart w xs n s ss a c Open p =
      record { taken = front_on net w xs s ss a c ∙ ap (λ l. s ∷ l) p.taken; uncut = p.uncut; left = p.left }

  says_cases : InputsApart → (w : World) (xs : List External) (n : ℕ) (s : Step) (ss : List Step) → is_cut_off net w ≡ false → (is_cut_off net (after net w s) ≡ false → Says (after net w s) (rest_after xs s) (suc n) ss (rerun net (after net w s) (rest_after xs s) (suc n) ss)) → (a c : Bool) → is_allowed net w xs s ≡ a → is_cut_off net (after net w s) ≡ c → Says w xs n (s ∷ ss) (rerun net w xs n (s ∷ ss))
  says_cases apart w xs n s ss u more true true a c = subst (Says w xs n (s ∷ ss)) (sym (rerun_cut net w xs n s ss a c)) tt
  says_cases apart w xs n s ss u more true false a c =
      subst (Says w xs n (s ∷ ss)) (sym (rerun_on net w xs n s ss a c))
      (says_on apart w xs n s ss a c (rerun net (after net w s) (rest_after xs s) (suc n) ss) (more c))
  says_cases apart w xs n s ss u more false b a c = subst (Says w xs n (s ∷ ss)) (sym (rerun_no net w xs n s ss a)) (says_no w xs n s ss u a)

  says : InputsApart → (w : World) (xs : List External) (n : ℕ) (ss : List Step) → is_cut_off net w ≡ false → Says w xs n ss (rerun net w xs n ss)
  says apart w xs n [] u = subst (Says w xs n []) (sym (rerun_end net w xs n)) (says_none w xs n u (end_of net.header w) refl)
  says apart w xs n (s ∷ ss) u =
      says_cases apart w xs n s ss u (λ c. says apart (after net w s) (rest_after xs s) (suc n) ss c) (is_allowed net w xs s) (is_cut_off net (after net w s)) refl refl

  -- ---- the other way round

  -- the first step of those that are taken was allowed, and didn't leave a cut world if those behind it lead to none
  first_cases : {A : Type 0} (w : World) (xs : List External) (s : Step) (ss ts : List Step) → legal_front net w xs (s ∷ ss) ≡ s ∷ ts → is_cut_off net (run net w (s ∷ ts)) ≡ false → (is_allowed net w xs s ≡ true → is_cut_off net (after net w s) ≡ false → legal_front net (after net w s) (rest_after xs s) ss ≡ ts → A) → (a c : Bool) → is_allowed net w xs s ≡ a → is_cut_off net (after net w s) ≡ c → A
  unfolding run legal_front tail_of
  first_cases w xs s ss ts taken uncut more true true a c =
      let none : [] ≡ ts = ap tail_of (sym (front_cut net w xs s ss a c) ∙ taken) in
      absurd (let both : true ≡ false = sym c ∙ subst (λ l. is_cut_off net (run net (after net w s) l) ≡ false) (sym none) uncut in cc)
  first_cases w xs s ss ts taken uncut more true false a c = more a c (ap tail_of (sym (front_on net w xs s ss a c) ∙ taken))
  first_cases w xs s ss ts taken uncut more false c a d = absurd (let none : [] ≡ s ∷ ts = sym (front_no net w xs s ss a) ∙ taken in cc)

  later : (w : World) (s : Step) (ss : List Step) → is_cut_off net (run net w (s ∷ ss)) ≡ false → is_cut_off net (run net (after net w s) ss) ≡ false
  unfolding run
  later w s ss uncut = uncut

  left_later : (w : World) (s : Step) (ss : List Step) → end_of net.header (run net w (s ∷ ss)) ≡ Open → end_of net.header (run net (after net w s) ss) ≡ Open
  unfolding run
  left_later w s ss left = left

  left_none : (w : World) → end_of net.header (run net w []) ≡ Open → end_of net.header w ≡ Open
  unfolding run
  left_none w left = left

  illegal_first : (w : World) (xs : List External) (n : ℕ) (s : Step) (ss : List Step) → legal_front net w xs (s ∷ ss) ≡ [] → (a c : Bool) → is_allowed net w xs s ≡ a → is_cut_off net (after net w s) ≡ c → rerun net w xs n (s ∷ ss) ≡ Illegal (suc (n + 0))
  illegal_first w xs n s ss taken true true a c = absurd (let none : s ∷ [] ≡ [] = sym (front_cut net w xs s ss a c) ∙ taken in cc)
  illegal_first w xs n s ss taken true false a c =
      absurd (let none : s ∷ legal_front net (after net w s) (rest_after xs s) ss ≡ [] = sym (front_on net w xs s ss a c) ∙ taken in cc)
  illegal_first w xs n s ss taken false c a d = rerun_no net w xs n s ss a ∙ ap Illegal (omega arith)

  illegal_from : (w : World) (xs : List External) (n : ℕ) (before behind : List Step) (s : Step) → legal_front net w xs (before ++ s ∷ behind) ≡ before → is_cut_off net (run net w before) ≡ false → rerun net w xs n (before ++ s ∷ behind) ≡ Illegal (suc (n + length before))
  illegal_from w xs n [] behind s taken uncut = illegal_first w xs n s behind taken (is_allowed net w xs s) (is_cut_off net (after net w s)) refl refl
  illegal_from w xs n (b ∷ bs) behind s taken uncut =
      first_cases w xs b (bs ++ s ∷ behind) bs taken uncut
      (λ a c front.
      rerun_on net w xs n b (bs ++ s ∷ behind) a c
      ∙ illegal_from (after net w b) (rest_after xs b) (suc n) bs behind s front (later w b bs uncut)
      ∙ ap Illegal (omega arith))
      (is_allowed net w xs b) (is_cut_off net (after net w b)) refl refl

  open_from : (w : World) (xs : List External) (n : ℕ) (ss : List Step) → legal_front net w xs ss ≡ ss → is_cut_off net (run net w ss) ≡ false → end_of net.header (run net w ss) ≡ Open → rerun net w xs n ss ≡ Open
  open_from w xs n [] taken uncut left = rerun_end net w xs n ∙ left_none w left
  open_from w xs n (s ∷ ss) taken uncut left =
      first_cases w xs s ss ss taken uncut
      (λ a c front. rerun_on net w xs n s ss a c ∙ open_from (after net w s) (rest_after xs s) (suc n) ss front (later w s ss uncut) (left_later w s ss left))
      (is_allowed net w xs s) (is_cut_off net (after net w s)) refl refl

  -- ---- from the opening world, which isn't cut

  module _ (feed : List External) (steps : List Step) where
    abbrev first : World
    first = opening (routers net)

    pub illegal_stops : InputsApart → is_cut_off net first ≡ false → (n : ℕ) → rerun net first feed 0 steps ≡ Illegal n → StopsAt net feed steps n
    illegal_stops apart uncut n is =
        let p : Stops first feed 0 n steps = subst (Says first feed 0 steps) is (says apart first feed 0 steps uncut) in
        let count = p.number in
        record {
          before = p.before;
          refused = p.refused;
          behind = p.behind;
          whole = p.whole;
          number = omega (arith, count);
          taken = p.taken;
          legal = subst (IsLegalOf net feed) p.taken (taken_legal net feed steps apart);
          rest = p.rest;
          fed = p.fed;
          not_allowed = p.not_allowed;
          uncut = p.uncut;
        }

    pub open_stays : InputsApart → is_cut_off net first ≡ false → rerun net first feed 0 steps ≡ Open → StaysOpen net feed steps
    open_stays apart uncut is =
        let p : Goes first feed steps = subst (Says first feed 0 steps) is (says apart first feed 0 steps uncut) in
        record { taken = p.taken; legal = subst (IsLegalOf net feed) p.taken (taken_legal net feed steps apart); uncut = p.uncut; left = p.left }

    pub stops_illegal : (n : ℕ) → StopsAt net feed steps n → rerun net first feed 0 steps ≡ Illegal n
    stops_illegal n p =
        let taken : legal_front net first feed (p.before ++ p.refused ∷ p.behind) ≡ p.before = ap (legal_front net first feed) p.whole ∙ p.taken in
        let count : suc (0 + length p.before) ≡ n = let number = p.number in omega (arith, number) in
        ap (rerun net first feed 0) (sym p.whole) ∙ illegal_from first feed 0 p.before p.behind p.refused taken p.uncut ∙ ap Illegal count

    pub stays_open : StaysOpen net feed steps → rerun net first feed 0 steps ≡ Open
    stays_open p = open_from first feed 0 steps p.taken p.uncut (end_left net.header (world net steps) p.left)
