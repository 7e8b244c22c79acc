-- What reading line by line says of the whole text.
use Rattle.std.proofs.Common.{◌≡◌, ℕ, ◌+◌, ◌-◌, ◌≤◌, ◌<◌, suc, zero, true, false, cond, List, [], ◌∷◌, ◌++◌, length, take, Option, Some, None, Result, Ok, Err, refl, sym, ap, subst, ◌∙◌, arith, inl, inr}
use Rattle.std.specs.Prelude.{slice_get}
use Rattle.std.specs.List.{concat}
use Rattle.std.proofs.lemmas.List.{length-append}
use Rattle.dn_case.specs.declared.standing.Standing.{Standing}
use Rattle.dn_case.specs.declared.cause.Cause.{Cause}
use Rattle.dn_case.specs.declared.cause.Cause.TheVariants as cause
use Rattle.dn_case.specs.declared.place.Place.{Place}
use Rattle.dn_case.specs.declared.place.Place.TheVariants as place
use Rattle.dn_model.specs.Cases.{Recording, IsRecording}
use Rattle.dn_case.specs.declared.cause.CaseFault.{CaseFault}
use Rattle.dn_case.specs.declared.cause.CaseError.{CaseError}
use Rattle.dn_case.specs.declared.cause.CaseError.TheVariants as errors
use Rattle.dn_text.specs.Lines.{lines}
use Rattle.std.proofs.lemmas.Bool.{cases_lt}
use Rattle.dn_case.specs.Standings.{start, is_end, may_follow, place_of, read_line}
use Rattle.dn_case.specs.Reading.{Leads, case_of, IsCaseText, BeginsCaseText, IsCause, IsFirstBad, IsCaseFront, HasNoCase, Faults, OnFault, goes, reads}
use Rattle.dn_case.proofs.Leading.{leads_split, leads_same, front_of, front_next, front_all}
use Rattle.dn_case.proofs.Taken.{is_taken}
use Rattle.dn_case.proofs.Finishing.{begins}
use Rattle.dn_case.proofs.Sound.{Sound, leads_sound, start_sound}

abbrev Read : Type 0
Read = Result (Standing × ℕ) CaseFault

end_is : (p : Place) → is_end p ≡ true → p ≡ place.End
end_is place.End e = refl
end_is _ e = absurd cc

end_not : (p : Place) → is_end p ≡ false → ¬ (p ≡ place.End)
end_not p e q = let r : is_end p ≡ true = ap is_end q in cc

pub record FoundAt (s : Standing) (used : ℕ) (ls : List (List ℕ)) (t : Standing) (m : ℕ) : Type 0 where
  pub count : ℕ
  pub leads : Leads s (take count ls) t
  pub ends : t.place ≡ place.End
  pub long : m ≡ used + length (concat (take count ls))

ok_is : (x y : Standing × ℕ) → ◌≡◌ {A = Read} (Ok x) (Ok y) → x ≡ y
ok_is x y e = cc

pair_is : (t u : Standing) (m n : ℕ) → ◌≡◌ {A = Read} (Ok (t, m)) (Ok (u, n)) → (t ≡ u) × (m ≡ n)
pair_is t u m n e =
    let same : ◌≡◌ {A = Standing × ℕ} (t, m) (u, n) = ok_is (t, m) (u, n) e in
    (ap (λ (p : Standing × ℕ). p.0) same, ap (λ (p : Standing × ℕ). p.1) same)

pub found_at : (ls : List (List ℕ)) (s : Standing) (number used : ℕ) (t : Standing) (m : ℕ) → reads s number used ls ≡ Ok (t, m) → FoundAt s used ls t m
found_at [] s number used t m e = absurd cc
found_at (text ∷ more) s number used t m e =
    let long = used + length text in
    elim (read_line s text) as (λ r. read_line s text ≡ r → goes r number long (λ t. reads t (number + 1) long more) ≡ Ok (t, m) → FoundAt s used (text ∷ more) t m) [
      | Err c ↦ λ _ e. absurd cc
      | Ok u ↦ λ is e.
          elim (is_end u.place) as (λ b. is_end u.place ≡ b → cond b (Ok (u, long)) (reads u (number + 1) long more) ≡ Ok (t, m) → FoundAt s used (text ∷ more) t m) [
            | true ↦ λ ended e. (
                let same = pair_is u t long m e in
                record { count = 1; leads = (u, is, same.0); ends = subst (λ (v : Standing). v.place ≡ place.End) same.0 (end_is u.place ended); long = sym same.1 ∙ omega (arith, length-append text []) })
            | false ↦ λ _ e. (
                let f = found_at more u (number + 1) long t m e in
                record { count = suc f.count; leads = (u, is, f.leads); ends = f.ends; long = f.long ∙ omega (arith, length-append text (concat (take f.count more))) })
          ] refl e
    ] refl e

pub record FaultAt (s : Standing) (number : ℕ) (ls : List (List ℕ)) (f : CaseFault) : Type 0 where
  pub count : ℕ
  pub within : count ≤ length ls
  pub line : f.line ≡ number + count
  pub last : Standing
  pub leads : Leads s (take count ls) last
  pub goes_on : is_end last.place ≡ false
  pub holds : IsCause last (slice_get ls count) f.cause

fault_is : (f g : CaseFault) → ◌≡◌ {A = Read} (Err f) (Err g) → f ≡ g
fault_is f g e = cc

pub fault_at : (ls : List (List ℕ)) (s : Standing) (number used : ℕ) (f : CaseFault) → is_end s.place ≡ false → reads s number used ls ≡ Err f → FaultAt s number ls f
fault_at [] s number used f open_ e =
    let same = fault_is (record { line = number; cause = cause.Ended }) f e in
    record { count = 0; within = omega arith; line = ap (λ (g : CaseFault). g.line) (sym same) ∙ omega arith; last = s; leads = refl; goes_on = open_; holds = ap (λ (g : CaseFault). g.cause) (sym same) }
fault_at (text ∷ more) s number used f open_ e =
    let long = used + length text in
    elim (read_line s text) as (λ r. read_line s text ≡ r → goes r number long (λ t. reads t (number + 1) long more) ≡ Err f → FaultAt s number (text ∷ more) f) [
      | Err c ↦ λ is e. (
          let same = fault_is (record { line = number; cause = c }) f e in
          record { count = 0; within = omega arith; line = ap (λ (g : CaseFault). g.line) (sym same) ∙ omega arith; last = s; leads = refl; goes_on = open_; holds = is ∙ ap (λ (g : CaseFault). Err g.cause) same })
      | Ok u ↦ λ is e.
          elim (is_end u.place) as (λ b. is_end u.place ≡ b → cond b (Ok (u, long)) (reads u (number + 1) long more) ≡ Err f → FaultAt s number (text ∷ more) f) [
            | true ↦ λ _ e. absurd cc
            | false ↦ λ going e. (
                let k = fault_at more u (number + 1) long f going e in
                record { count = suc k.count; within = omega (arith, k.within); line = omega (arith, k.line); last = k.last; leads = (u, is, k.leads); goes_on = k.goes_on; holds = k.holds })
          ] refl e
    ] refl e

-- ---- the first bad line

begun : (xs ys : List (List ℕ)) → BeginsCaseText (xs ++ ys) → (t : Standing) × Leads start xs t
begun xs ys b =
    let parts = leads_split (xs ++ ys) b.more start b.whole.last b.whole.leads in
    let front = leads_split xs ys start parts.0 parts.1 in
    (front.0, front.1)

-- with the bad line nothing is begun
none_with : (xs : List (List ℕ)) (text : List ℕ) (t : Standing) (c : Cause) → Leads start xs t → read_line t text ≡ Err c → BeginsCaseText (xs ++ text ∷ []) → ⊥
none_with xs text t c leads is b =
    let whole = leads_split (xs ++ text ∷ []) b.more start b.whole.last b.whole.leads in
    let front = leads_split xs (text ∷ []) start whole.0 whole.1 in
    let same = leads_same xs start front.0 t front.1 leads in
    let read : read_line t text ≡ Ok front.2.0 = subst (λ (v : Standing). read_line v text ≡ Ok front.2.0) same front.2.1 in
    cc

some_at : (ls : List (List ℕ)) (n : ℕ) (text : List ℕ) → slice_get ls n ≡ Some text → suc n ≤ length ls
some_at [] n text is = absurd cc
some_at (l ∷ ls) zero text is = omega arith
some_at (l ∷ ls) (suc n) text is = let rest = some_at ls n text is in omega (arith, rest)

past : (ls : List (List ℕ)) (n : ℕ) → slice_get ls n ≡ None → length ls ≤ n
past [] n is = omega arith
past (l ∷ ls) zero is = absurd cc
past (l ∷ ls) (suc n) is = let rest = past ls n is in omega (arith, rest)

bad_at : (ls : List (List ℕ)) (n : ℕ) (t : Standing) (o : Option (List ℕ)) (c : Cause) → slice_get ls n ≡ o → suc n ≤ length ls → Leads start (take n ls) t → IsCause t o c → BeginsCaseText (take (suc n) ls) → ⊥
bad_at ls n t None c is within leads holds b = absurd (let p = past ls n is in omega (arith, p, within))
bad_at ls n t (Some text) c is within leads holds b =
    none_with (take n ls) text t c leads holds (subst (λ (x : List (List ℕ)). BeginsCaseText x) (front_next n ls text is) b)

begins_before : (ls : List (List ℕ)) (n : ℕ) (t : Standing) → Leads start (take n ls) t → (m : ℕ) → m < suc n → BeginsCaseText (take m ls)
begins_before ls n t leads m less =
    let front = front_of m n ls (omega arith) in
    let parts = leads_split (take m ls) front.0 start t (subst (λ (x : List (List ℕ)). Leads start x t) front.1 leads) in
    begins (take m ls) parts.0 parts.1

-- ---- no front is a case text

pub end_last : (p q : Place) → p ≡ place.End → may_follow p q ≡ true → ⊥
unfolding may_follow
end_last place.End q e m = cc
end_last place.Start q e m = let r : is_end place.Start ≡ true = ap is_end e in cc
end_last place.Version q e m = let r : is_end place.Version ≡ true = ap is_end e in cc
end_last place.Period q e m = let r : is_end place.Period ≡ true = ap is_end e in cc
end_last place.Groups q e m = let r : is_end place.Groups ≡ true = ap is_end e in cc
end_last place.Seed q e m = let r : is_end place.Seed ≡ true = ap is_end e in cc
end_last place.Router q e m = let r : is_end place.Router ≡ true = ap is_end e in cc
end_last place.Link q e m = let r : is_end place.Link ≡ true = ap is_end e in cc
end_last place.Prefix q e m = let r : is_end place.Prefix ≡ true = ap is_end e in cc
end_last place.Feed q e m = let r : is_end place.Feed ≡ true = ap is_end e in cc
end_last place.External q e m = let r : is_end place.External ≡ true = ap is_end e in cc

ended : (rest : List (List ℕ)) (u t : Standing) → Leads u rest t → u.place ≡ place.End → is_end t.place ≡ false → ⊥
ended [] u t leads e going = let r : is_end t.place ≡ true = subst (λ (v : Standing). is_end v.place ≡ true) leads (ap is_end e) in cc
ended (x ∷ rest) u t leads e going =
    let k = is_taken u x leads.0 leads.1 in
    end_last u.place (place_of k.line) e k.follows

no_case_here : (ls : List (List ℕ)) (n k : ℕ) (o : Option (List ℕ)) (t : Standing) (c : Cause) (case : Recording) → slice_get ls n ≡ o → n < k → Leads start (take n ls) t → is_end t.place ≡ false → IsCause t o c → IsCaseText (take k ls) case → ⊥
no_case_here ls n k None t c case is more leads going holds w =
    let same = leads_same (take n ls) start t w.last leads (subst (λ (x : List (List ℕ)). Leads start x w.last) (front_all n k ls is (omega arith)) w.leads) in
    end_not t.place going (subst (λ (v : Standing). v.place ≡ place.End) (sym same) w.ends)
no_case_here ls n k (Some text) t c case is more leads going holds w =
    let front = front_of (suc n) k ls (omega arith) in
    let some : suc n ≤ length ls = some_at ls n text is in
    bad_at ls n t (Some text) c is some leads holds
    (record { more = front.0; case = case; whole = subst (λ (x : List (List ℕ)). IsCaseText x case) front.1 w })

pub no_case : (ls : List (List ℕ)) (f : CaseFault) → FaultAt start 1 ls f → (k : ℕ) (case : Recording) → IsCaseText (take k ls) case → ⊥
no_case ls f at k case w =
    elim (cases_lt at.count k) [
      | inl more ↦ no_case_here ls at.count k (slice_get ls at.count) at.last f.cause case refl more at.leads at.goes_on at.holds w
      | inr le ↦ (
          let front = front_of k at.count ls le in
          let parts = leads_split (take k ls) front.0 start at.last (subst (λ (x : List (List ℕ)). Leads start x at.last) front.1 at.leads) in
          let same = leads_same (take k ls) start w.last parts.0 w.leads parts.1 in
          ended front.0 parts.0 at.last parts.2 (subst (λ (v : Standing). v.place ≡ place.End) same w.ends) at.goes_on)
    ]

first_bad_next : (ls : List (List ℕ)) (n : ℕ) (t : Standing) (c : Cause) → n ≤ length ls → Leads start (take n ls) t → IsCause t (slice_get ls n) c → IsFirstBad ls (suc n) c
first_bad_next ls n t c within leads holds =
    let e : suc n - 1 ≡ n = omega arith in
    record {
      counted = (omega arith, omega arith);
      before = begins_before ls n t leads;
      bad = λ some. bad_at ls n t (slice_get ls n) c refl some leads holds;
      last = t;
      leads = subst (λ (k : ℕ). Leads start (take k ls) t) (sym e) leads;
      holds = subst (λ (k : ℕ). IsCause t (slice_get ls k) c) (sym e) holds;
    }

pub first_bad : (ls : List (List ℕ)) (f : CaseFault) → FaultAt start 1 ls f → IsFirstBad ls f.line f.cause
first_bad ls f at =
    let e : suc at.count ≡ f.line = omega (arith, at.line) in
    subst (λ (n : ℕ). IsFirstBad ls n f.cause) e (first_bad_next ls at.count at.last f.cause at.within at.leads at.holds)

-- ---- what a function that reads so gives

pub is_found : (text : List ℕ) (t : Standing) (m : ℕ) → reads start 1 0 (lines text) ≡ Ok (t, m) → IsCaseFront text (case_of t) m
is_found text t m e =
    let f = found_at (lines text) start 1 0 t m e in
    record { count = f.count; whole = record { last = t; leads = f.leads; ends = f.ends; says = refl }; long = f.long ∙ omega arith }

pub is_fault : (text : List ℕ) (e : CaseError) → Faults e (reads start 1 0 (lines text)) → OnFault {X = Recording × ℕ} (Err e) (λ f. IsFirstBad (lines text) f.line f.cause)
is_fault text errors.NoMemory h = tt
is_fault text (errors.Fault f) h = first_bad (lines text) f (fault_at (lines text) start 1 0 f refl h)

pub has_none : (text : List ℕ) (e : CaseError) → Faults e (reads start 1 0 (lines text)) → OnFault {X = Recording × ℕ} (Err e) (λ f. HasNoCase text)
has_none text errors.NoMemory h = tt
has_none text (errors.Fault f) h = no_case (lines text) f (fault_at (lines text) start 1 0 f refl h)

-- ---- the case that is found meets the rules

ended_sound : (p : Place) (c : Recording) → p ≡ place.End → Sound p c → IsRecording c
ended_sound place.End c e h = h
ended_sound place.External c e h = h
ended_sound place.Feed c e h = h
ended_sound place.Prefix c e h = h.0
ended_sound place.Link c e h = h.0
ended_sound place.Router c e h = h.0
ended_sound place.Seed c e h = absurd cc
ended_sound place.Groups c e h = absurd cc
ended_sound place.Period c e h = absurd cc
ended_sound place.Version c e h = absurd cc
ended_sound place.Start c e h = absurd cc

pub meets_rules : (text : List ℕ) (t : Standing) (m : ℕ) → reads start 1 0 (lines text) ≡ Ok (t, m) → IsRecording (case_of t)
meets_rules text t m e =
    let f = found_at (lines text) start 1 0 t m e in
    ended_sound t.place (case_of t) f.ends (leads_sound (take f.count (lines text)) start t f.leads start_sound)
