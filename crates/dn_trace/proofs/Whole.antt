-- A trace that is written or compared piece by piece.
use Rattle.std.proofs.Common.{◌≡◌, ◌≢◌, ℕ, zero, suc, ◌+◌, ◌<◌, ◌≤◌, true, false, List, [], ◌∷◌, ◌++◌, length, take, drop, get_or, Option, Some, None, refl, sym, ap, ◌∙◌, subst, append_assoc, append-nil, arith}
use Rattle.std.specs.Prelude.{slice_get, nat_lt}
use Rattle.std.proofs.lemmas.Bool.{ltb-true, ltb-false}
use Rattle.std.proofs.lemmas.List.{take_all, take-append-le, length-append, length-take-le, length-drop}
use Rattle.std.proofs.lemmas.Option.{slice_get_past, slice_get-get_or}
use Rattle.std.proofs.Math.Seq.{take-add}
use Rattle.dn_io.specs.Streams.{behind, PutsFront, PutsOrKeeps}
use Rattle.dn_io.proofs.StreamLaws.{PutsFront-longer, PutsOrKeeps-flush}
use Rattle.dn_lists.proofs.Lists.{by_test}
use Rattle.dn_model.specs.declared.feed.External.{External}
use Rattle.dn_model.specs.Network.{Network}
use Rattle.dn_model.specs.Settled.{is_cut}
use Rattle.dn_trace.specs.declared.compare.Checked.TheVariants as checked
use Rattle.dn_trace.specs.declared.stream.Ending.{Ending}
use Rattle.dn_trace.specs.declared.stream.Ending.TheVariants as ending
use Rattle.dn_trace.specs.declared.stream.Stage.{Stage}
use Rattle.dn_trace.specs.declared.stream.Stage.TheVariants as stage
use Rattle.dn_trace.specs.Trace.{trace_text}
use Rattle.dn_trace.specs.Differing.{DiffersAt}
use Rattle.dn_trace.specs.Streaming.{to_come, ended_of, end_of, checked_of, EndsRightly}
use Rattle.dn_trace.proofs.Fronts.{front_of_kept, kept_more, all_to_come}

-- ---- stages

pub ended_means : (s : Stage) (e : Ending) → Some e ≡ ended_of s → s ≡ stage.Ended e
ended_means stage.Opening e is = cc
ended_means stage.Rows e is = cc
ended_means (stage.Ended f) e is = let same : e ≡ f = cc in ap stage.Ended (sym same)

module _ {S : Type 0} (net : Network S) (feed : List External) where
  -- at the opening all is to come
  pub opening_text : (s : Stage) (place : ℕ) → s ≡ stage.Opening → place ≡ 0 → to_come net feed s place ≡ trace_text net feed
  unfolding to_come trace_text
  opening_text s place opens at = rw (opens, at) refl

  pub opens_rightly : (s : Stage) → s ≡ stage.Opening → EndsRightly net feed s
  opens_rightly s opens = rw opens tt

  -- at the end nothing is to come
  pub nothing_to_come : (s : Stage) (e : Ending) (place : ℕ) → Some e ≡ ended_of s → to_come net feed s place ≡ []
  unfolding to_come
  nothing_to_come s e place is = rw (ended_means s e is) refl

  pub ended_rightly : (s : Stage) (e : Ending) → Some e ≡ ended_of s → EndsRightly net feed s → EndsRightly net feed (stage.Ended e)
  ended_rightly s e is right = subst (EndsRightly net feed) (ended_means s e is) right

  -- ---- writing

  -- all is to come, and nothing is kept
  pub none_written : (told : Option (List ℕ)) (text : List ℕ) (s : Stage) (place : ℕ) → text ≡ [] → s ≡ stage.Opening → place ≡ 0 → PutsOrKeeps told told (text ++ to_come net feed s place) (trace_text net feed)
  none_written told text s place none opens at =
      let P : List ℕ → Type 0 = λ l. PutsOrKeeps told told l (trace_text net feed) in
      let same : trace_text net feed ≡ text ++ to_come net feed s place = sym (ap (λ (l : List ℕ). l ++ to_come net feed s place) none ∙ opening_text s place opens at) in
      subst P same (all_to_come told (trace_text net feed))

  -- a front of what is gathered is a front of the trace
  pub front_of_gathered : (old then now : Option (List ℕ)) (text : List ℕ) (s : Stage) (place : ℕ) → PutsOrKeeps old then (text ++ to_come net feed s place) (trace_text net feed) → PutsFront then now text → PutsFront old now (trace_text net feed)
  front_of_gathered old then now text s place first front =
      front_of_kept old then now (text ++ to_come net feed s place) (trace_text net feed) first (PutsFront-longer (to_come net feed s place) front)

  -- what was gathered was handed over in part
  pub handed_over : (old then now : Option (List ℕ)) (text left : List ℕ) (s : Stage) (place : ℕ) → PutsOrKeeps old then (text ++ to_come net feed s place) (trace_text net feed) → PutsOrKeeps then now left text → PutsOrKeeps old now (left ++ to_come net feed s place) (trace_text net feed)
  handed_over old then now text left s place first second = PutsOrKeeps-flush first (kept_more then now left text (to_come net feed s place) second)

  -- the next piece was gathered
  pub gathered : (old now : Option (List ℕ)) (text more : List ℕ) (s t : Stage) (place next : ℕ) → PutsOrKeeps old now (text ++ to_come net feed s place) (trace_text net feed) → more ++ to_come net feed t next ≡ text ++ to_come net feed s place → PutsOrKeeps old now (more ++ to_come net feed t next) (trace_text net feed)
  gathered old now text more s t place next first same =
      let P : List ℕ → Type 0 = λ l. PutsOrKeeps old now l (trace_text net feed) in
      subst P (sym same) first

  -- all was gathered
  all_gathered : (old now : Option (List ℕ)) (text : List ℕ) (s : Stage) (e : Ending) (place : ℕ) → PutsOrKeeps old now (text ++ to_come net feed s place) (trace_text net feed) → Some e ≡ ended_of s → PutsOrKeeps old now text (trace_text net feed)
  all_gathered old now text s e place first is =
      let P : List ℕ → Type 0 = λ l. PutsOrKeeps old now l (trace_text net feed) in
      subst P (ap (λ (l : List ℕ). text ++ l) (nothing_to_come s e place is) ∙ append-nil text) first

  -- all was written
  pub all_written : (old then now : Option (List ℕ)) (text : List ℕ) (s : Stage) (e : Ending) (place : ℕ) → PutsOrKeeps old then (text ++ to_come net feed s place) (trace_text net feed) → Some e ≡ ended_of s → now ≡ behind then text → now ≡ behind old (trace_text net feed)
  all_written old then now text s e place first is put =
      let all : PutsOrKeeps old then text (trace_text net feed) = all_gathered old then text s e place first is in
      put ∙ all.whole

  -- ---- comparing

  -- what was compared is the whole trace
  same_so_far : (section : List ℕ) (at place : ℕ) (s : Stage) (e : Ending) → take at section ++ to_come net feed s place ≡ trace_text net feed → Some e ≡ ended_of s → take at section ≡ trace_text net feed
  same_so_far section at place s e same is =
      sym (append-nil (take at section)) ∙ ap (λ (l : List ℕ). take at section ++ l) (sym (nothing_to_come s e place is)) ∙ same

  pub equal_means : (section : List ℕ) (at place : ℕ) (s : Stage) (e : Ending) → at ≤ length section → take at section ++ to_come net feed s place ≡ trace_text net feed → EndsRightly net feed s → Some e ≡ ended_of s → end_of section at e ≡ checked.Equal → (section ≡ trace_text net feed) × (is_cut net feed ≡ false)
  equal_means section at place s ending.Whole within same right is equal =
      by_test (nat_lt at (length section))
      (λ h. let no : checked.Differs at ≡ checked.Equal = simp h at equal in cc)
      (λ h. (sym (take_all at section (omega (arith, ltb-false at (length section) h))) ∙ same_so_far section at place s ending.Whole same is, ended_rightly s ending.Whole is right))
  equal_means section at place s ending.Cut within same right is equal =
      by_test (nat_lt at (length section))
      (λ h. let no : checked.Differs at ≡ checked.Equal = simp h at equal in cc)
      (λ h. let no : checked.Cut ≡ checked.Equal = simp h at equal in cc)

  pub cut_means : (section : List ℕ) (at place : ℕ) (s : Stage) (e : Ending) → at ≤ length section → take at section ++ to_come net feed s place ≡ trace_text net feed → EndsRightly net feed s → Some e ≡ ended_of s → end_of section at e ≡ checked.Cut → (section ≡ trace_text net feed) × (is_cut net feed ≡ true)
  cut_means section at place s ending.Cut within same right is equal =
      by_test (nat_lt at (length section))
      (λ h. let no : checked.Differs at ≡ checked.Cut = simp h at equal in cc)
      (λ h. (sym (take_all at section (omega (arith, ltb-false at (length section) h))) ∙ same_so_far section at place s ending.Cut same is, ended_rightly s ending.Cut is right))
  cut_means section at place s ending.Whole within same right is equal =
      by_test (nat_lt at (length section))
      (λ h. let no : checked.Differs at ≡ checked.Cut = simp h at equal in cc)
      (λ h. let no : checked.Equal ≡ checked.Cut = simp h at equal in cc)

  -- the trace ended, and the section goes on
  pub longer_means : (section : List ℕ) (at place : ℕ) (s : Stage) (e : Ending) → at ≤ length section → take at section ++ to_come net feed s place ≡ trace_text net feed → Some e ≡ ended_of s → (found : ℕ) → end_of section at e ≡ checked.Differs found → DiffersAt section (trace_text net feed) found
  longer_means section at place s e within same is found differs =
      by_test (nat_lt at (length section))
      (λ h.
      let here : at ≡ found = let one : checked.Differs at ≡ checked.Differs found = simp h at differs in cc in
      let trace : take at section ≡ trace_text net feed = same_so_far section at place s e same is in
      let long : length (take at section) ≡ at = length-take-le at section within in
      let size : length (trace_text net feed) ≡ at = sym (ap (λ (l : List ℕ). length l) trace) ∙ long in
      let there : slice_get section at ≡ Some (get_or section at 0) = slice_get-get_or section at 0 (ltb-true at (length section) h) in
      let past : slice_get (trace_text net feed) at ≡ None = slice_get_past (trace_text net feed) at (omega (arith, size)) in
      let fact : DiffersAt section (trace_text net feed) at = record {
        same = sym (take_all at (take at section) (omega (arith, long))) ∙ ap (take at) trace;
        within = (within, omega (arith, size));
        apart = λ e. let no : Some (get_or section at 0) ≡ None = sym there ∙ e ∙ past in cc;
      } in
      subst (DiffersAt section (trace_text net feed)) here fact)
      (λ h. not_checked e found (let r : checked_of e ≡ checked.Differs found = simp h at differs in r))
    where
      not_checked : (e : Ending) (found : ℕ) → checked_of e ≡ checked.Differs found → DiffersAt section (trace_text net feed) found
      not_checked ending.Whole found r = cc
      not_checked ending.Cut found r = cc

-- ---- places behind a front

slice_get-drop : (xs : List ℕ) (at n : ℕ) → slice_get xs (at + n) ≡ slice_get (drop at xs) n
slice_get-drop xs zero n = let e : zero + n ≡ n = omega arith in rw e refl
slice_get-drop [] (suc at) n = slice_get_past [] (suc at + n) (omega arith) ∙ sym (slice_get_past [] n (omega arith))
slice_get-drop (x ∷ xs) (suc at) n = let e : suc at + n ≡ suc (at + n) = omega arith in rw e (slice_get-drop xs at n)

slice_get-append : (xs ys : List ℕ) (n : ℕ) → n < length xs → slice_get (xs ++ ys) n ≡ slice_get xs n
slice_get-append [] ys n l = absurd (omega arith)
slice_get-append (x ∷ xs) ys zero l = refl
slice_get-append (x ∷ xs) ys (suc n) l = slice_get-append xs ys n (omega arith)

drop-front : (xs ys : List ℕ) → drop (length xs) (xs ++ ys) ≡ ys
drop-front [] ys = refl
drop-front (x ∷ xs) ys = drop-front xs ys

take-front : (xs ys : List ℕ) (n : ℕ) → take (length xs + n) (xs ++ ys) ≡ xs ++ take n ys
take-front [] ys n = let e : zero + n ≡ n = omega arith in rw e refl
take-front (x ∷ xs) ys n = let e : suc (length xs) + n ≡ suc (length xs + n) = omega arith in rw e (ap (λ (l : List ℕ). x ∷ l) (take-front xs ys n))

-- a section and a trace that begin with the same `at` bytes, and go on with these
differs_behind : (section piece rest trace : List ℕ) (at n : ℕ) → at ≤ length section → take at section ++ (piece ++ rest) ≡ trace → n ≤ length (drop at section) → n < length piece → take n (drop at section) ≡ take n piece → slice_get (drop at section) n ≢ slice_get piece n → DiffersAt section trace (at + n)
differs_behind section piece rest trace at n within same room inside equal apart =
    let front = take at section in
    let long : length front ≡ at = length-take-le at section within in
    let fact : DiffersAt section (front ++ (piece ++ rest)) (at + n) = record {
      same = take-add at n section ∙ ap (λ (l : List ℕ). front ++ l) (equal ∙ sym (take-append-le n piece rest (omega arith))) ∙ sym (take-front front (piece ++ rest) n) ∙ ap (λ (k : ℕ). take (k + n) (front ++ (piece ++ rest))) long;
      within = (omega (arith, length-drop at section), omega (arith, length-append front (piece ++ rest), length-append piece rest, long));
      apart = λ e.
          let left : slice_get section (at + n) ≡ slice_get (drop at section) n = slice_get-drop section at n in
          let right : slice_get (front ++ (piece ++ rest)) (at + n) ≡ slice_get piece n =
          ap (λ (k : ℕ). slice_get (front ++ (piece ++ rest)) (k + n)) (sym long) ∙ slice_get-drop (front ++ (piece ++ rest)) (length front) n ∙ ap (λ (l : List ℕ). slice_get l n) (drop-front front (piece ++ rest)) ∙ slice_get-append piece rest n inside in
          apart (sym left ∙ e ∙ right);
    } in
    subst (λ t. DiffersAt section t (at + n)) same fact

-- the piece stands in the section too
same_behind : (section piece rest trace : List ℕ) (at n : ℕ) → take at section ++ (piece ++ rest) ≡ trace → n ≡ length piece → take n (drop at section) ≡ take n piece → take (at + n) section ++ rest ≡ trace
same_behind section piece rest trace at n same whole equal =
    let all : take n piece ≡ piece = take_all n piece (omega (arith, whole)) in
    ap (λ (l : List ℕ). l ++ rest) (take-add at n section ∙ ap (λ (l : List ℕ). take at section ++ l) (equal ∙ all))
    ∙ append_assoc (take at section) piece rest ∙ same

module _ {S : Type 0} (net : Network S) (feed : List External) where
  pub differs_here : (section piece : List ℕ) (at n place next : ℕ) (s t : Stage) → at ≤ length section → take at section ++ to_come net feed s place ≡ trace_text net feed → piece ++ to_come net feed t next ≡ to_come net feed s place → n ≤ length (drop at section) → n < length piece → take n (drop at section) ≡ take n piece → slice_get (drop at section) n ≢ slice_get piece n → DiffersAt section (trace_text net feed) (at + n)
  differs_here section piece at n place next s t within same more room inside equal apart =
      differs_behind section piece (to_come net feed t next) (trace_text net feed) at n within (ap (λ (l : List ℕ). take at section ++ l) more ∙ same) room inside equal apart

  pub same_here : (section piece : List ℕ) (at n place next : ℕ) (s t : Stage) → take at section ++ to_come net feed s place ≡ trace_text net feed → piece ++ to_come net feed t next ≡ to_come net feed s place → n ≡ length piece → take n (drop at section) ≡ take n piece → take (at + n) section ++ to_come net feed t next ≡ trace_text net feed
  same_here section piece at n place next s t same more whole equal =
      same_behind section piece (to_come net feed t next) (trace_text net feed) at n (ap (λ (l : List ℕ). take at section ++ l) more ∙ same) whole equal
