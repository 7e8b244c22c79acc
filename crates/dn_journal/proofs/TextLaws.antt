-- The text of a journal, cut into lines again.
use Rattle.std.proofs.Common.{◌≡◌, ℕ, ◌<◌, ◌^◌, true, false, cond, eqb, List, [], ◌∷◌, ◌++◌, length, map, refl, sym, ap, ◌∙◌, arith, append_assoc, codes}
use Rattle.std.specs.List.{concat, flat_map, onto_first, AllByRecursion}
use Rattle.std.proofs.Math.Seq.{take-append_seam}
use Rattle.dn_guest.specs.KeepsFront.{KeepsFront}
use Rattle.std.specs.Fmt.{decimal}
use Rattle.std.proofs.lemmas.Bool.{eqb-true}
use Rattle.std.proofs.lemmas.List.{append-nil}
use Rattle.std.proofs.lemmas.List.Folds.{concat-append}
use Rattle.dn_model.specs.Routers.{name_at}
use Rattle.dn_model.specs.Links.{ports_of}
use Rattle.dn_model.specs.Cases.{Heading, IsHeading}
use Rattle.dn_text.specs.Lines.{lines}
use Rattle.dn_world.specs.declared.step.Step.{Step}
use Rattle.dn_world.specs.declared.step.Step.TheVariants.{Beacon, Inject, Close, Deliver, Handle, RollBack, Commit}
use Rattle.dn_case.specs.Spelling.{spelled, external_line}
use Rattle.dn_case.proofs.Fields.{free, free-append, decimal_free, name_free}
use Rattle.dn_case.proofs.RoundTrip.{read_again, ports_few, external_spellable}
use Rattle.dn_case.proofs.Fronts.{line_then, spelled_is}
use Rattle.dn_journal.specs.Spelling.{IsStep, step_line, end_line, journal_lines, journal_text}
use Rattle.dn_journal.specs.Reading.{IsJournal}
use Rattle.dn_journal.proofs.StepLaws.{external_of_step}

-- ---- the lines of a text, joined

onto_joined : (c : ℕ) (ls : List (List ℕ)) → concat (onto_first c ls) ≡ c ∷ concat ls
onto_joined c [] = refl
onto_joined c (l ∷ ls) = refl

pub lines_joined : (text : List ℕ) → concat (lines text) ≡ text
lines_joined [] = refl
lines_joined (c ∷ text) =
    elim (eqb c 10) as (λ b. eqb c 10 ≡ b → concat (cond b ((10 ∷ []) ∷ lines text) (onto_first c (lines text))) ≡ c ∷ text) [
      | true ↦ λ is. ap (λ (x : List ℕ). 10 ∷ x) (lines_joined text) ∙ ap (λ (x : ℕ). x ∷ text) (sym (eqb-true c 10 is))
      | false ↦ λ _. onto_joined c (lines text) ∙ ap (λ (x : List ℕ). c ∷ x) (lines_joined text)
    ] refl

pub one_text : (h : Heading) (text : List ℕ) (steps : List Step) → IsJournal h (lines text) steps → text ≡ journal_text h steps
unfolding journal_text
one_text h text steps is = sym (lines_joined text) ∙ ap concat is.is

-- ---- the lines of a journal, cut again

-- a text without a newline, and a newline
record IsLine (line : List ℕ) : Type 0 where
  text : List ℕ
  is : line ≡ text ++ 10 ∷ []
  plain : free 10 text ≡ true

line_first : (line rest : List ℕ) → IsLine line → lines (line ++ rest) ≡ line ∷ lines rest
line_first line rest l =
    ap lines (ap (λ (x : List ℕ). x ++ rest) l.is ∙ append_assoc l.text (10 ∷ []) rest) ∙ line_then l.text rest l.plain ∙ ap (λ (x : List ℕ). x ∷ lines rest) (sym l.is)

abbrev AreLines : List (List ℕ) → Type 0
AreLines ls = AllByRecursion IsLine ls

lines_again : (ls : List (List ℕ)) → AreLines ls → lines (concat ls) ≡ ls
lines_again [] all = refl
lines_again (l ∷ ls) all = line_first l (concat ls) all.0 ∙ ap (λ (x : List (List ℕ)). l ∷ x) (lines_again ls all.1)

behind_word : (word text : List ℕ) → free 10 word ≡ true → free 10 text ≡ true → IsLine (word ++ (text ++ 10 ∷ []))
behind_word word text p q = record { text = word ++ text; is = sym (append_assoc word text (10 ∷ [])); plain = free-append 10 word text p q }

injected : (word line : List ℕ) → free 10 word ≡ true → IsLine line → IsLine (word ++ line)
injected word line p l =
    record { text = word ++ l.text; is = ap (λ (x : List ℕ). word ++ x) l.is ∙ sym (append_assoc word l.text (10 ∷ [])); plain = free-append 10 word l.text p l.plain }

named : (h : Heading) (r : ℕ) → IsHeading h → r < length h.routers → free 10 (name_at h.routers r) ≡ true
named h r k inside = name_free 10 (name_at h.routers r) (omega arith) (read_again h.routers r k.routers inside).named

step_is_line : (h : Heading) (s : Step) → IsHeading h → IsStep h s → IsLine (step_line h s)
step_is_line h Beacon k is = record { text = codes "beacon"; is = refl; plain = refl }
step_is_line h (Inject x) k is =
    let e = external_of_step h x is in
    let name = (read_again h.routers x.router k.routers e.router).named in
    let small : x.group < 2 ^ 64 = omega (arith, e.group, k.groups.1) in
    let can = external_spellable (ports_of h.links x.router) x.group (name_at h.routers x.router) x.input small name (ports_few (length h.routers) x.router h.links k.links) e.asked in
    let text = spelled_is (external_line h.routers x) can in
    injected (codes "inject ") (spelled (external_line h.routers x)) refl (record { text = text.0; is = text.1; plain = text.2 })
step_is_line h Close k is = record { text = codes "close"; is = refl; plain = refl }
step_is_line h (Deliver place) k is = behind_word (codes "deliver ") (decimal place) refl (decimal_free 10 place (omega arith) is.fits)
step_is_line h (Handle r) k is = behind_word (codes "handle ") (name_at h.routers r) refl (named h r k is.of)
step_is_line h (RollBack r) k is = behind_word (codes "rollback ") (name_at h.routers r) refl (named h r k is.of)
step_is_line h Commit k is = record { text = codes "commit"; is = refl; plain = refl }

steps_are_lines : (h : Heading) (steps : List Step) (n : ℕ) → IsHeading h → n < 2 ^ 64 → AllByRecursion (IsStep h) steps → AreLines (map (step_line h) steps ++ end_line n ∷ [])
steps_are_lines h [] n k small all = (behind_word (codes "end journal ") (decimal n) refl (decimal_free 10 n (omega arith) small), tt)
steps_are_lines h (s ∷ steps) n k small all = (step_is_line h s k all.0, steps_are_lines h steps n k small all.1)

pub journal_again : (h : Heading) (steps : List Step) → IsHeading h → AllByRecursion (IsStep h) steps → length steps < 2 ^ 64 → IsJournal h (lines (journal_text h steps)) steps
unfolding journal_text
journal_again h steps k all small =
    let opens : IsLine (codes "journal\n") = record { text = codes "journal"; is = refl; plain = refl } in
    record { are = all; is = lines_again (journal_lines h steps) (opens, steps_are_lines h steps (length steps) k small all) }

-- ---- the text, part by part

mapped : (h : Heading) (steps : List Step) → concat (map (step_line h) steps) ≡ flat_map (step_line h) steps
mapped h [] = refl
mapped h (s ∷ steps) = ap (λ (x : List ℕ). step_line h s ++ x) (mapped h steps)

pub text_parts : (h : Heading) (steps : List Step) → journal_text h steps ≡ codes "journal\n" ++ (flat_map (step_line h) steps ++ end_line (length steps))
unfolding journal_text
text_parts h steps =
    ap (λ (x : List ℕ). codes "journal\n" ++ x)
    (concat-append (map (step_line h) steps) (end_line (length steps) ∷ []) ∙ ap (λ (x : List ℕ). x ++ concat (end_line (length steps) ∷ [])) (mapped h steps) ∙ ap (λ (x : List ℕ). flat_map (step_line h) steps ++ x) (append-nil (end_line (length steps))))

pub written : (h : Heading) (steps : List Step) (o0 o1 o2 o3 : List ℕ) → o1 ≡ o0 ++ codes "journal\n" → o2 ≡ o1 ++ flat_map (step_line h) steps → o3 ≡ o2 ++ end_line (length steps) → o3 ≡ o0 ++ journal_text h steps
written h steps o0 o1 o2 o3 a b c =
    let f = flat_map (step_line h) steps in
    let last = end_line (length steps) in
    c ∙ ap (λ (x : List ℕ). x ++ last) (b ∙ ap (λ (x : List ℕ). x ++ f) a) ∙ append_assoc (o0 ++ codes "journal\n") f last ∙ append_assoc o0 (codes "journal\n") (f ++ last)
    ∙ ap (λ (x : List ℕ). o0 ++ x) (sym (text_parts h steps))

pub keeps_more : (a b : List ℕ) → KeepsFront a (a ++ b)
keeps_more a b = take-append_seam a b
