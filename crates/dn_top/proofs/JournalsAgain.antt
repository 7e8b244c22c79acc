-- What is written with a journal is read as that case and that journal.
use Rattle.std.proofs.Common.{◌≡◌, ℕ, ◌<◌, ◌≤◌, ◌^◌, ◌+◌, Bool, false, true, List, [], ◌∷◌, ◌++◌, length, drop, sym, ap, subst, ◌∙◌, append_assoc}
use Rattle.std.specs.List.{AllByRecursion}
use Rattle.std.proofs.lemmas.List.{length-append}
use Rattle.std.proofs.Math.Seq.{drop-append_seam}
use Rattle.dn_model.specs.Cases.{Heading, IsHeading, Recording, IsRecording}
use Rattle.dn_world.specs.declared.step.Step.{Step}
use Rattle.dn_world.specs.Runs.{IsLegal}
use Rattle.dn_text.specs.Lines.{lines}
use Rattle.dn_case.specs.Reading.{IsCaseFront}
use Rattle.dn_case.specs.Spelling.{case_text}
use Rattle.dn_case.specs.TraceSections.{section_len}
use Rattle.dn_journal.specs.Reading.{IsJournal}
use Rattle.dn_journal.specs.Spelling.{Fits, IsOf, IsStep, journal_text}
use Rattle.dn_top.specs.Promises.{HasJournal, HasRerun, IsCaseRun, end_of_run, input_limit, journal_place, network_of, shaken, trace_of, written}

-- steps that are of a header, and whose numbers are within their types
all_steps : (h : Heading) (steps : List Step) → AllByRecursion (IsOf h) steps → AllByRecursion Fits steps → AllByRecursion (IsStep h) steps
all_steps h [] of fits = tt
all_steps h (s ∷ steps) of fits = (record { of = of.0; fits = fits.0 }, all_steps h steps of.1 fits.1)

legal_of : (c : Recording) (cut : Bool) (steps : List Step) → IsCaseRun c cut steps → IsLegal (network_of c.header) steps
legal_of c false steps run = run.ends.legal.legal
legal_of c true steps run = run.ends.legal.legal

module _ (reads : (c : Recording) (rest : List ℕ) → IsRecording c → IsCaseFront (case_text c ++ rest) c (length (case_text c))) (journals : (h : Heading) (steps : List Step) → IsHeading h → AllByRecursion (IsStep h) steps → length steps < 2 ^ 64 → IsJournal h (lines (journal_text h steps)) steps) (sections : (c : Recording) (more : List ℕ) → IsHeading c.header → section_len (trace_of c ++ more) ≡ length (trace_of c)) where
  pub journal_again : (c : Recording) (steps : List Step) → IsRecording c → AllByRecursion (IsStep c.header) steps → length steps < 2 ^ 64 → length (shaken c steps) ≤ input_limit → HasJournal (shaken c steps) c (length (case_text c)) steps
  unfolding shaken written
  journal_again c steps k all few small =
      let text = case_text c in
      let trace = trace_of c in
      let journal = journal_text c.header steps in
      let behind : drop (length text) ((text ++ trace) ++ journal) ≡ trace ++ journal = ap (λ (x : List ℕ). drop (length text) x) (append_assoc text trace journal) ∙ drop-append_seam text (trace ++ journal) in
      let place : journal_place ((text ++ trace) ++ journal) (length text) ≡ length (text ++ trace) =
      ap (λ (x : List ℕ). length text + section_len x) behind ∙ ap (λ (n : ℕ). length text + n) (sections c journal k.header) ∙ sym (length-append text trace) in
      let left : drop (journal_place ((text ++ trace) ++ journal) (length text)) ((text ++ trace) ++ journal) ≡ journal =
      ap (λ (n : ℕ). drop n ((text ++ trace) ++ journal)) place ∙ drop-append_seam (text ++ trace) journal in
      record {
        has = record {
          front = subst (λ (x : List ℕ). IsCaseFront x c (length text)) (sym (append_assoc text trace journal)) (reads c (trace ++ journal) k);
          within = small;
        };
        journal = subst (λ (x : List ℕ). IsJournal c.header (lines x) steps) (sym left) (journals c.header steps k.header all few);
      }

  pub run_again : ((steps : List Step) (c : Recording) → IsHeading c.header → IsLegal (network_of c.header) steps → AllByRecursion (IsOf c.header) steps) → (c : Recording) (cut : Bool) (steps : List Step) → IsRecording c → IsCaseRun c cut steps → AllByRecursion Fits steps → length steps < 2 ^ 64 → length (shaken c steps) ≤ input_limit → HasRerun (shaken c steps) (end_of_run cut)
  run_again may c cut steps k run fits few small =
      record {
        case = c;
        size = length (case_text c);
        steps = steps;
        has = journal_again c steps k (all_steps c.header steps (may steps c k.header (legal_of c cut steps run)) fits) few small;
        is = run.comes;
      }
