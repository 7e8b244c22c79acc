use Rattle.std.proofs.Common.{◌≡◌, ◌∷◌, subst, ℕ, List, not, nat_eq, sym, ap, ◌∙◌, length, codes}
use Rattle.std.specs.Cmp.Lexicographic.{pointwise}
use Rattle.dn_model.specs.Cases.{Heading}
use Rattle.dn_text.specs.Lines.{lines}
use Rattle.dn_journal.specs.Reading.{IsJournal, IsFirstBad}
use Rattle.dn_journal.proofs.JournalLaws.{no_first, other_first, at_fault, is_zero, apart, equal, if_ok_then}
use Rattle.dn_journal.proofs.TextLaws.{one_text}
use Rattle.dn_journal.proofs.read.read_journal.Goals as goal

pub returns-then-is_empty-clause-fault : goal.returns-then-is_empty-clause-fault
returns-then-is_empty-clause-fault c =
    let text = c.args.text.now in
    let f = no_first c.args.header.now text (is_zero (length text) c.is_empty.result c.is_empty.ensures c.if-is_empty.true) in
    at_fault (Unit {0}) c.fault.result 1 (λ f. IsFirstBad c.args.header.now (lines text) f.line) c.fault.ensures f.bad

pub returns-then-ne-clause-fault : goal.returns-then-ne-clause-fault
returns-then-ne-clause-fault c =
    let text = c.args.text.now in
    let first = c.first_line.result.0.now in
    let other : ¬ (first ≡ codes "journal\n") = apart first (codes "journal\n") c.ne.result (c.ne.ensures ∙ ap (λ (w : List ℕ). not (pointwise nat_eq first w)) c.as_slice.ensures) c.if-ne.true in
    let f = other_first c.args.header.now (lines text) first (lines c.first_line.result.1.now) c.first_line.ensures.lines other in
    at_fault (Unit {0}) c.fault-then-ne.result 1 (λ f. IsFirstBad c.args.header.now (lines text) f.line) c.fault-then-ne.ensures f.bad

pub returns-clause-spelled : goal.returns-clause-spelled
returns-clause-spelled c =
    let h = c.args.header.now in
    let text = c.args.text.now in
    let first = c.first_line.result.0.now in
    let rest = lines c.first_line.result.1.now in
    let opens : first ≡ codes "journal\n" = equal first (codes "journal\n") c.ne.result (c.ne.ensures ∙ ap (λ (w : List ℕ). not (pointwise nat_eq first w)) c.as_slice.ensures) c.if-ne.false in
    let whole : codes "journal\n" ∷ rest ≡ lines text = sym (c.first_line.ensures.lines ∙ ap (λ (l : List ℕ). l ∷ rest) opens) in
    if_ok_then c.read_steps-2.result _ _
    (λ steps is. one_text h text steps.items (subst (λ (ls : List (List ℕ)). IsJournal h ls steps.items) whole (subst (λ (k : Heading). IsJournal k (codes "journal\n" ∷ rest) steps.items) c.in_ok-new.ensures.same is)))
    c.read_steps-2.ensures.found
