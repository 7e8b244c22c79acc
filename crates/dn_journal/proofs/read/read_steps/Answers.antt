use Rattle.std.proofs.Common.{◌≡◌, ◌∷◌, ◌+◌, sym, ap, ◌∙◌, length, codes, rules}
use Rattle.dn_text.specs.Lines.{lines}
use Rattle.dn_journal.specs.Spelling.{end_line}
use Rattle.dn_journal.specs.Reading.{IsFirstBad, IsNoJournal}
use Rattle.dn_journal.proofs.JournalLaws.{IsFault, ended, no_line, line_behind, at_fault, is_zero, not_zero, true_false}
use Rattle.dn_journal.proofs.read.read_steps.Goals as goal

behind_last : (c : goal.After-drop-steps) → IsFault c.args.known.now (codes "journal\n" ∷ lines c.args.text.now) (c.lines.number + 1)
behind_last c =
    let steps = c.lines.steps.items in
    let same : c.len.result ≡ length steps = search rules in
    let last : c.first_line.result.0.now ≡ end_line (length steps) = c.is_end.ensures.0 c.if-is_end.true ∙ ap end_line same in
    let some = not_zero (length c.first_line.result.1.now) c.is_empty-then-is_end.result c.is_empty-then-is_end.ensures c.if-is_empty.false in
    line_behind c.args.known.now (codes "journal\n" ∷ lines c.args.text.now) steps c.lines.rest.now c.first_line.result.0.now c.first_line.result.1.now c.lines.number c.lines.invariant.so_far c.lines.invariant.are c.lines.invariant.count c.first_line.ensures.lines last some

pub returns-else-is_empty-clause-fault : goal.returns-else-is_empty-clause-fault
returns-else-is_empty-clause-fault c = at_fault (Unit {0}) c.fault.result (c.lines.number + 1) (λ f. IsFirstBad c.args.known.now (codes "journal\n" ∷ lines c.args.text.now) f.line) c.fault.ensures (behind_last c).bad

pub returns-else-is_empty-clause-none : goal.returns-else-is_empty-clause-none
returns-else-is_empty-clause-none c = at_fault (Unit {0}) c.fault.result (c.lines.number + 1) (λ f. IsNoJournal c.args.known.now (codes "journal\n" ∷ lines c.args.text.now)) c.fault.ensures (behind_last c).none

other_line : (c : goal.After-drop-steps-in_default) → IsFault c.args.known.now (codes "journal\n" ∷ lines c.args.text.now) c.lines.number
other_line c =
    let steps = c.lines.steps.items in
    let line = c.first_line.result.0.now in
    let same : c.len.result ≡ length steps = search rules in
    let no_last : ¬ (line ≡ end_line (length steps)) = λ e. true_false c.is_end.result c.if-is_end.false (c.is_end.ensures.1 (e ∙ ap end_line (sym same))) in
    let no_step = rw c.in_default.is at c.in_ok-step.ensures in
    no_line c.args.known.now (codes "journal\n" ∷ lines c.args.text.now) steps c.lines.rest.now line c.first_line.result.1.now c.lines.number c.lines.invariant.so_far c.lines.invariant.are c.lines.invariant.count c.first_line.ensures.lines no_step no_last

pub returns-in_default-clause-fault : goal.returns-in_default-clause-fault
returns-in_default-clause-fault c = at_fault (Unit {0}) c.fault-in_default.result c.lines.number (λ f. IsFirstBad c.args.known.now (codes "journal\n" ∷ lines c.args.text.now) f.line) c.fault-in_default.ensures (other_line c).bad

pub returns-in_default-clause-none : goal.returns-in_default-clause-none
returns-in_default-clause-none c = at_fault (Unit {0}) c.fault-in_default.result c.lines.number (λ f. IsNoJournal c.args.known.now (codes "journal\n" ∷ lines c.args.text.now)) c.fault-in_default.ensures (other_line c).none

missing : (c : goal.After-drop-steps-2) → IsFault c.args.known.now (codes "journal\n" ∷ lines c.args.text.now) c.lines.number
missing c =
    ended c.args.known.now (codes "journal\n" ∷ lines c.args.text.now) c.lines.steps.items c.lines.rest.now c.lines.number c.lines.invariant.so_far c.lines.invariant.are c.lines.invariant.count
    (is_zero (length c.lines.rest.now) c.is_empty.result c.is_empty.ensures c.lines-test.false)

pub returns-clause-fault : goal.returns-clause-fault
returns-clause-fault c = at_fault (Unit {0}) c.fault-2.result c.lines.number (λ f. IsFirstBad c.args.known.now (codes "journal\n" ∷ lines c.args.text.now) f.line) c.fault-2.ensures (missing c).bad

pub returns-clause-none : goal.returns-clause-none
returns-clause-none c = at_fault (Unit {0}) c.fault-2.result c.lines.number (λ f. IsNoJournal c.args.known.now (codes "journal\n" ∷ lines c.args.text.now)) c.fault-2.ensures (missing c).none
