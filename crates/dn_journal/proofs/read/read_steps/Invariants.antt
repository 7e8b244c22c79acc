use Rattle.std.proofs.Common.{◌≡◌, ◌++◌, ◌∷◌, ◌+◌, ◌≤◌, length, codes}
use Rattle.dn_text.specs.Lines.{lines}
use Rattle.dn_journal.proofs.JournalLaws.{AreSteps, opened}
use Rattle.dn_journal.proofs.read.read_steps.Given as goal

abbrev pub invariant-lines : goal.invariant-lines
invariant-lines l = record {
  so_far : codes "journal\n" ∷ lines l.text ≡ opened l.known l.steps.items ++ lines l.rest;
  are : AreSteps l.known l.steps.items;
  count : l.number ≡ length l.steps.items + 2;
  shorter : l.number + length l.rest ≤ length l.text + 2;
}

abbrev pub decreases-lines : goal.decreases-lines
decreases-lines l = length l.rest
