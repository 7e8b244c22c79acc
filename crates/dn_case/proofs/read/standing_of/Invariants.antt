use Rattle.std.proofs.Common.{◌≡◌, ◌+◌, ◌-◌, ◌≤◌, length}
use Rattle.dn_text.specs.Lines.{lines}
use Rattle.dn_case.specs.Standings.{start}
use Rattle.dn_case.specs.Takings.{IsFew}
use Rattle.dn_case.specs.Reading.{reads}
use Rattle.dn_case.proofs.read.standing_of.Given as goal

abbrev pub invariant-lines : goal.invariant-lines
invariant-lines l = record {
  same : reads l.standing l.number (length l.text - length l.rest) (lines l.rest) ≡ reads start 1 0 (lines l.text);
  shorter : length l.rest ≤ length l.text;
  few : IsFew l.standing;
  counted : l.number + length l.rest ≤ length l.text + 1;
}

abbrev pub decreases-lines : goal.decreases-lines
decreases-lines l = length l.rest
