use Rattle.std.proofs.Common.{◌≡◌, ◌+◌, ◌-◌, ◌≤◌, length}
use Rattle.dn_text.specs.Lines.{lines}
use Rattle.dn_case.proofs.TraceSectionLaws.{close_len}
use Rattle.dn_case.proofs.trace_section.split_trace.Given as goal

abbrev pub invariant-lines : goal.invariant-lines
invariant-lines l = record {
  same : (length l.rest - length l.left) + close_len (lines l.left) ≡ close_len (lines l.rest);
  shorter : length l.left ≤ length l.rest;
}

abbrev pub decreases-lines : goal.decreases-lines
decreases-lines l = length l.left
