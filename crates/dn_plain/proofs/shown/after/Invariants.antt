use Rattle.std.proofs.Common.{◌≡◌}
use Rattle.dn_plain.proofs.shown.after.Given as goal

abbrev pub invariant-loop-row : goal.invariant-loop-row
invariant-loop-row l = l.engine.header ≡ l.case.header
