use Rattle.std.proofs.Common.{◌≡◌}
use Rattle.dn_plain.proofs.beside.do_the_same.Given as goal

abbrev pub invariant-loop-row : goal.invariant-loop-row
invariant-loop-row l = l.engine.header ≡ l.initial.engine.header
