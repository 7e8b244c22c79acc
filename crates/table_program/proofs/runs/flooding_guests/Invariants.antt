use Rattle.std.proofs.Common.{◌≡◌, length}
use Rattle.table_program.proofs.runs.flooding_guests.Given as goal

abbrev pub invariant-loop-guest : goal.invariant-loop-guest
invariant-loop-guest l = length l.made.items ≡ l._guest
