use Rattle.std.proofs.Common.{◌≡◌, ◌+◌, length}
use Rattle.std.specs.List.{position_from}
use Rattle.dn_command.specs.Breaks.{matches}
use Rattle.dn_debug.specs.Courses.{first_break}
use Rattle.dn_debug.proofs.walk.first_break.Given as goal

abbrev pub invariant-breaks : goal.invariant-breaks
invariant-breaks l = record {
  found : first_break l.breaks l.row ≡ position_from (λ b. matches b l.row) l.number l.left;
  counted : l.number + length l.left ≡ length l.breaks;
}

abbrev pub decreases-breaks : goal.decreases-breaks
decreases-breaks l = length l.left
