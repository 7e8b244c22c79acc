use Rattle.std.proofs.Common.{length}
use Rattle.table_program.proofs.play.play.Given as goal

abbrev pub decreases-texts : goal.decreases-texts
decreases-texts g l = length l.rest
