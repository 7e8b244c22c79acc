use Rattle.std.proofs.Common.{arith}
use Rattle.dn_debug.proofs.Watchers.{break_first}
use Rattle.dn_debug.proofs.walk.first_break.Goals as goal

pub breaks-init : goal.breaks-init
breaks-init c = record { found = break_first c.args.breaks.now c.args.row.now; counted = omega arith }
