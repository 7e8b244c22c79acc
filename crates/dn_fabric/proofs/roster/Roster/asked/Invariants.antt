use Rattle.dn_fabric.proofs.Errands.{IsAskedFrom}
use Rattle.dn_fabric.proofs.roster.Roster.asked.Given as goal

abbrev pub invariant-loop-number : goal.invariant-loop-number
invariant-loop-number g l = IsAskedFrom l.self l.leased l.number l.found
