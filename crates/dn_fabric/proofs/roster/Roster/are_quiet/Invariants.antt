use Rattle.dn_fabric.proofs.Working.{IsQuietFrom}
use Rattle.dn_fabric.proofs.roster.Roster.are_quiet.Given as goal

abbrev pub invariant-loop-number : goal.invariant-loop-number
invariant-loop-number g l = IsQuietFrom l.self l.number
