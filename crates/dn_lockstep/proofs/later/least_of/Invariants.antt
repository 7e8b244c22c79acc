use Rattle.dn_lockstep.proofs.Firsts.{IsLeastSoFar}
use Rattle.dn_lockstep.proofs.later.least_of.Given as goal

abbrev pub invariant-loop-one : goal.invariant-loop-one
invariant-loop-one l = IsLeastSoFar l.queued l.one-index l.least
