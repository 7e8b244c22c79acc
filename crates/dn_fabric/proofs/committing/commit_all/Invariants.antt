use Rattle.dn_fabric.proofs.Commits.{AreOn}
use Rattle.dn_fabric.proofs.committing.commit_all.Given as goal

abbrev pub invariant-loop-number : goal.invariant-loop-number
invariant-loop-number g l = AreOn l.key l.number l.fn.routers l.routers l.fresh.items
