use Rattle.ospf_lsdb.proofs.DatabaseLaws.{named-without}
use Rattle.ospf_lsdb.proofs.lsdb.Lsdb.drop_gone.Goals as goal

pub invariant_of-self : goal.invariant_of-self
invariant_of-self c = rw c.remove-gone.ensures.entries (named-without c.self.inside.kept.entries c.args.key.now c.self.invariant)
