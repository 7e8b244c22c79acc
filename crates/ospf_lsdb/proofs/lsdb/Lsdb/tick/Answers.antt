use Rattle.ospf_lsdb.proofs.DatabaseLaws.{named-aged}
use Rattle.ospf_lsdb.proofs.lsdb.Lsdb.tick.Goals as goal

pub invariant_of-self : goal.invariant_of-self
invariant_of-self c = rw c.age_lsas.ensures (named-aged c.args.now c.self.inside.kept.entries c.self.invariant)
