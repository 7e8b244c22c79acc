use Rattle.ospf_lsdb.proofs.DatabaseLaws.{copied_name}
use Rattle.ospf_lsdb.proofs.lsdb.Lsdb.get.Goals as goal

pub returns-clause-named : goal.returns-clause-named
returns-clause-named c = copied_name c.self.inside.kept.entries c.args.key.now c.get.result c.self.invariant c.get.ensures.value
