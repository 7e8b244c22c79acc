use Rattle.ospf_lsdb.proofs.Lookups.{aged_each}
use Rattle.ospf_lsdb.proofs.laws.aging_is_at_each_lsa.Goals as goal

pub returns : goal.returns
returns c = aged_each
