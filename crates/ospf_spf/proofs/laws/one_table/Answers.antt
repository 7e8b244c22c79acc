use Rattle.ospf_spf.proofs.Unique.{one_list}
use Rattle.ospf_spf.proofs.laws.one_table.Goals as goal

pub returns : goal.returns
returns c = one_list
