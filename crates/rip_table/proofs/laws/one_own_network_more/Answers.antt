use Rattle.rip_table.proofs.Sound.{own_more}
use Rattle.rip_table.proofs.laws.one_own_network_more.Goals as goal

pub returns : goal.returns
returns c = own_more
