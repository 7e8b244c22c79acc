use Rattle.std.proofs.Common.{length}
use Rattle.ospf_flood.proofs.flooding.+install_from.Given as goal

abbrev pub decreases-install_from : goal.decreases-install_from
decreases-install_from l = length l.lists.now
