use Rattle.std.proofs.Common.{length}
use Rattle.ospf_router.proofs.interfaces.+full_from.Given as goal

abbrev pub decreases-full_from : goal.decreases-full_from
decreases-full_from l = length l.ports.now
