use Rattle.std.proofs.Common.{length}
use Rattle.ospf_flood.proofs.retransmission.+same_each.Given as goal

abbrev pub decreases-same_each : goal.decreases-same_each
decreases-same_each l = length l.lists.now
