use Rattle.std.proofs.Common.{length}
use Rattle.ospf_guest.proofs.show.+push_neighbours.Given as goal

abbrev pub decreases-push_neighbours : goal.decreases-push_neighbours
decreases-push_neighbours l = length l.ports.now
