use Rattle.dn_world.specs.World.{least_key, flying}
use Rattle.std.proofs.Common.{arith}
use Rattle.dn_fabric.proofs.flight.Flight.least_key.Goals as goal

pub loop-packet-preserved : goal.loop-packet-preserved
unfolding least_key flying
loop-packet-preserved c = grind arith
