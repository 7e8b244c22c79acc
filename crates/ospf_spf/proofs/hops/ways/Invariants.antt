use Rattle.std.proofs.Common.{take}
use Rattle.ospf_spf.specs.Hops.{AreWays}
use Rattle.ospf_spf.proofs.hops.ways.Given as goal

abbrev pub invariant-loop-vertex : goal.invariant-loop-vertex
invariant-loop-vertex l = AreWays ((take l.vertex-index l.graph)) l.ways
