use Rattle.std.proofs.Common.{take}
use Rattle.ospf_spf.specs.Hops.{AreRows, ids_of}
use Rattle.ospf_spf.proofs.hops.hops_of.Given as goal

abbrev pub invariant-loop-vertex : goal.invariant-loop-vertex
invariant-loop-vertex l = AreRows (ids_of l.graph) l.ways (take l.vertex-index l.graph) l.rows.items
