use Rattle.std.proofs.Common.{◌≡◌, take}
use Rattle.ospf_spf.specs.Hops.{ids_of}
use Rattle.ospf_spf.proofs.hops.ids.Given as goal

abbrev pub invariant-loop-vertex : goal.invariant-loop-vertex
invariant-loop-vertex l = l.ids.items ≡ ids_of (take l.vertex-index l.graph)
