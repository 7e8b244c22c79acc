use Rattle.std.proofs.Common.{◌≡◌, take}
use Rattle.ospf_spf.specs.Graph.{graph_of}
use Rattle.ospf_spf.proofs.vertices.vertices.Given as goal

abbrev pub invariant-loop-key : goal.invariant-loop-key
invariant-loop-key l = l.vertices.items ≡ graph_of l.now (take l.key-index l.db)
