use Rattle.std.proofs.Common.{◌≡◌, length}
use Rattle.ospf_spf.specs.Search.{label}
use Rattle.ospf_spf.specs.Ports.{AreViaFrom}
use Rattle.ospf_spf.proofs.ports.first_ports.Given as goal

abbrev pub invariant-loop-vertex : goal.invariant-loop-vertex
invariant-loop-vertex l = record {
  len : length l.masks.items ≡ length l.hops;
  via : AreViaFrom l.hops l.root (label l.found.best.items) l.found.order.items l.vertex-index l.masks.items;
}
