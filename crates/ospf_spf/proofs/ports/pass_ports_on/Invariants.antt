use Rattle.std.proofs.Common.{take}
use Rattle.ospf_spf.specs.Search.{label}
use Rattle.ospf_spf.specs.Ports.{ArePassedOn}
use Rattle.ospf_spf.proofs.ports.pass_ports_on.Given as goal

abbrev pub invariant-loop-hop : goal.invariant-loop-hop
invariant-loop-hop l = ArePassedOn (take l.hop-index l.row) l.cost l.at_root l.ports (label l.best) l.fn.masks l.masks
