use Rattle.std.proofs.Common.{take}
use Rattle.ospf_spf.specs.Hops.{IsMarked}
use Rattle.ospf_spf.proofs.hops.mark.Given as goal

abbrev pub invariant-loop-link : goal.invariant-loop-link
invariant-loop-link l = IsMarked l.from (take l.link-index l.links) l.fn.ways l.ways
