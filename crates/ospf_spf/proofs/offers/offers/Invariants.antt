use Rattle.ospf_spf.specs.Search.{label}
use Rattle.ospf_spf.specs.Offers.{AreOffered}
use Rattle.ospf_spf.proofs.offers.offers.Given as goal

abbrev pub invariant-loop-i : goal.invariant-loop-i
invariant-loop-i l = AreOffered l.graph l.root (label l.best) l.masks l.i l.offers.items
