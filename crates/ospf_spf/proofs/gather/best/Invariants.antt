use Rattle.std.proofs.Common.{take}
use Rattle.std.specs.BTreeMap.{IsOrdered}
use Rattle.ospf_spf.specs.Search.{pair_cmp}
use Rattle.ospf_spf.specs.Offers.{IsBest}
use Rattle.ospf_spf.proofs.gather.best.Given as goal

abbrev pub invariant-loop-offer : goal.invariant-loop-offer
invariant-loop-offer l = record {
  best : IsBest (take l.offer-index l.offers) l.best;
  ordered : IsOrdered pair_cmp l.best;
}
