use Rattle.std.proofs.Common.{take}
use Rattle.ospf_spf.specs.Offers.{AreOffers}
use Rattle.ospf_spf.proofs.offers.offer_all.Given as goal

abbrev pub invariant-loop-link : goal.invariant-loop-link
invariant-loop-link l = AreOffers l.cost l.own l.via (take l.link-index l.links) l.fn.offers.items l.offers.items
