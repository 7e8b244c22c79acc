use Rattle.ospf_spf.proofs.Offering.{length_found}
use Rattle.ospf_spf.proofs.offers.length_of.Goals as goal

pub returns : goal.returns
returns c = length_found c.args.mask c.mask_len.result c.mask_len.ensures
