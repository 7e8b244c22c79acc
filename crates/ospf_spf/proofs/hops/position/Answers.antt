use Rattle.ospf_spf.proofs.Hopping.{found_at}
use Rattle.ospf_spf.proofs.hops.position.Goals as goal

pub returns : goal.returns
returns c = found_at c.args.ids.now c.args.id c.binary_search.result c.ok.result c.requires c.binary_search.ensures.position c.ok.ensures.value
