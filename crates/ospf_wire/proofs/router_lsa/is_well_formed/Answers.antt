use Rattle.ospf_wire.proofs.RouterLsaLaws.{formed}
use Rattle.ospf_wire.proofs.router_lsa.is_well_formed.Goals as goal

pub returns-clause-meaning : goal.returns-clause-meaning
returns-clause-meaning c = formed c.args.body.now c.has_links.result c.has_links.ensures
