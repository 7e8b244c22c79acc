use Rattle.std.proofs.lemmas.Result.{IfOk-weaker}
use Rattle.ospf_wire.proofs.RouterLsaLaws.{are_found, are_none}
use Rattle.ospf_wire.proofs.router_lsa.router_links.Goals as goal

pub returns-clause-found : goal.returns-clause-found
returns-clause-found c = IfOk-weaker c.read_body.result _ _ (are_found c.args.body.now) c.read_body.ensures

pub returns-clause-none : goal.returns-clause-none
returns-clause-none c = IfOk-weaker c.read_body.result _ _ (are_none c.args.body.now) c.read_body.ensures
