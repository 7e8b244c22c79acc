use Rattle.ospf_wire.specs.RouterLsas.{router_body_bytes}
use Rattle.ospf_wire.proofs.RouterLsaLaws.{body_is, body_again}
use Rattle.ospf_wire.proofs.laws.written_router_links_are_read.Goals as goal

pub returns-clause-body : goal.returns-clause-body
returns-clause-body c = body_is

pub returns-clause-read : goal.returns-clause-read
returns-clause-read c = λ ls few fit. body_again (router_body_bytes ls) ls (body_is ls few fit)
