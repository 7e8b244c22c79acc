use Rattle.ospf_wire.proofs.RouterLsaLaws.{body_takes, body_again}
use Rattle.ospf_wire.proofs.laws.router_links_are_read.Goals as goal

pub returns : goal.returns
returns c = λ body ls. (body_takes body ls, body_again body ls)
