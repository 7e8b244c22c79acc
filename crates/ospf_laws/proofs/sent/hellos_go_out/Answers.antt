use Rattle.ospf_laws.proofs.HelloOuts.{hellos}
use Rattle.ospf_laws.proofs.sent.hellos_go_out.Goals as goal

pub returns : goal.returns
returns c = hellos
