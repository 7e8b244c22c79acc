use Rattle.ospf_laws.proofs.Nodes.{run_of_up}
use Rattle.ospf_laws.proofs.lists.lists_are_of_up_ports.Goals as goal

pub returns : goal.returns
returns c = run_of_up
