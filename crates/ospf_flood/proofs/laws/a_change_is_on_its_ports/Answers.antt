use Rattle.ospf_flood.proofs.OneLsa.{off_port, put_on_port, set_other, set_port}
use Rattle.ospf_flood.proofs.laws.a_change_is_on_its_ports.Goals as goal

pub returns-clause-port : goal.returns-clause-port
returns-clause-port c = set_port

pub returns-clause-other_ports : goal.returns-clause-other_ports
returns-clause-other_ports c = set_other

pub returns-clause-mask : goal.returns-clause-mask
returns-clause-mask c = put_on_port

pub returns-clause-all : goal.returns-clause-all
returns-clause-all c = off_port
