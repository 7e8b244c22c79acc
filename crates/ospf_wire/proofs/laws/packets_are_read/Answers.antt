use Rattle.ospf_wire.proofs.GrammarLaws.{packet_takes, packet_again}
use Rattle.ospf_wire.proofs.laws.packets_are_read.Goals as goal

pub returns : goal.returns
returns c = λ bytes p. (packet_takes bytes p, packet_again bytes p)
