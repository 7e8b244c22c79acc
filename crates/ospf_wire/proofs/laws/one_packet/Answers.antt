use Rattle.ospf_wire.proofs.GrammarLaws.{one_packet}
use Rattle.ospf_wire.proofs.laws.one_packet.Goals as goal

pub returns : goal.returns
returns c = one_packet
