use Rattle.ospf_wire.proofs.PacketLaws.{written_is_right}
use Rattle.ospf_wire.proofs.laws.written_checksum_is_right.Goals as goal

pub returns : goal.returns
returns c = written_is_right
