use Rattle.ospf_wire.proofs.FletcherLaws.{right}
use Rattle.ospf_wire.proofs.laws.ls_checksum_is_right.Goals as goal

pub returns : goal.returns
returns c = right
