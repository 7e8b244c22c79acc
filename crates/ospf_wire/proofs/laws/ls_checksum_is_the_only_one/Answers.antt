use Rattle.ospf_wire.proofs.FletcherLaws.{only}
use Rattle.ospf_wire.proofs.laws.ls_checksum_is_the_only_one.Goals as goal

pub returns : goal.returns
returns c = only
