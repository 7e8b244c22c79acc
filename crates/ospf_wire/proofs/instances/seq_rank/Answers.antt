use Rattle.std.proofs.Common.{refl}
use Rattle.ospf_wire.proofs.instances.seq_rank.Goals as goal

pub returns : goal.returns
returns c = refl
