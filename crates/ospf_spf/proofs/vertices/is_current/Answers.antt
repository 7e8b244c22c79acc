use Rattle.std.proofs.Common.{arith}
use Rattle.ospf_spf.proofs.vertices.is_current.Goals as goal

pub returns-then-key : goal.returns-then-key
returns-then-key c = grind arith
