use Rattle.std.proofs.Common.{arith}
use Rattle.ospf_spf.proofs.gather.merge.Goals as goal

pub returns-after-old-clause-both : goal.returns-after-old-clause-both
returns-after-old-clause-both c = grind arith
