use Rattle.std.proofs.Common.{arith}
use Rattle.ospf_spf.proofs.hops.hop_of.Goals as goal

pub returns-then-not-leads : goal.returns-then-not-leads
returns-then-not-leads c = grind arith

pub returns : goal.returns
returns c = grind arith
