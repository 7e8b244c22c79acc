use Rattle.ospf_router.specs.Ticks.{retransmit_on}
use Rattle.std.proofs.Common.{arith}
use Rattle.ospf_router.proofs.router.Router.retransmit_on.Goals as goal

pub returns-clause-state : goal.returns-clause-state
unfolding retransmit_on
returns-clause-state c = grind arith
