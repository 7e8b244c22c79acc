use Rattle.std.proofs.Common.{arith}
use Rattle.ospf_router.proofs.origination.push_link.Goals as goal

pub returns-in_ok-push : goal.returns-in_ok-push
returns-in_ok-push c = grind arith
