use Rattle.std.proofs.Common.{arith}
use Rattle.std.proofs.lemmas.Grind.{common_steps}
use Rattle.ospf_router.proofs.router.Router.accepts_hello.Goals as goal

pub returns-then-hello-from : goal.returns-then-hello-from
returns-then-hello-from c = grind (arith, common_steps)
