use Rattle.ospf_router.specs.Hellos.{receive_hello}
use Rattle.std.proofs.Common.{arith}
use Rattle.ospf_router.proofs.router.Router.receive_hello.Goals as goal

pub returns-then-lists_router : goal.returns-then-lists_router
unfolding receive_hello
returns-then-lists_router c = grind arith
