use Rattle.std.proofs.Common.{arith}
use Rattle.rip_guest.proofs.requests.answer_request.Goals as goal

pub returns : goal.returns
returns c = grind arith
