use Rattle.std.proofs.Common.{arith}
use Rattle.rip_guest.proofs.requests.is_authenticated.Goals as goal

pub returns-in-len1-up : goal.returns-in-len1-up
returns-in-len1-up c = grind arith
