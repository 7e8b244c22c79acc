use Rattle.std.proofs.Common.{arith}
use Rattle.dn_case.proofs.standing.Standing.take_period.Goals as goal

pub returns-clause-read : goal.returns-clause-read
returns-clause-read c = grind arith
