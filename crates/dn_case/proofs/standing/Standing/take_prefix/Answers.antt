use Rattle.std.proofs.Common.{arith}
use Rattle.std.proofs.lemmas.Grind.{common_steps}
use Rattle.dn_case.proofs.standing.Standing.take_prefix.Goals as goal

pub returns-in_default-clause-read : goal.returns-in_default-clause-read
returns-in_default-clause-read c = grind arith

pub narrow_u8-requires : goal.narrow_u8-requires
narrow_u8-requires c = grind (arith, common_steps)
