use Rattle.dn_trace.specs.Rows.{key_text}
use Rattle.std.proofs.Common.{arith}
use Rattle.std.proofs.lemmas.Grind.{common_steps}
use Rattle.dn_trace.proofs.rows.push_key.Goals as goal

pub returns-clause-ok : goal.returns-clause-ok
unfolding key_text
returns-clause-ok c = grind (arith, common_steps)
