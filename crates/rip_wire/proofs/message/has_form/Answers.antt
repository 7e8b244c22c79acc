use Rattle.rip_wire.specs.Reading.{has_form}
use Rattle.std.proofs.Common.{arith}
use Rattle.rip_wire.proofs.message.has_form.Goals as goal

pub returns-then-bytes-eq-RESPONSE-clause-test : goal.returns-then-bytes-eq-RESPONSE-clause-test
unfolding has_form
returns-then-bytes-eq-RESPONSE-clause-test c = grind arith

pub returns-then-bytes-eq-RESPONSE-clause-long : goal.returns-then-bytes-eq-RESPONSE-clause-long
unfolding has_form
returns-then-bytes-eq-RESPONSE-clause-long c = omega arith
