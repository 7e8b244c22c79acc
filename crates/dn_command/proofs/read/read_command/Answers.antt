use Rattle.dn_command.proofs.Lines.{five_parts}
use Rattle.dn_command.proofs.read.read_command.Goals as goal

pub returns-in-Some-rest-3 : goal.returns-in-Some-rest-3
returns-in-Some-rest-3 c = five_parts c.args.routers.now c.args.line.now c.in-Some.rest.now c.in-Some-rest.rest.now c.in-Some-rest-2.rest.now c.in-Some-rest-3._rest.now c.first_part.result.0.now c.first_part-2.result.0.now c.first_part-3.result.0.now c.first_part-4.result.0.now (rw c.in-Some.is at c.first_part.ensures) (rw c.in-Some-rest.is at c.first_part-2.ensures) (rw c.in-Some-rest-2.is at c.first_part-3.ensures) (rw c.in-Some-rest-3.is at c.first_part-4.ensures)
