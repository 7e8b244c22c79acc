use Rattle.dn_case.proofs.PartLaws.{six_parts}
use Rattle.dn_case.proofs.shape.line_of_fields.Goals as goal

pub returns-in-Some-rest-4-clause-read : goal.returns-in-Some-rest-4-clause-read
returns-in-Some-rest-4-clause-read c = six_parts c.args.text.now c.in-Some.rest.now c.in-Some-rest.rest.now c.in-Some-rest-2.rest.now c.in-Some-rest-3.rest.now c.in-Some-rest-4._rest.now c.first_part.result.0.now c.first_part-2.result.0.now c.first_part-3.result.0.now c.first_part-4.result.0.now c.first_part-5.result.0.now (rw c.in-Some.is at c.first_part.ensures) (rw c.in-Some-rest.is at c.first_part-2.ensures) (rw c.in-Some-rest-2.is at c.first_part-3.ensures) (rw c.in-Some-rest-3.is at c.first_part-4.ensures) (rw c.in-Some-rest-4.is at c.first_part-5.ensures)
