use Rattle.dn_case.proofs.PartLaws.{three_parts}
use Rattle.dn_case.proofs.shape.net_of.Goals as goal

pub returns-in-Some : goal.returns-in-Some
returns-in-Some c = three_parts c.args.text.now c.in_ok-rest.field-0.now c.in-Some._rest.now c.first_part.result.0.now c.first_part-2.result.0.now (rw c.in_ok-rest.was at c.first_part.ensures) (rw c.in-Some.is at c.first_part-2.ensures)
