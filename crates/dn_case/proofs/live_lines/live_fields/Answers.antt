use Rattle.dn_case.proofs.LiveLaws.{four_parts}
use Rattle.dn_case.proofs.live_lines.live_fields.Goals as goal

pub returns-in-Some : goal.returns-in-Some
returns-in-Some c = four_parts c.args.line.now c.in_ok-rest.field-0.now c.in_ok-rest-2.field-0.now c.in-Some._rest.now c.first_part.result.0.now c.first_part-2.result.0.now c.first_part-3.result.0.now (rw c.in_ok-rest.was at c.first_part.ensures) (rw c.in_ok-rest-2.was at c.first_part-2.ensures) (rw c.in-Some.is at c.first_part-3.ensures)
