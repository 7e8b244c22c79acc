use Rattle.std.proofs.Common.{rules}
use Rattle.dn_probe.proofs.Words.{five_words}
use Rattle.dn_probe.proofs.routes.route_of_line.Goals as goal

pub returns-then-is_route : goal.returns-then-is_route
returns-then-is_route c = five_words c.args.rip c.args.line.now c.in_ok-rest.field-0.now c.in_ok-rest-2.field-0.now c.in_ok-rest-3.field-0.now c.in_ok-ways.ways.now c.first_part.result.0.now c.first_part-2.result.0.now c.first_part-3.result.0.now c.first_part-4.result.0.now c.port_of-port.result (rw c.in_ok-rest.was at c.first_part.ensures) (rw c.in_ok-rest-2.was at c.first_part-2.ensures) (rw c.in_ok-rest-3.was at c.first_part-3.ensures) (rw c.in_ok-ways.was at c.first_part-4.ensures) c.port_of-port.ensures (search rules)
