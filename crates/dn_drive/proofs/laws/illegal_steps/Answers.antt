use Rattle.dn_drive.proofs.Outcomes.{illegal_stops, stops_illegal}
use Rattle.dn_drive.proofs.laws.illegal_steps.Goals as goal

pub returns-clause-stops : goal.returns-clause-stops
returns-clause-stops g c = λ net feed steps n is. illegal_stops net feed steps (λ x y h. c.order_of_events.ensures.inputs_apart x y h) (c.before_the_first_step.ensures.uncut net) n is

pub returns-clause-only : goal.returns-clause-only
returns-clause-only g c = λ net feed steps n is. stops_illegal net feed steps n is
