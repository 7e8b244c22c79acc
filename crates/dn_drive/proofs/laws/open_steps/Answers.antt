use Rattle.dn_drive.proofs.Outcomes.{open_stays, stays_open}
use Rattle.dn_drive.proofs.laws.open_steps.Goals as goal

pub returns-clause-stays : goal.returns-clause-stays
returns-clause-stays g c = λ net feed steps is. open_stays net feed steps (λ x y h. c.order_of_events.ensures.inputs_apart x y h) (c.before_the_first_step.ensures.uncut net) is

pub returns-clause-only : goal.returns-clause-only
returns-clause-only g c = λ net feed steps is. stays_open net feed steps is
