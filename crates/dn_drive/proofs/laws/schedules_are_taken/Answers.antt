use Rattle.dn_drive.proofs.Journals.{schedule_taken}
use Rattle.dn_drive.proofs.laws.schedules_are_taken.Goals as goal

pub returns : goal.returns
returns g c = λ net case number turns is same.
    schedule_taken net (λ x y h. c.order_of_events.ensures.inputs_apart x y h) (λ w s h b. c.equation.ensures.step net w s h b) (c.equation.ensures.opening net) case number turns is same
