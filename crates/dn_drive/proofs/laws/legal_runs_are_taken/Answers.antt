use Rattle.dn_drive.proofs.Taken.{cut_is_taken, whole_is_taken}
use Rattle.dn_drive.proofs.laws.legal_runs_are_taken.Goals as goal

pub returns-clause-cut : goal.returns-clause-cut
returns-clause-cut g c = λ net feed steps legal fed cut. cut_is_taken net feed steps legal fed (c.before_the_first_step.ensures.uncut net) cut

pub returns-clause-whole : goal.returns-clause-whole
returns-clause-whole g c = λ net feed steps timed legal fed uncut quiet at.
    whole_is_taken net feed steps legal fed (λ xs ys l k. c.lasting.ensures.cut net xs ys timed l k) uncut quiet at
