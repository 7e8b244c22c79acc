use Rattle.dn_drive.proofs.laws.cut_runs.Goals as goal

pub returns-clause-rows : goal.returns-clause-rows
returns-clause-rows g c = λ net case steps is same legal goes off.
    c.prefix.ensures.cut_rows net case.feed steps (c.playable_cases.ensures.playable net case is same) (c.cases_are_timed.ensures.fed net case is same) legal goes off

pub returns-clause-cut : goal.returns-clause-cut
returns-clause-cut g c = λ net case steps is same legal goes off.
    c.prefix.ensures.cut net case.feed steps (c.playable_cases.ensures.playable net case is same) (c.cases_are_timed.ensures.fed net case is same) legal goes off
