use Rattle.std.proofs.Common.{refl, subst}
use Rattle.dn_top.specs.Promises.{EndsCut, network_of, steps_of}
use Rattle.dn_top.proofs.ends.ends.Goals as goal

pub returns-clause-whole : goal.returns-clause-whole
returns-clause-whole c = λ case steps rules is.
    let net = network_of case.header in
    record {
      legal = c.whole_journals.ensures.legal net case.feed steps is;
      all = c.whole_journals.ensures.all net case.feed steps is;
      quiet = c.whole_journals.ensures.quiet net case.feed steps is;
      committed = c.whole_journals.ensures.committed net case.feed steps (c.cases_are_timed.ensures.timed net case rules refl) is;
    }

pub returns-clause-cut : goal.returns-clause-cut
returns-clause-cut c = λ case steps is.
    let net = network_of case.header in
    record {
      front = c.taken_steps.ensures.front net case.feed steps;
      ends = record { legal = c.taken_steps.ensures.legal net case.feed steps; cut = c.taken_steps.ensures.cut net case.feed steps is };
    }

pub returns-clause-schedule : goal.returns-clause-schedule
returns-clause-schedule c = λ case schedule rules is.
    let net = network_of case.header in
    let steps = steps_of case schedule in
    subst (EndsCut case) (c.schedules_are_taken.ensures net case schedule.number schedule.steps rules refl)
    (record { legal = c.taken_steps.ensures.legal net case.feed steps; cut = c.taken_steps.ensures.cut net case.feed steps is })

pub returns-clause-journal : goal.returns-clause-journal
returns-clause-journal c = λ h rules ls a b p q. c.a_text_has_one_journal.ensures h ls a b rules p q
