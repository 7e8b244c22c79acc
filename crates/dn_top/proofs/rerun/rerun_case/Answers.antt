use Rattle.std.proofs.Common.{List, sym, subst}
use Rattle.dn_model.specs.Cases.{Recording, IsRecording}
use Rattle.dn_world.specs.declared.step.Step.{Step}
use Rattle.dn_journal.specs.Reading.{IsJournal}
use Rattle.dn_top.specs.Promises.{journal_lines}
use Rattle.dn_top.proofs.DrivesAnswering.{case_rerun, one_of_input}
use Rattle.dn_top.proofs.rerun.rerun_case.Goals as goal

pub returns-in-Ok-clause-answers : goal.returns-in-Ok-clause-answers
returns-in-Ok-clause-answers g c =
    let input = c.args.input.now in
    let case = c.args.case.now in
    let steps = c.as_slice.result.now in
    let there : IsJournal case.header (journal_lines input c.args.size) c.in-Ok.steps.items = subst (λ (x : Recording). IsJournal x.header (journal_lines input c.args.size) c.in-Ok.steps.items) c.case.view_is c.in-Ok.ensures.found in
    let found : IsJournal case.header (journal_lines input c.args.size) steps = subst (λ (ss : List Step). IsJournal case.header (journal_lines input c.args.size) ss) (sym c.as_slice.ensures.value) there in
    let rules : IsRecording case = subst (λ (x : Recording). IsRecording x) c.case.view_is c.case.invariant in
    case_rerun input case c.args.size steps c.rerun_steps.result (g.K.Sink.holds c.args.sink.now) (g.K.Sink.holds c.rerun_steps.new.sink) (c.ends.ensures.whole case steps rules, c.ends.ensures.cut case steps) (record { has = c.requires.has; journal = found }) c.rerun_steps.ensures.answers

pub returns-in-Ok-clause-one : goal.returns-in-Ok-clause-one
returns-in-Ok-clause-one g c =
    let rules : IsRecording c.args.case.now = subst (λ (x : Recording). IsRecording x) c.case.view_is c.case.invariant in
    one_of_input c.args.input.now (c.one_reading.ensures c.args.input.now) c.args.case.now c.args.size c.requires.has (c.ends.ensures.journal c.args.case.now.header rules.header)

pub returns-in-Err-clause-one : goal.returns-in-Err-clause-one
returns-in-Err-clause-one g c =
    let rules : IsRecording c.args.case.now = subst (λ (x : Recording). IsRecording x) c.case.view_is c.case.invariant in
    one_of_input c.args.input.now (c.one_reading.ensures c.args.input.now) c.args.case.now c.args.size c.requires.has (c.ends.ensures.journal c.args.case.now.header rules.header)
