use Rattle.std.proofs.Common.{List, ℕ, refl, sym, subst}
use Rattle.dn_top.specs.declared.words.Command.TheVariants as command
use Rattle.dn_top.specs.Promises.{HasCase, steps_of}
use Rattle.dn_top.proofs.Answering.{case_lockstep, writes_of_case, case_check, comparing_of_case}
use Rattle.dn_top.proofs.DrivesAnswering.{case_shake, drives_of_case}
use Rattle.dn_top.specs.Commands.{Fulfils}
use Rattle.dn_top.proofs.Promising.{same_task, never_of_comparing}
use Rattle.dn_top.proofs.top.answer.Goals as goal

pub returns-in-Lockstep : goal.returns-in-Lockstep
returns-in-Lockstep g c =
    same_task c.args.command command.Lockstep _ _ _ _ _ _ c.in-Lockstep.is
    (record {
      answers = case_lockstep _ _ _ c.lockstep_case.result _ _ c.requires.has c.lockstep_case.ensures.answers;
      only = writes_of_case _ _ c.lockstep_case.result _ _ c.lockstep_case.ensures.answers;
      one = λ is. cc;
      write_fault = c.lockstep_case.ensures.fault;
    })

pub returns-in-Check : goal.returns-in-Check
returns-in-Check g c =
    let input = c.as_slice-input.result.now in
    let held = g.K.Sink.holds c.args.sink.now in
    let faults = g.K.Sink.faults c.args.sink.now in
    let has = subst (λ (l : List ℕ). HasCase l c.args.given.now.case c.args.given.now.size) (sym c.as_slice-input.ensures.value) c.requires.has in
    same_task c.args.command command.Check _ _ _ _ _ _ c.in-Check.is
    (subst (λ (l : List ℕ). Fulfils command.Check l c.check_case.result held held faults faults) c.as_slice-input.ensures.value
    (record {
      answers = (case_check input _ _ c.check_case.result has c.check_case.ensures.same c.check_case.ensures.whole c.check_case.ensures.same_cut c.check_case.ensures.cut c.check_case.ensures.differs c.check_case.ensures.only, refl);
      only = comparing_of_case c.check_case.result c.check_case.ensures.only;
      one = λ is. cc;
      write_fault = λ is. never_of_comparing c.check_case.result c.check_case.ensures.only is;
    }))

pub returns-in-Rerun : goal.returns-in-Rerun
returns-in-Rerun g c =
    let held = g.K.Sink.holds c.args.sink.now in
    let faults = g.K.Sink.faults c.args.sink.now in
    same_task c.args.command command.Rerun _ _ _ _ _ _ c.in-Rerun.is
    (subst (λ (l : List ℕ). Fulfils command.Rerun l c.rerun_case.result held (g.K.Sink.holds c.rerun_case.new.sink) faults (g.K.Sink.faults c.rerun_case.new.sink)) c.as_slice-input.ensures.value
    (record { answers = c.rerun_case.ensures.answers; only = c.rerun_case.ensures.only; one = λ is. c.rerun_case.ensures.one; write_fault = c.rerun_case.ensures.fault }))

pub returns-in-Shake : goal.returns-in-Shake
returns-in-Shake g c =
    same_task c.args.command (command.Shake c.in-Shake.schedule) _ _ _ _ _ _ c.in-Shake.is
    (record {
      answers = case_shake c.in-Shake.schedule _ _ _ c.shake_case.result _ _ (c.ends.ensures.whole c.args.given.now.case (steps_of c.args.given.now.case c.in-Shake.schedule) c.shake_case.ensures.rules, c.ends.ensures.schedule c.args.given.now.case c.in-Shake.schedule c.shake_case.ensures.rules) c.requires.has c.shake_case.ensures.answers c.shake_case.ensures.legal;
      only = drives_of_case _ _ _ c.shake_case.result _ _ c.shake_case.ensures.answers;
      one = λ is. cc;
      write_fault = c.shake_case.ensures.fault;
    })
