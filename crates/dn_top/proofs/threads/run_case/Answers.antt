use Rattle.dn_top.proofs.Answering.{writes_of_case}
use Rattle.dn_top.proofs.RunAnswering.{case_run}
use Rattle.dn_top.proofs.threads.run_case.Goals as goal

pub returns-in-Ok : goal.returns-in-Ok
returns-in-Ok g c = record {
  answers = case_run c.args.options _ _ _ _ c.write_threaded.result _ _ c.requires.has c.write_threaded.ensures.run c.write_threaded.ensures.answers;
  only = writes_of_case _ _ c.write_threaded.result _ _ c.write_threaded.ensures.answers;
  one = λ is. cc;
  write_fault = c.write_threaded.ensures.fault;
}
