use Rattle.std.proofs.Common.{List, ℕ, ◌++◌, ap, ◌∙◌, append-nil}
use Rattle.dn_top.specs.Promises.{written}
use Rattle.dn_top.proofs.Showing.{writes_same}
use Rattle.dn_top.proofs.written.lockstep_case.Goals as goal

pub returns-clause-answers : goal.returns-clause-answers
returns-clause-answers g c =
    let text = written c.args.case.now in
    writes_same c.args.case.now (text ++ c.new-nothing.result) text c.write_run.result (g.K.Sink.holds c.args.sink.now) (g.K.Sink.holds c.write_run.new.sink)
    (ap (λ (l : List ℕ). text ++ l) c.new-nothing.ensures ∙ append-nil text) c.write_run.ensures.answers
