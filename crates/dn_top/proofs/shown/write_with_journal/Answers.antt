use Rattle.std.proofs.Common.{◌++◌}
use Rattle.dn_top.specs.Promises.{written, shaken}
use Rattle.dn_top.proofs.Showing.{writes_same, shaken_is}
use Rattle.dn_top.proofs.shown.write_with_journal.Goals as goal

pub returns-in-Ok-clause-answers : goal.returns-in-Ok-clause-answers
returns-in-Ok-clause-answers g c =
    let case = c.args.case.now in
    let text = written case ++ c.push_journal.new.out in
    let same = shaken_is case c.args.header.now c.args.fabric.now.journal c.new-journal.result c.push_journal.new.out c.requires.same c.new-journal.ensures c.in-Ok.ensures in
    writes_same case text (shaken case c.args.fabric.now.journal) c.write_run.result (g.K.Sink.holds c.args.sink.now) (g.K.Sink.holds c.write_run.new.sink) same c.write_run.ensures.answers
