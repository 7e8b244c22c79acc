use Rattle.dn_top.specs.declared.words.Command.TheVariants as command
use Rattle.dn_top.proofs.Promising.{driven}
use Rattle.dn_top.proofs.top.run.Goals as goal

pub returns-in-Ok : goal.returns-in-Ok
returns-in-Ok g c =
    driven (command.Run c.args.options) c.in-Ok.given.input.items c.in-Ok.ensures.one c.run_case.result (g.S.Source.left c.args.source.now) (g.S.Source.left c.read_given.new.source) (g.S.Source.faults c.args.source.now) (g.S.Source.faults c.read_given.new.source) (g.K.Sink.holds c.args.sink.now) (g.K.Sink.holds c.run_case.new.sink) (g.K.Sink.faults c.args.sink.now) (g.K.Sink.faults c.run_case.new.sink) c.in-Ok.ensures.all c.run_case.ensures

pub returns-in-Err : goal.returns-in-Err
returns-in-Err g c = c.in-Err.ensures.refusal (command.Run c.args.options) (g.K.Sink.holds c.args.sink.now) (g.K.Sink.faults c.args.sink.now)
