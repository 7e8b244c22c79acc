use Rattle.dn_top.proofs.Promising.{driven}
use Rattle.dn_top.proofs.top.obey.Goals as goal

pub returns-in-Ok : goal.returns-in-Ok
returns-in-Ok g c =
    driven c.args.command c.in-Ok.given.input.items c.in-Ok.ensures.one c.answer.result (g.S.Source.left c.args.source.now) (g.S.Source.left c.read_given.new.source) (g.S.Source.faults c.args.source.now) (g.S.Source.faults c.read_given.new.source) (g.K.Sink.holds c.args.sink.now) (g.K.Sink.holds c.answer.new.sink) (g.K.Sink.faults c.args.sink.now) (g.K.Sink.faults c.answer.new.sink) c.in-Ok.ensures.all c.answer.ensures

pub returns-in-Err : goal.returns-in-Err
returns-in-Err g c = c.in-Err.ensures.refusal c.args.command (g.K.Sink.holds c.args.sink.now) (g.K.Sink.faults c.args.sink.now)
