use Rattle.std.proofs.Common.{Some, None}
use Rattle.dn_top.proofs.Promising.{unasked, same_asked}
use Rattle.dn_top.proofs.top.defined_plain.Goals as goal

pub returns-in-Some : goal.returns-in-Some
returns-in-Some g c = same_asked _ (Some c.in-Some.plain) c.obey.result _ _ (cc (c.plain_of.ensures, c.command_of.ensures.is, c.in-Some.is)) c.obey.ensures

pub returns-in-None : goal.returns-in-None
returns-in-None g c = same_asked _ None _ _ _ (cc (c.plain_of.ensures, c.command_of.ensures.is, c.in-None.is)) (unasked (g.S.Source.left c.args.source.now) (g.S.Source.faults c.args.source.now) (g.K.Sink.holds c.args.sink.now) (g.K.Sink.faults c.args.sink.now))
