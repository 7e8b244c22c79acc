use Rattle.std.proofs.Common.{rules}
use Rattle.dn_trace.proofs.Fronts.{rows_begun, ends_begun, rows_and_ends}
use Rattle.dn_trace.proofs.write.write_shown.Goals as goal

pub returns-in_err-write_rows-clause-front : goal.returns-in_err-write_rows-clause-front
returns-in_err-write_rows-clause-front g c = rows_begun c.args.header.now.routers c.args.rows.now c.args.ends.now (g.K.Sink.holds c.args.sink.now) (g.K.Sink.holds c.write_rows.new.sink) c.write_rows.ensures.front

pub returns-clause-front : goal.returns-clause-front
returns-clause-front g c = ends_begun c.args.header.now.routers c.args.rows.now c.args.ends.now (g.K.Sink.holds c.args.sink.now) (g.K.Sink.holds c.write_rows.new.sink) (g.K.Sink.holds c.put_text.new.sink) c.in_ok-write_rows.ensures.all c.put_text.ensures.front

pub returns-clause-all : goal.returns-clause-all
returns-clause-all g c =
    let all = rows_and_ends c.args.header.now.routers c.args.rows.now c.args.ends.now (g.K.Sink.holds c.args.sink.now) (g.K.Sink.holds c.write_rows.new.sink) (g.K.Sink.holds c.put_text.new.sink) c.in_ok-write_rows.ensures.all in
    search (rules, all)
