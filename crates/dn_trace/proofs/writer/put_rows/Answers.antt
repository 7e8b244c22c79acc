use Rattle.dn_trace.proofs.Fronts.{front_of_rows, front_so_far}
use Rattle.dn_trace.proofs.writer.put_rows.Goals as goal

pub returns-in_err-put_if_full-clause-front : goal.returns-in_err-put_if_full-clause-front
returns-in_err-put_if_full-clause-front g c =
    front_of_rows (g.K.Sink.holds c.args.sink.now) (g.K.Sink.holds c.loop-row.sink) (g.K.Sink.holds c.put_if_full.new.sink) c.loop-row.text c.args.text.now c.args.routers.now c.args.rows.now c.loop-row.row-index c.loop-row.invariant.written (c.in_err-put_if_full.ensures.front)

pub returns-then-is_err-clause-front : goal.returns-then-is_err-clause-front
returns-then-is_err-clause-front g c =
    front_so_far (g.K.Sink.holds c.args.sink.now) (g.K.Sink.holds c.loop-row.sink) (g.K.Sink.holds c.put_if_full.new.sink) c.loop-row.text c.put_if_full.new.text c.args.text.now c.args.routers.now c.args.rows.now c.loop-row.row-index c.loop-row.invariant.written (c.in_ok-put_if_full.ensures.all)

pub returns-clause-front : goal.returns-clause-front
returns-clause-front g c =
    front_of_rows (g.K.Sink.holds c.args.sink.now) (g.K.Sink.holds c.loop-row.sink) (g.K.Sink.holds c.put_text.new.sink) c.loop-row.text c.args.text.now c.args.routers.now c.args.rows.now c.loop-row.row-index c.loop-row.invariant.written c.put_text.ensures.front
