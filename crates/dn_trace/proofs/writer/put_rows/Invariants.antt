use Rattle.std.proofs.Common.{◌≤◌, ◌++◌, take}
use Rattle.dn_io.specs.Streams.{PutsOrKeeps}
use Rattle.dn_trace.specs.Rows.{row_lines}
use Rattle.dn_trace.proofs.writer.put_rows.Given as goal

abbrev pub invariant-loop-row : goal.invariant-loop-row
invariant-loop-row g l = record {
  written : PutsOrKeeps (g.K.Sink.holds l.fn.sink) (g.K.Sink.holds l.sink) l.text (l.fn.text ++ row_lines l.routers (take l.row-index l.rows));
  later : g.K.Sink.faults l.fn.sink ≤ g.K.Sink.faults l.sink;
}
