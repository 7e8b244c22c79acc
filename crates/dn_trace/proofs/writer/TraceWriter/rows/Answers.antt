use Rattle.dn_trace.specs.Writing.{more_rows}
use Rattle.dn_trace.proofs.writer.TraceWriter.rows.Goals as goal

pub returns-clause-count : goal.returns-clause-count
unfolding more_rows
returns-clause-count g c = cc
