use Rattle.std.proofs.Common.{◌≡◌, ◌++◌, take}
use Rattle.dn_trace.specs.Rows.{row_lines}
use Rattle.dn_debug.proofs.latest.push_rows.Given as goal

abbrev pub invariant-loop-row : goal.invariant-loop-row
invariant-loop-row l = l.out ≡ l.fn.out ++ row_lines l.routers (take l.row-index l.rows)
