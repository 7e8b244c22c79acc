use Rattle.std.proofs.Common.{◌≡◌, ◌++◌}
use Rattle.rip_table.proofs.table.all_entries.Given as goal

abbrev pub invariant-loop-network : goal.invariant-loop-network
invariant-loop-network l = l.entries.items ++ l.network-iterator ≡ l.routes.entries
