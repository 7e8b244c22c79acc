use Rattle.std.proofs.Common.{◌≡◌, ◌++◌}
use Rattle.rip_table.specs.Updates.{update_entries}
use Rattle.rip_table.proofs.updates.update_entries.Given as goal

abbrev pub invariant-loop-network : goal.invariant-loop-network
invariant-loop-network l = l.entries.items ++ update_entries l.to l.only_changed l.network-iterator ≡ update_entries l.to l.only_changed l.routes.entries
