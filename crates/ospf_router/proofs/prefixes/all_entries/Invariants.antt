use Rattle.std.proofs.Common.{◌≡◌, ◌++◌}
use Rattle.ospf_router.proofs.prefixes.all_entries.Given as goal

abbrev pub invariant-loop-network : goal.invariant-loop-network
invariant-loop-network l = l.entries.items ++ l.network-iterator ≡ l.costs.entries
