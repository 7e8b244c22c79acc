use Rattle.std.proofs.Common.{◌≡◌, ◌++◌}
use Rattle.ospf_flood.proofs.retransmission_list.all_entries.Given as goal

abbrev pub invariant-loop-key : goal.invariant-loop-key
invariant-loop-key l = l.entries.items ++ l.key-iterator ≡ l.sent.entries
