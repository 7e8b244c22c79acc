use Rattle.std.proofs.Common.{◌≡◌, ◌++◌}
use Rattle.ospf_flood.specs.Retransmission.{due}
use Rattle.ospf_flood.proofs.retransmission_list.RetransmissionList.due.Given as goal

abbrev pub invariant-loop-key : goal.invariant-loop-key
invariant-loop-key l = l.keys.items ++ due l.now l.key-iterator ≡ due l.now l.self
