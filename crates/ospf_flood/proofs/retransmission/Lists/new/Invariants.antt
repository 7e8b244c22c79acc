use Rattle.std.proofs.Common.{◌≡◌, [], replicate}
use Rattle.ospf_flood.proofs.retransmission.Lists.new.Given as goal

abbrev pub invariant-loop-port : goal.invariant-loop-port
invariant-loop-port l = l.lists.items ≡ replicate l._port []
