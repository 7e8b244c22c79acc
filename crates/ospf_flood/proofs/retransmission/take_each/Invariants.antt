use Rattle.std.proofs.Common.{◌≡◌, ◌++◌, take, drop}
use Rattle.ospf_flood.specs.Retransmission.{without_lsa_anywhere}
use Rattle.ospf_flood.proofs.retransmission.take_each.Given as goal

abbrev pub invariant-loop-list : goal.invariant-loop-list
invariant-loop-list l = l.list-items ≡ without_lsa_anywhere l.key (take l.list-index l.fn.lists) ++ drop l.list-index l.fn.lists
