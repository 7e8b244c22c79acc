use Rattle.std.proofs.Common.{◌≡◌, false, take}
use Rattle.std.specs.Prelude.{is_some}
use Rattle.std.specs.List.{list_any}
use Rattle.ospf_flood.specs.Retransmission.{OnPort, last_sent}
use Rattle.ospf_router.proofs.interfaces.Interfaces.is_listed.Given as goal

abbrev pub invariant-loop-port : goal.invariant-loop-port
invariant-loop-port l = list_any (λ (x : OnPort). is_some (last_sent x l.key)) (take l.port l.self.lists) ≡ false
