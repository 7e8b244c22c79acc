use Rattle.std.proofs.Common.{◌≡◌, length, take}
use Rattle.std.specs.Prelude.{fold}
use Rattle.ospf_router.specs.ReceiveAcknowledgement.{receive_header}
use Rattle.ospf_router.proofs.router.Router.receive_acknowledgement.Given as goal

abbrev pub invariant-loop-head : goal.invariant-loop-head
invariant-loop-head l = record {
  far : l.self ≡ fold (receive_header l.port) l.fn.self (take l.head-index l.heads);
  count : length l.self.interfaces.ports ≡ length l.fn.self.interfaces.ports;
}
