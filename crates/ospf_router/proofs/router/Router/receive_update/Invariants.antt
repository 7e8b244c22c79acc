use Rattle.std.proofs.Common.{◌≡◌, ◌≤◌, [], length, take}
use Rattle.std.specs.Prelude.{fold}
use Rattle.ospf_router.specs.ReceiveUpdate.{taken_of, receive_lsa}
use Rattle.ospf_router.proofs.router.Router.receive_update.Given as goal

abbrev pub invariant-loop-lsa : goal.invariant-loop-lsa
invariant-loop-lsa l = record {
  far : taken_of l.self l.acks.items ≡ fold (receive_lsa l.full l.port) (taken_of l.fn.self []) (take l.lsa-index l.lsas);
  few : length l.acks.items ≤ l.lsa-index;
  count : length l.self.interfaces.ports ≡ length l.fn.self.interfaces.ports;
}
