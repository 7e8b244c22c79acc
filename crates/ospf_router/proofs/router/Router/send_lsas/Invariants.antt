use Rattle.std.proofs.Common.{◌≡◌, length, take}
use Rattle.std.specs.Prelude.{fold}
use Rattle.ospf_router.specs.Flooding.{list_as_sent}
use Rattle.ospf_router.proofs.router.Router.send_lsas.Given as goal

abbrev pub invariant-loop-key : goal.invariant-loop-key
invariant-loop-key l = record {
  far : l.self ≡ fold (list_as_sent l.port) l.initial.self (take l.key-index l.keys);
  count : length l.self.interfaces.ports ≡ length l.fn.self.interfaces.ports;
}
