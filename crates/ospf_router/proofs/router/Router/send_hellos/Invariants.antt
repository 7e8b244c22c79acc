use Rattle.std.proofs.Common.{◌≡◌, length}
use Rattle.std.specs.Prelude.{fold}
use Rattle.std.specs.List.{range_with_len}
use Rattle.ospf_router.specs.Ticks.{send_hello}
use Rattle.ospf_router.proofs.router.Router.send_hellos.Given as goal

abbrev pub invariant-loop-port : goal.invariant-loop-port
invariant-loop-port l = record {
  far : l.self ≡ fold (send_hello l.ports) l.fn.self (range_with_len 0 l.port);
  count : length l.self.interfaces.ports ≡ length l.fn.self.interfaces.ports;
}
