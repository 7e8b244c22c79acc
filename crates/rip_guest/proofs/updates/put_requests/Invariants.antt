use Rattle.std.proofs.Common.{◌≡◌, ◌++◌}
use Rattle.rip_guest.specs.Updates.{requests}
use Rattle.rip_guest.proofs.updates.put_requests.Given as goal

abbrev pub invariant-loop-port : goal.invariant-loop-port
invariant-loop-port l = l.out ≡ l.fn.out ++ requests l.ports l.port
