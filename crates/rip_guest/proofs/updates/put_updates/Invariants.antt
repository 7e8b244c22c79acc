use Rattle.std.proofs.Common.{◌≡◌, ◌++◌}
use Rattle.rip_guest.specs.Updates.{updates}
use Rattle.rip_guest.proofs.updates.put_updates.Given as goal

abbrev pub invariant-loop-port : goal.invariant-loop-port
invariant-loop-port l = l.out ≡ l.fn.out ++ updates l.only_changed l.table l.ports l.port
