use Rattle.std.proofs.Common.{◌≡◌, false}
use Rattle.dn_workers.specs.Holds.{HasGoneOn}
use Rattle.dn_workers.proofs.holding.go_on.Given as goal

abbrev pub invariant-loop : goal.invariant-loop
invariant-loop g l =
    record {
      gone_on : HasGoneOn l.fn.fabric l.fabric;
      running : l.fabric.live.stopped ≡ false;
    }
