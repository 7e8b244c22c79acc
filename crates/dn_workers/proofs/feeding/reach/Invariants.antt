use Rattle.std.proofs.Common.{◌-◌, ◌≤◌, false, replicate}
use Rattle.dn_world.specs.declared.step.Step.TheVariants.{Beacon}
use Rattle.dn_workers.specs.Feed.{HasFed}
use Rattle.dn_workers.proofs.feeding.reach.Given as goal

abbrev pub invariant-loop-begun : goal.invariant-loop-begun
invariant-loop-begun g l =
    record {
      fed : HasFed l.fn.fabric (replicate (l._begun - l.fn.fabric.live.world.floor) Beacon) l._begun false l.fabric;
      low : l.fn.fabric.live.world.floor ≤ l._begun;
      high : l._begun ≤ l.fn.group;
    }
