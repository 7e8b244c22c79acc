use Rattle.std.proofs.Common.{◌≡◌, ◌+◌, ◌≤◌, length, drop}
use Rattle.dn_world.specs.World.{is_behind, is_ready}
use Rattle.dn_drive.specs.Choices.{passing}
use Rattle.dn_drive.proofs.choices.count_routers.Given as goal

abbrev pub invariant-loop-router : goal.invariant-loop-router
invariant-loop-router g l =
    record {
      behind : l.behind + length (passing is_behind l.router (drop l.router l.fabric.live.world.parts)) ≡ length (passing is_behind 0 l.fabric.live.world.parts);
      few_behind : l.behind ≤ l.router;
      ready : l.ready + length (passing is_ready l.router (drop l.router l.fabric.live.world.parts)) ≡ length (passing is_ready 0 l.fabric.live.world.parts);
      few_ready : l.ready ≤ l.router;
    }
