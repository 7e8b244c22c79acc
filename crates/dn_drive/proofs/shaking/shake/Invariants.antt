use Rattle.std.proofs.Common.{◌≡◌, ◌-◌, ◌++◌}
use Rattle.dn_model.specs.Network.{Network, routers}
use Rattle.dn_world.specs.World.{opening}
use Rattle.dn_fabric.specs.Fabrics.{IsNetworkOf}
use Rattle.dn_drive.specs.Choices.{schedule}
use Rattle.dn_drive.specs.Driving.{IsDriven, IsOfSameNetwork}
use Rattle.dn_drive.proofs.Ways.{IsWay}
use Rattle.dn_drive.proofs.shaking.shake.Given as goal

abbrev pub invariant-loop-turn : goal.invariant-loop-turn
invariant-loop-turn g l =
    record {
      driven : IsDriven l.fabric;
      network : IsOfSameNetwork l.fn.fabric l.fabric;
      way : (net : Network g.row.G.Denot) → IsNetworkOf net g.G.Guest.meaning l.fn.fabric.live.header l.fn.fabric.live.openings → IsWay net l.fn.feed l.fabric l.rest;
      schedule : (net : Network g.row.G.Denot) → IsNetworkOf net g.G.Guest.meaning l.fn.fabric.live.header l.fn.fabric.live.openings → schedule net (opening (routers net)) l.fn.feed l.fn.number l.fn.steps ≡ l.fabric.journal ++ schedule net l.fabric.live.world l.rest l.last (l.fn.steps - l._turn);
    }
