use Rattle.std.proofs.Common.{◌≡◌, take}
use Rattle.dn_model.specs.Network.{Network}
use Rattle.dn_fabric.specs.Fabrics.{IsNetworkOf}
use Rattle.dn_drive.specs.Driving.{IsDriven, IsOfSameNetwork}
use Rattle.dn_drive.proofs.Ways.{IsWay}
use Rattle.dn_drive.proofs.replaying.replay.Given as goal

abbrev pub invariant-loop-index : goal.invariant-loop-index
invariant-loop-index g l =
    record {
      driven : IsDriven l.fabric;
      network : IsOfSameNetwork l.fn.fabric l.fabric;
      way : (net : Network g.row.G.Denot) → IsNetworkOf net g.G.Guest.meaning l.fn.fabric.live.header l.fn.fabric.live.openings → IsWay net l.fn.feed l.fabric l.rest;
      journal : (net : Network g.row.G.Denot) → IsNetworkOf net g.G.Guest.meaning l.fn.fabric.live.header l.fn.fabric.live.openings → l.fabric.journal ≡ take l.index l.fn.steps;
    }
