-- A whole run on threads.
use Rattle.std.specs.Prelude.{◌≡◌, true, false, List}
use Rattle.dn_guest.specs.Meaning.{Meaning}
use Rattle.dn_model.specs.declared.feed.External.{External}
use Rattle.dn_model.specs.Network.{Network}
use Rattle.dn_world.specs.Runs.{IsLegalOf}
use Rattle.dn_fabric.specs.Fabrics.{Fabric, IsNetworkOf}
use Rattle.dn_workers.specs.Holds.{IsOver}

-- the fabric after a run of these externals: header and opening guests are those from before, and no call was refused; in each network of them its steps are a legal run that injects just these, in order; it is closed, and it is cut, or quiet with all committed
pub record HasRun {S : Type 0} (meaning : Meaning S) (before : Fabric S) (given : List External) (now : Fabric S) : Type 0 where
  pub header : now.live.header ≡ before.live.header
  pub openings : now.live.openings ≡ before.live.openings
  pub running : now.live.stopped ≡ false
  pub accepted : now.live.world.accepted ≡ given
  pub legal : (net : Network S) → IsNetworkOf net meaning now.live.header now.live.openings → IsLegalOf net given now.journal
  pub closed : now.live.world.closed ≡ true
  pub over : IsOver now
