-- What holds of a fabric that is driven.
use Rattle.std.specs.Prelude.{◌≡◌, ℕ, ◌≤◌, false, length, get_or}
use Rattle.dn_fabric.specs.Fabrics.{Fabric}

-- no call was refused, no router is leased, there is a router, and each one has its guest and its part
pub record IsDriven {S : Type 0} (f : Fabric S) : Type 0 where
  pub some : 1 ≤ length f.live.header.routers
  pub one_each : length f.live.openings ≡ length f.live.header.routers
  pub leases : length f.leased ≡ length f.live.header.routers
  pub running : f.live.stopped ≡ false
  pub free : (r : ℕ) → get_or f.leased r false ≡ false
  pub parts : length f.live.world.parts ≡ length f.live.header.routers

-- both have one header and one list of opening guests
pub record IsOfSameNetwork {S : Type 0} (before now : Fabric S) : Type 0 where
  pub header : now.live.header ≡ before.live.header
  pub openings : now.live.openings ≡ before.live.openings
