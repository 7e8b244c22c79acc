-- Where every drive of a fabric begins, and what a fabric shows of a case's run at its end, whoever drove it.
use Rattle.std.specs.Prelude.{◌≡◌, ℕ, ◌<◌, false, List, length}
use Rattle.dn_model.specs.declared.feed.External.{External}
use Rattle.dn_model.specs.Network.{Network, routers}
use Rattle.dn_model.specs.Settled.{lockstep, shown_rows, is_cut}
use Rattle.dn_world.specs.World.{part}
use Rattle.dn_fabric.specs.Fabrics.{Live, Fabric, opening_fabric}

-- a fabric before its first step, with a guest for each router
pub record IsOpening {S : Type 0} (f : Fabric S) : Type 0 where
  pub one_each : length f.live.openings ≡ length f.live.header.routers
  pub is : f ≡ opening_fabric f.live.header f.live.openings

-- the committed rows are those of the case's lockstep trace, cut where that is cut; and where it isn't, each router has handled its lockstep list
pub record ShowsRun {S : Type 0} (net : Network S) (feed : List External) (l : Live S) : Type 0 where
  pub rows : l.rows ≡ shown_rows net feed
  pub cut : l.cut ≡ is_cut net feed
  pub done : l.cut ≡ false → (r : ℕ) → r < routers net → (part l.world r).done ≡ lockstep net feed r
