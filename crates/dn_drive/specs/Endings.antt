-- How a drive of a case ends.
use Rattle.std.specs.Prelude.{◌≡◌, true, false, List, []}
use Rattle.dn_model.specs.declared.feed.External.{External}
use Rattle.dn_model.specs.Network.{Network, routers}
use Rattle.dn_model.specs.Settled.{is_cut}
use Rattle.dn_world.specs.World.{opening, horizon, is_quiet}
use Rattle.dn_world.specs.Runs.{IsFedFrom}
use Rattle.dn_fabric.specs.Fabrics.{Fabric, IsReached}
use Rattle.dn_fabric.specs.Driven.{ShowsRun}
use Rattle.dn_drive.specs.declared.ended.Ended.{Ended}
use Rattle.dn_drive.specs.declared.ended.Ended.TheVariants.{Whole, Cut, Illegal, Open}

-- each step was allowed
abbrev pub IsLegalEnd : Ended → Type 0
IsLegalEnd Whole = Unit {0}
IsLegalEnd Cut = Unit {0}
IsLegalEnd (Illegal n) = ⊥
IsLegalEnd Open = Unit {0}

module _ {S : Type 0} (net : Network S) (feed : List External) where
  -- the journal is a legal run that feeds the case and leaves this rest of its feed, it leads to the fabric's world, and no call was refused
  pub record IsFed (rest : List External) (f : Fabric S) : Type 0 where
    pub running : f.live.stopped ≡ false
    pub reached : IsReached net f
    pub fed : IsFedFrom net (opening (routers net)) feed f.journal rest

  -- the end of the run of the case: all of it was accepted, nothing waits or flies, and all is committed; and the fabric shows the run, which isn't cut
  pub record IsWholeRun (f : Fabric S) : Type 0 where
    pub fed : IsFed [] f
    pub quiet : is_quiet f.live.world ≡ true
    pub boundary : f.live.world.boundary ≡ horizon net.header f.live.world
    pub accepted : f.live.world.accepted ≡ feed
    pub uncut : is_cut net feed ≡ false
    pub shows : ShowsRun net feed f.live

  -- a run that was cut: the fabric shows the run, which is cut there
  pub record IsCutRun (f : Fabric S) : Type 0 where
    pub rest : List External
    pub fed : IsFed rest f
    pub cut : is_cut net feed ≡ true
    pub shows : ShowsRun net feed f.live

  -- a run that is neither at its end nor cut
  pub record IsOpenRun (f : Fabric S) : Type 0 where
    pub rest : List External
    pub fed : IsFed rest f

  -- how a fabric stands after a drive that ended so
  abbrev pub StandsAt : Ended → Fabric S → Type 0
  StandsAt Whole f = IsWholeRun f
  StandsAt Cut f = IsCutRun f
  StandsAt (Illegal n) f = IsOpenRun f
  StandsAt Open f = IsOpenRun f
