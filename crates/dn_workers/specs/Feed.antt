-- What a feeder adds to a fabric, and to the log that its seat has seen.
use Rattle.std.specs.Prelude.{◌≡◌, ◌⊎◌, ◌≤◌, ℕ, suc, Bool, true, false, List, [], ◌∷◌, ◌++◌, map, replicate}
use Rattle.dn_model.specs.declared.feed.External.{External}
use Rattle.dn_model.specs.Cases.{Heading}
use Rattle.dn_world.specs.declared.entry.Entry.{Entry}
use Rattle.dn_world.specs.declared.entry.Entry.TheVariants.{Did}
use Rattle.dn_world.specs.declared.step.Step.{Step}
use Rattle.dn_world.specs.declared.step.Step.TheVariants.{Beacon, Inject, Close, Deliver, Handle, RollBack, Commit}
use Rattle.dn_world.specs.Logs.{fed, is_stopped}
use Rattle.dn_world.specs.Runs.{injects}
use Rattle.dn_fabric.specs.Fabrics.{Fabric, HasHalted}
use Rattle.dn_record.specs.declared.feeder.Fed.{Fed}
use Rattle.dn_record.specs.Feeding.{last_group, HasGiven}

module _ {S : Type 0} where
  -- these steps were taken and no others, and the fabric runs; the floor is this group, and whether the feed is closed
  pub record HasFed (before : Fabric S) (steps : List Step) (group : ℕ) (ended : Bool) (now : Fabric S) : Type 0 where
    pub journal : now.journal ≡ before.journal ++ steps
    pub header : now.live.header ≡ before.live.header
    pub openings : now.live.openings ≡ before.live.openings
    pub running : now.live.stopped ≡ false
    pub floor : now.live.world.floor ≡ group
    pub closed : now.live.world.closed ≡ ended

  -- no memory was found after so many beacons: nothing else was done, and the fabric is stopped
  pub record HasStoppedAfter (before : Fabric S) (beats : ℕ) (now : Fabric S) : Type 0 where
    pub journal : now.journal ≡ before.journal ++ replicate beats Beacon
    pub halted : HasHalted before.live now.live

-- how many groups the steps begin
abbrev pub begun : List Step → ℕ
begun [] = 0
begun (Beacon ∷ ss) = suc (begun ss)
begun (Inject x ∷ ss) = begun ss
begun (Close ∷ ss) = begun ss
begun (Deliver place ∷ ss) = begun ss
begun (Handle r ∷ ss) = begun ss
begun (RollBack r ∷ ss) = begun ss
begun (Commit ∷ ss) = begun ss

-- whether one of the steps closes
abbrev pub closes : List Step → Bool
closes [] = false
closes (Close ∷ ss) = true
closes (Beacon ∷ ss) = closes ss
closes (Inject x ∷ ss) = closes ss
closes (Deliver place ∷ ss) = closes ss
closes (Handle r ∷ ss) = closes ss
closes (RollBack r ∷ ss) = closes ss
closes (Commit ∷ ss) = closes ss

-- there is one external more
abbrev pub HasOneMore : List External → List External → Type 0
HasOneMore xs ys = (x : External) × (ys ≡ xs ++ x ∷ [])

-- what the fed steps of a log are, whose feeder has given these externals, and has closed or hasn't
pub record IsFedWith (given : List External) (closed : Bool) (seen : List Entry) : Type 0 where
  pub steps : List Step
  pub is : fed seen ≡ map Did steps
  -- they inject what was given, in order and with its stamps; while the feeder hasn't closed, a stop may have come before the last one
  pub injected : (injects steps ≡ given) ⊎ ((closed ≡ false) × (is_stopped seen ≡ true) × HasOneMore (injects steps) given)
  -- while it hasn't closed they don't close, and begin no group after that of the last one given
  pub unclosed : closed ≡ false → closes steps ≡ false
  pub not_ahead : closed ≡ false → begun steps ≤ last_group 0 given

-- the last of the fed steps closes
abbrev pub EndsWithClose : List Entry → Type 0
EndsWithClose seen = (front : List Entry) × (fed seen ≡ front ++ Did Close ∷ [])

-- what the fed steps of a log are between two holds of its feeder, which has given these externals: they inject just these, in order and with their stamps, the last group begun is that of the last one, and they don't close
pub record IsFedUpTo (given : List External) (seen : List Entry) : Type 0 where
  pub steps : List Step
  pub is : fed seen ≡ map Did steps
  pub injected : injects steps ≡ given
  pub begun : begun steps ≡ last_group 0 given
  pub unclosed : closes steps ≡ false

-- the log was fed with all that the feeder had given before it answered this, and by now the feeder has given these externals, and has closed or hasn't
pub record IsDue (h : Heading) (seen : List Entry) (fed : Fed) (given : List External) (closed : Bool) : Type 0 where
  pub before : List External
  pub up_to : IsFedUpTo before seen
  pub answer : HasGiven h before fed given closed
