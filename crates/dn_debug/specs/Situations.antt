-- Where a session stands.
use Rattle.std.specs.Prelude.{◌≡◌, ℕ, List}
use Rattle.circular_buffer.specs.Buffer.{keep_last}
use Rattle.dn_model.specs.declared.event.Event.{Event}
use Rattle.dn_model.specs.declared.feed.External.{External}
use Rattle.dn_model.specs.Cases.{Recording}
use Rattle.dn_model.specs.Network.{Network}
use Rattle.dn_lockstep.specs.Running.{Running, StandsIn, first_rows}
use Rattle.dn_probe.specs.Meaning.{Watch}
use Rattle.dn_command.specs.declared.breaks.Break.{Break}
use Rattle.dn_debug.specs.Watching.{Watched, Kept, watched}

-- what answers hang on: how many rows were handled, the breaks in the order in which they were set, the attached probes in the order in which they were attached, and the probes that are still there to be attached
pub record Situation : Type 0 where
  pub place : ℕ
  pub breaks : List Break
  pub attached : List Watch
  pub there : List Watch

abbrev pub situation : ℕ → List Break → Watched → Situation
situation place breaks probes = record { place = place; breaks = breaks; attached = probes.attached; there = probes.there }

-- a session as plain data: the case, the engine, the breaks, the probes, and the last rows
pub record Sitting (S X : Type 0) : Type 0 where
  pub case : Recording
  pub engine : Running S
  pub breaks : List Break
  pub probes : Kept X
  pub latest : List Event

abbrev pub situation_of : {S X : Type 0} → (X → Watch) → Sitting S X → Situation
situation_of watcher s = situation s.engine.place s.breaks (watched watcher s.probes)

-- the engine stands in the lockstep run of this network and feed, and the last rows are those before its place, at most 16
pub record IsAt {S : Type 0} (net : Network S) (feed : List External) (engine : Running S) (recent : List Event) : Type 0 where
  pub stands : StandsIn net feed engine
  pub latest : recent ≡ keep_last 16 (first_rows net feed engine.place)

-- the same of a session
abbrev pub SitsIn : {S X : Type 0} → Network S → List External → Sitting S X → Type 0
SitsIn net feed s = IsAt net feed s.engine s.latest
