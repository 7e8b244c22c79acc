-- Logs: a list of steps, after which one mark Stop may stand; and the steps that feed a case.
use Rattle.std.specs.Prelude.{◌≡◌, Bool, true, false, if◌then◌else◌, List, [], ◌∷◌, ◌++◌, map}
use Rattle.std.specs.List.{filter}
use Rattle.dn_world.specs.declared.step.Step.{Step}
use Rattle.dn_world.specs.declared.step.Step.TheVariants.{Beacon, Inject, Close, Deliver, Handle, RollBack, Commit}
use Rattle.dn_world.specs.declared.entry.Entry.{Entry}
use Rattle.dn_world.specs.declared.entry.Entry.TheVariants.{Did, Stop}

-- ---- logs

-- the log of these steps, stopped or not
abbrev pub log_of : List Step → Bool → List Entry
log_of steps stopped = map Did steps ++ (if stopped then Stop ∷ [] else [])

-- a list of entries is a log where it is that of some steps
pub record IsLog (log : List Entry) : Type 0 where
  pub steps : List Step
  pub stopped : Bool
  pub is : log ≡ log_of steps stopped

-- whether the last entry is Stop
abbrev pub is_stopped : List Entry → Bool
is_stopped [] = false
is_stopped (Stop ∷ []) = true
is_stopped (Stop ∷ e ∷ es) = is_stopped (e ∷ es)
is_stopped (Did s ∷ es) = is_stopped es

-- ---- what feeds a case

-- whether the step feeds a case: it begins a group, injects an external, or closes
abbrev pub feeds_step : Step → Bool
feeds_step Beacon = true
feeds_step (Inject x) = true
feeds_step Close = true
feeds_step (Deliver place) = false
feeds_step (Handle r) = false
feeds_step (RollBack r) = false
feeds_step Commit = false

abbrev pub feeds_entry : Entry → Bool
feeds_entry (Did s) = feeds_step s
feeds_entry Stop = false

-- the Beacon, Inject and Close steps, in order
unfoldable pub feeding : List Step → List Step
feeding steps = filter feeds_step steps

-- the same of a log
unfoldable pub fed : List Entry → List Entry
fed log = filter feeds_entry log
