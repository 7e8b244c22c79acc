-- What an input asks a command to answer: each answer has its cause in the input alone.
use Rattle.std.specs.Prelude.{◌≡◌, ◌⊎◌, ℕ, ◌<◌, Bool, true, false, List, length}
use Rattle.dn_io.specs.Streams.{counted}
use Rattle.dn_model.specs.Cases.{Recording}
use Rattle.dn_case.specs.declared.cause.CaseFault.{CaseFault}
use Rattle.dn_top.specs.declared.status.Status.{Status}
use Rattle.dn_top.specs.declared.status.Status.TheVariants as status
use Rattle.dn_drive.specs.declared.ended.Ended.TheVariants as ended
use Rattle.dn_top.specs.declared.words.Schedule.{Schedule}
use Rattle.dn_top.specs.declared.words.Command.{Command}
use Rattle.dn_top.specs.declared.words.Command.TheVariants as command
use Rattle.dn_top.specs.Promises.{HasCase, IsBadCase, HasItsTrace, HasOtherTrace, IsBadJournal, HasRerun, HasShaken, is_cut_case, input_limit}

-- an input is read in one way: it has one case at most at its front, and one first bad line at most, of the case or of the journal behind it
pub record HasOneReading (input : List ℕ) : Type 0 where
  pub case : (c d : Recording) (m n : ℕ) → HasCase input c m → HasCase input d n → (c ≡ d) × (m ≡ n)
  pub bad_case : (f g : CaseFault) → IsBadCase input f → IsBadCase input g → f ≡ g
  pub bad_journal : (f g : CaseFault) → IsBadJournal input f → IsBadJournal input g → f ≡ g

-- the run of the case at the front of the input is cut, or whole
pub record HasRun (input : List ℕ) (cut : Bool) : Type 0 where
  pub case : Recording
  pub size : ℕ
  pub has : HasCase input case size
  pub is : is_cut_case case ≡ cut

-- what `run` and `lockstep` have to answer to an input
pub data RunOwes (input : List ℕ) : Status → Type 0 where
  whole_run : HasRun input false → RunOwes input status.Ok
  cut_run : HasRun input true → RunOwes input status.Cut
  no_case : (fault : CaseFault) → IsBadCase input fault → RunOwes input (status.BadCase fault)
  too_big : input_limit < length input → RunOwes input status.TooBig

-- what `check` has to answer to an input
pub data CheckOwes (input : List ℕ) : Status → Type 0 where
  whole_trace : HasItsTrace input false → CheckOwes input status.Ok
  cut_trace : HasItsTrace input true → CheckOwes input status.Cut
  other_trace : (place : ℕ) → HasOtherTrace input place → CheckOwes input (status.Differs place)
  no_case_to_check : (fault : CaseFault) → IsBadCase input fault → CheckOwes input (status.BadCase fault)
  too_big_to_check : input_limit < length input → CheckOwes input status.TooBig

-- what `rerun` has to answer to an input
pub data RerunOwes (input : List ℕ) : Status → Type 0 where
  whole_rerun : HasRerun input ended.Whole → RerunOwes input status.Ok
  cut_rerun : HasRerun input ended.Cut → RerunOwes input status.Cut
  illegal_rerun : (number : ℕ) → HasRerun input (ended.Illegal number) → RerunOwes input (status.Illegal number)
  open_rerun : HasRerun input ended.Open → RerunOwes input status.Open
  no_case_to_rerun : (fault : CaseFault) → IsBadCase input fault → RerunOwes input (status.BadCase fault)
  no_journal : (fault : CaseFault) → IsBadJournal input fault → RerunOwes input (status.BadCase fault)
  too_big_to_rerun : input_limit < length input → RerunOwes input status.TooBig

-- what `shake` by a schedule has to answer to an input
pub data ShakeOwes (s : Schedule) (input : List ℕ) : Status → Type 0 where
  whole_shake : HasShaken s input ended.Whole → ShakeOwes s input status.Ok
  cut_shake : HasShaken s input ended.Cut → ShakeOwes s input status.Cut
  open_shake : HasShaken s input ended.Open → ShakeOwes s input status.Open
  no_case_to_shake : (fault : CaseFault) → IsBadCase input fault → ShakeOwes s input (status.BadCase fault)
  too_big_to_shake : input_limit < length input → ShakeOwes s input status.TooBig

-- what a command has to answer to an input
abbrev pub Owes : Command → List ℕ → Status → Type 0
Owes (command.Run options) input s = RunOwes input s
Owes command.Lockstep input s = RunOwes input s
Owes command.Check input s = CheckOwes input s
Owes command.Rerun input s = RerunOwes input s
Owes (command.Shake schedule) input s = ShakeOwes schedule input s

-- no fault came: the count of faults is below the next one
abbrev pub IsCalm : ℕ → ℕ → Type 0
IsCalm old now = now < counted old

-- this is answered, or there was no memory
abbrev pub IsAnswered : Status → Status → Type 0
IsAnswered owed s = (s ≡ owed) ⊎ (s ≡ status.NoMemory)
