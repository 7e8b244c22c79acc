-- What a command says of its source, its sink and its status.
use Rattle.std.specs.Prelude.{◌≡◌, ◌≢◌, ◌↔◌, ℕ, ◌<◌, ◌≤◌, Bool, true, false, List, [], length, Option, Some, None, IfSome}
use Rattle.dn_io.specs.Streams.{Rose, Gives}
use Rattle.dn_top.specs.declared.status.Status.{Status}
use Rattle.dn_top.specs.declared.status.Status.TheVariants as status
use Rattle.dn_top.specs.declared.words.Command.{Command}
use Rattle.dn_top.specs.declared.words.Command.TheVariants as command
use Rattle.dn_top.specs.Promises.{Answers, input_limit, is_of_whole_input, is_of_case}
use Rattle.dn_top.specs.Completeness.{Owes, IsCalm, IsAnswered}
use Rattle.dn_top.specs.Drives.{HasOneJournal}

-- a source and a sink at one moment: what is left and what is held, where they tell it, and how often each has failed
pub record Streams : Type 0 where
  pub left : Option (List ℕ)
  pub read_faults : ℕ
  pub held : Option (List ℕ)
  pub write_faults : ℕ

abbrev pub streams : Option (List ℕ) → ℕ → Option (List ℕ) → ℕ → Streams
streams left read_faults held write_faults = record { left = left; read_faults = read_faults; held = held; write_faults = write_faults }

-- answers that come before a case was looked for
abbrev pub is_early : Status → Bool
is_early status.ReadFault = true
is_early status.TooBig = true
is_early _ = false

-- these write nothing, and `check` never writes
abbrev pub writes_nothing : Option Command → Status → Bool
writes_nothing None s = is_early s
writes_nothing (Some (command.Run options)) s = is_early s
writes_nothing (Some command.Lockstep) s = is_early s
writes_nothing (Some command.Check) s = true
writes_nothing (Some command.Rerun) s = is_early s
writes_nothing (Some (command.Shake schedule)) s = is_early s

-- what a call promises that was asked for this command, or by words that are none: of its status, and of source and sink before and after it
pub record Promise (asked : Option Command) (s : Status) (old new : Streams) : Type 0 where
  -- what each status says of the input, and what was written
  pub answers : IfSome asked (λ task. IfSome old.left (λ input. Answers task s input old.held new.held))
  -- each cause has its answer: where no fault came, what the input asks for is answered, or there was no memory
  pub complete : IfSome asked (λ task. IfSome old.left (λ input. (owed : Status) → Owes task input owed → IsCalm old.read_faults new.read_faults → IsCalm old.write_faults new.write_faults → IsAnswered owed s))
  -- words that are no command, and no others; nothing is read or written then
  pub usage : (s ≡ status.Usage) ↔ (asked ≡ None)
  pub unread : s ≡ status.Usage → new.left ≡ old.left
  pub unwritten : s ≡ status.Usage → new.held ≡ old.held
  -- the same of a sink that tells nothing of its bytes
  pub silent : writes_nothing asked s ≡ true → new.held ≡ old.held
  -- a source that was read to its end, and one that gave too much
  pub read : is_of_whole_input s ≡ true → IfSome new.left (λ left. left ≡ [])
  pub too_big : s ≡ status.TooBig → Gives old.left new.left (λ came. input_limit < length came)
  pub not_too_big : s ≢ status.TooBig → Gives old.left new.left (λ came. length came ≤ input_limit)
  -- faults, also where source and sink tell nothing of their bytes
  pub read_fault : s ≡ status.ReadFault → Rose old.read_faults new.read_faults
  pub write_fault : s ≡ status.WriteFault → Rose old.write_faults new.write_faults

-- ---- the two halves of a command

-- the source gave this input to its end
pub record GaveAll (input : List ℕ) (left left_now : Option (List ℕ)) : Type 0 where
  pub all : IfSome left (λ l. l ≡ input)
  pub none_left : IfSome left_now (λ l. l ≡ [])
  pub few : Gives left left_now (λ came. length came ≤ input_limit)

-- an answer to an input without a case: whatever the command was, and whatever the sink holds, it keeps the promise
abbrev pub Refuses : Status → Option (List ℕ) → Option (List ℕ) → ℕ → ℕ → Type 0
Refuses s left left_now faults faults_now = (task : Command) (held : Option (List ℕ)) (write_faults : ℕ) → Promise (Some task) s (streams left faults held write_faults) (streams left_now faults_now held write_faults)

-- what a command answers to an input with a case at its front, and what it writes then
pub record Fulfils (task : Command) (input : List ℕ) (s : Status) (held held_now : Option (List ℕ)) (faults faults_now : ℕ) : Type 0 where
  pub answers : Answers task s input held held_now
  -- never a refusal of words or of reading
  pub only : is_of_case s ≡ true
  -- what `rerun` owes is one answer, since no lines are the journal of two lists of steps
  pub one : task ≡ command.Rerun → HasOneJournal input
  pub write_fault : s ≡ status.WriteFault → Rose faults faults_now
