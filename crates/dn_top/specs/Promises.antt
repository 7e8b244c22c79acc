-- What the commands write of an input, and which statuses they answer.
use Rattle.std.specs.Prelude.{◌≡◌, ◌⊎◌, ℕ, ◌+◌, ◌≤◌, ◌<◌, Bool, true, false, List, ◌++◌, length, take, drop, Option}
use Rattle.dn_io.specs.Streams.{behind, PutsFront}
use Rattle.dn_model.specs.Cases.{Heading, Recording}
use Rattle.dn_model.specs.Network.{Network, routers}
use Rattle.dn_model.specs.Settled.{IsPrefixOf, is_cut, shown_rows}
use Rattle.dn_world.specs.declared.step.Step.{Step}
use Rattle.dn_world.specs.World.{horizon, is_quiet, opening}
use Rattle.dn_world.specs.Runs.{IsLegalOf, committed, injects, is_cut_off, world}
use Rattle.dn_text.specs.Lines.{lines}
use Rattle.dn_case.specs.declared.cause.Cause.TheVariants as cause
use Rattle.dn_case.specs.declared.cause.CaseFault.{CaseFault}
use Rattle.dn_case.specs.Spelling.{case_text}
use Rattle.dn_case.specs.Reading.{IsCaseFront, IsFirstBad, HasNoCase}
use Rattle.dn_case.specs.TraceSections.{section_len}
use Rattle.dn_journal.specs.Spelling.{journal_text}
use Rattle.dn_journal.specs.Reading.{IsJournal, IsNoJournal, IsFirstBad as IsFirstBadStep}
use Rattle.dn_drive.specs.declared.ended.Ended.{Ended}
use Rattle.dn_drive.specs.declared.ended.Ended.TheVariants as ended
use Rattle.dn_drive.specs.Allowed.{legal_front, rerun}
use Rattle.dn_drive.specs.Choices.{schedule}
use Rattle.guest_any.specs.declared.any.AnyGuest.{AnyGuest}
use Rattle.guest_any.specs.Any.{any}
use Rattle.guest_any.specs.Openings.{opening_guest}
use Rattle.dn_trace.specs.Trace.{trace_text}
use Rattle.dn_trace.specs.Differing.{DiffersAt}
use Rattle.dn_trace.specs.declared.stream.Ending.{Ending}
use Rattle.dn_trace.specs.declared.stream.Ending.TheVariants as ending
use Rattle.dn_top.specs.declared.status.Status.{Status}
use Rattle.dn_top.specs.declared.status.Status.TheVariants as status
use Rattle.dn_top.specs.declared.words.RunOptions.{RunOptions}
use Rattle.dn_top.specs.declared.words.Schedule.{Schedule}
use Rattle.dn_top.specs.declared.words.Command.{Command}
use Rattle.dn_top.specs.declared.words.Command.TheVariants as command

-- ---- what is written of a case

-- the network of a header: each router runs the guest of its kind, which begins with the router's settings
abbrev pub network_of : Heading → Network AnyGuest
network_of h = record { header = h; guests = any; opening = λ r. opening_guest h r }

-- the lockstep run of a case has more rows than a trace shows
abbrev pub is_cut_case : Recording → Bool
is_cut_case c = is_cut (network_of c.header) c.feed

-- the ending of a cut trace
abbrev pub is_cut_ending : Ending → Bool
is_cut_ending ending.Whole = false
is_cut_ending ending.Cut = true

-- the trace of a case
abbrev pub trace_of : Recording → List ℕ
trace_of c = trace_text (network_of c.header) c.feed

-- the recording, and then the trace: all that `lockstep` and `rerun` write, and `run` without `--journal`
unfoldable pub written : Recording → List ℕ
written c = case_text c ++ trace_of c

-- ---- an input

-- the most bytes of an input
abbrev pub input_limit : ℕ
input_limit = 16777216

-- the case stands at the front of the input, which is within the limit
pub record HasCase (input : List ℕ) (c : Recording) (size : ℕ) : Type 0 where
  pub front : IsCaseFront input c size
  pub within : length input ≤ input_limit

-- the case at the front of the input was written with its trace, which is cut or whole
pub record HasWritten (input : List ℕ) (cut : Bool) (old now : Option (List ℕ)) : Type 0 where
  pub case : Recording
  pub size : ℕ
  pub has : HasCase input case size
  pub is : is_cut_case case ≡ cut
  pub text : now ≡ behind old (written case)

-- a front of what a case at the front of the input gives was written
pub record HasBegun (input : List ℕ) (old now : Option (List ℕ)) : Type 0 where
  pub case : Recording
  pub size : ℕ
  pub has : HasCase input case size
  pub front : PutsFront old now (written case)

-- the first bad line of the input, which is within the limit, and no front of it is a case text
pub record IsBadCase (input : List ℕ) (fault : CaseFault) : Type 0 where
  pub first : IsFirstBad (lines input) fault.line fault.cause
  pub none : HasNoCase input
  pub within : length input ≤ input_limit

-- ---- what is compared

-- behind the case at the front of the input stands its trace, which is cut or whole
pub record HasItsTrace (input : List ℕ) (cut : Bool) : Type 0 where
  pub case : Recording
  pub size : ℕ
  pub has : HasCase input case size
  pub is : is_cut_case case ≡ cut
  pub same : drop size input ≡ trace_of case

-- what stands behind the first bytes of the input differs from the trace of the case, first at this place of the input
pub record IsOtherTrace (input : List ℕ) (c : Recording) (size place : ℕ) : Type 0 where
  pub behind_case : ℕ
  pub differs : DiffersAt (drop size input) (trace_of c) behind_case
  pub at : place ≡ size + behind_case

-- what stands behind the case at the front of the input differs from its trace, first at this place of the input
pub record HasOtherTrace (input : List ℕ) (place : ℕ) : Type 0 where
  pub case : Recording
  pub size : ℕ
  pub has : HasCase input case size
  pub other : IsOtherTrace input case size place

-- ---- what is taken step by step

-- what the steps come to in the case, from the opening world of its network
abbrev pub outcome_of : Recording → List Step → Ended
outcome_of c steps = rerun (network_of c.header) (opening (routers (network_of c.header))) c.feed 0 steps

-- the steps of the schedule in the case
abbrev pub steps_of : Recording → Schedule → List Step
steps_of c s = schedule (network_of c.header) (opening (routers (network_of c.header))) c.feed s.number s.steps

-- steps that come to this have a trace
abbrev pub has_trace : Ended → Bool
has_trace ended.Whole = true
has_trace ended.Cut = true
has_trace (ended.Illegal n) = false
has_trace ended.Open = false

-- the steps are a legal run of the case that takes all of its feed, and ends quiet with the boundary at the horizon
pub record EndsWhole (c : Recording) (steps : List Step) : Type 0 where
  pub legal : IsLegalOf (network_of c.header) c.feed steps
  pub all : injects steps ≡ c.feed
  pub quiet : is_quiet (world (network_of c.header) steps) ≡ true
  pub committed : (world (network_of c.header) steps).boundary ≡ horizon c.header (world (network_of c.header) steps)

-- the steps are a legal run of the case that reaches a cut world: below its boundary are more rows than a trace shows
pub record EndsCut (c : Recording) (steps : List Step) : Type 0 where
  pub legal : IsLegalOf (network_of c.header) c.feed steps
  pub cut : is_cut_off (network_of c.header) (world (network_of c.header) steps) ≡ true

-- those of the steps that are taken: none behind the first that leaves a cut world
abbrev pub taken_of : Recording → List Step → List Step
taken_of c steps = legal_front (network_of c.header) (opening (routers (network_of c.header))) c.feed steps

-- those that are taken are a front of the steps, and end so
pub record IsCutOnTheWay (c : Recording) (steps : List Step) : Type 0 where
  pub front : IsPrefixOf (taken_of c steps) steps
  pub ends : EndsCut c (taken_of c steps)

-- ---- journals

-- where a journal begins behind a case of so many bytes: behind the trace section there, if there is one
abbrev pub journal_place : List ℕ → ℕ → ℕ
journal_place input size = size + section_len (drop size input)

-- the lines of the input from there on, and how many there are before
abbrev pub journal_lines : List ℕ → ℕ → List (List ℕ)
journal_lines input size = lines (drop (journal_place input size) input)

abbrev pub lines_before : List ℕ → ℕ → ℕ
lines_before input size = length (lines (take (journal_place input size) input))

-- behind the case at the front of the input, and perhaps a trace section, stands the journal of these steps
pub record HasJournal (input : List ℕ) (c : Recording) (size : ℕ) (steps : List Step) : Type 0 where
  pub has : HasCase input c size
  pub journal : IsJournal c.header (journal_lines input size) steps

-- no journal of this header stands behind the first bytes: the first bad line, counted in the whole input
pub record IsBehindBad (h : Heading) (input : List ℕ) (size : ℕ) (fault : CaseFault) : Type 0 where
  pub line : ℕ
  pub first : IsFirstBadStep h (journal_lines input size) line
  pub none : IsNoJournal h (journal_lines input size)
  pub at : fault.line ≡ lines_before input size + line
  pub cause : fault.cause ≡ cause.Journal

-- no journal stands behind the case at the front of the input, and this is the first bad line
pub record IsBadJournal (input : List ℕ) (fault : CaseFault) : Type 0 where
  pub case : Recording
  pub size : ℕ
  pub has : HasCase input case size
  pub bad : IsBehindBad case.header input size fault

-- the steps of the journal come to this
pub record HasRerun (input : List ℕ) (e : Ended) : Type 0 where
  pub case : Recording
  pub size : ℕ
  pub steps : List Step
  pub has : HasJournal input case size steps
  pub is : outcome_of case steps ≡ e

-- and the steps end so, and the case was written with its trace, which is cut or whole
pub record HasRewritten (input : List ℕ) (e : Ended) (Ends : Recording → List Step → Type 0) (cut : Bool) (old now : Option (List ℕ)) : Type 0 where
  pub comes : HasRerun input e
  pub ends : Ends comes.case comes.steps
  pub is : is_cut_case comes.case ≡ cut
  pub text : now ≡ behind old (written comes.case)

-- the steps of the journal come to a trace, and a front of the case and its trace was written
pub record HasBegunAgain (input : List ℕ) (old now : Option (List ℕ)) : Type 0 where
  pub case : Recording
  pub size : ℕ
  pub steps : List Step
  pub has : HasJournal input case size steps
  pub is : has_trace (outcome_of case steps) ≡ true
  pub front : PutsFront old now (written case)

-- ---- schedules

-- what `shake` writes, and `run` with `--journal`: the recording, the trace, and then the journal of the steps
unfoldable pub shaken : Recording → List Step → List ℕ
shaken c steps = written c ++ journal_text c.header steps

-- the steps of the schedule come to this, in the case at the front of the input
pub record HasShaken (s : Schedule) (input : List ℕ) (e : Ended) : Type 0 where
  pub case : Recording
  pub size : ℕ
  pub has : HasCase input case size
  pub is : outcome_of case (steps_of case s) ≡ e

-- and they end so, and the case was written with its trace, which is cut or whole, and the journal of those steps
pub record HasShakenOut (s : Schedule) (input : List ℕ) (e : Ended) (Ends : Recording → List Step → Type 0) (cut : Bool) (old now : Option (List ℕ)) : Type 0 where
  pub shaking : HasShaken s input e
  pub ends : Ends shaking.case (steps_of shaking.case s)
  pub is : is_cut_case shaking.case ≡ cut
  pub text : now ≡ behind old (shaken shaking.case (steps_of shaking.case s))

-- the steps of the schedule come to a trace, and a front of the case, its trace and the journal was written
pub record HasBegunShaken (s : Schedule) (input : List ℕ) (old now : Option (List ℕ)) : Type 0 where
  pub case : Recording
  pub size : ℕ
  pub has : HasCase input case size
  pub is : has_trace (outcome_of case (steps_of case s)) ≡ true
  pub front : PutsFront old now (shaken case (steps_of case s))

-- ---- runs on threads

-- what the steps of a run come to that is cut, or whole
abbrev pub end_of_run : (cut : Bool) → Ended
end_of_run false = ended.Whole
end_of_run true = ended.Cut

-- and how they end
abbrev pub EndsRun : (cut : Bool) → Recording → List Step → Type 0
EndsRun false = EndsWhole
EndsRun true = EndsCut

-- the steps are a run of the case, which is cut or whole: `rerun` comes to that end by them, they end so, and just the rows that the trace shows are committed
pub record IsCaseRun (c : Recording) (cut : Bool) (steps : List Step) : Type 0 where
  pub is : is_cut_case c ≡ cut
  pub comes : outcome_of c steps ≡ end_of_run cut
  pub ends : EndsRun cut c steps
  pub rows : committed (network_of c.header) (world (network_of c.header) steps) ≡ shown_rows (network_of c.header) c.feed

-- what `run` writes: with `--journal` the journal of the steps that the threads took stands behind the trace
abbrev pub run_text : (journal : Bool) → Recording → List Step → List ℕ
run_text false c steps = written c
run_text true c steps = shaken c steps

-- threads took steps that are a run of the case at the front of the input, and the case was written with its trace, and with the journal of these steps if that is asked for
pub record HasRunOut (o : RunOptions) (input : List ℕ) (cut : Bool) (old now : Option (List ℕ)) : Type 0 where
  pub case : Recording
  pub size : ℕ
  pub steps : List Step
  pub has : HasCase input case size
  pub run : IsCaseRun case cut steps
  pub text : now ≡ behind old (run_text o.journal case steps)

-- the same, and a front of all that was written
pub record HasBegunRun (o : RunOptions) (input : List ℕ) (old now : Option (List ℕ)) : Type 0 where
  pub case : Recording
  pub size : ℕ
  pub steps : List Step
  pub has : HasCase input case size
  pub run : IsCaseRun case (is_cut_case case) steps
  pub front : PutsFront old now (run_text o.journal case steps)

-- ---- statuses

-- a refusal of reading
abbrev pub is_of_reading : Status → Bool
is_of_reading status.ReadFault = true
is_of_reading status.TooBig = true
is_of_reading status.NoMemory = true
is_of_reading _ = false

-- an answer to a comparison
abbrev pub is_of_comparing : Status → Bool
is_of_comparing status.Ok = true
is_of_comparing status.Cut = true
is_of_comparing (status.Differs place) = true
is_of_comparing status.NoMemory = true
is_of_comparing _ = false

-- an answer to an input that was read
abbrev pub is_of_case : Status → Bool
is_of_case status.Usage = false
is_of_case status.ReadFault = false
is_of_case status.TooBig = false
is_of_case _ = true

-- an answer to words that are a command
abbrev pub is_of_command : Status → Bool
is_of_command status.Usage = false
is_of_command _ = true

-- an answer for which the source was read to its end
abbrev pub is_of_whole_input : Status → Bool
is_of_whole_input status.Ok = true
is_of_whole_input status.Cut = true
is_of_whole_input (status.Differs place) = true
is_of_whole_input (status.BadCase fault) = true
is_of_whole_input (status.Illegal number) = true
is_of_whole_input status.Open = true
is_of_whole_input _ = false

-- a refusal of the case: the first bad line, or want of memory
abbrev pub IsCaseRefusal : List ℕ → Status → Type 0
IsCaseRefusal input (status.BadCase fault) = IsBadCase input fault
IsCaseRefusal input status.NoMemory = Unit {0}
IsCaseRefusal input _ = ⊥

-- ---- what each command answers of an input, and what was written then

-- of `run`
abbrev pub AnswersRun : RunOptions → Status → List ℕ → Option (List ℕ) → Option (List ℕ) → Type 0
AnswersRun o status.Ok input old now = HasRunOut o input false old now
AnswersRun o status.Cut input old now = HasRunOut o input true old now
AnswersRun o (status.BadCase fault) input old now = IsBadCase input fault × (now ≡ old)
AnswersRun o status.TooBig input old now = (input_limit < length input) × (now ≡ old)
AnswersRun o status.ReadFault input old now = now ≡ old
AnswersRun o status.WriteFault input old now = HasBegunRun o input old now
AnswersRun o status.NoMemory input old now = (now ≡ old) ⊎ HasBegunRun o input old now
AnswersRun o (status.Differs place) input old now = ⊥
AnswersRun o status.Usage input old now = ⊥
AnswersRun o (status.Illegal number) input old now = ⊥
AnswersRun o status.Open input old now = ⊥

-- of `lockstep`
abbrev pub AnswersLockstep : Status → List ℕ → Option (List ℕ) → Option (List ℕ) → Type 0
AnswersLockstep status.Ok input old now = HasWritten input false old now
AnswersLockstep status.Cut input old now = HasWritten input true old now
AnswersLockstep (status.BadCase fault) input old now = IsBadCase input fault × (now ≡ old)
AnswersLockstep status.TooBig input old now = (input_limit < length input) × (now ≡ old)
AnswersLockstep status.ReadFault input old now = now ≡ old
AnswersLockstep status.WriteFault input old now = HasBegun input old now
AnswersLockstep status.NoMemory input old now = (now ≡ old) ⊎ HasBegun input old now
AnswersLockstep (status.Differs place) input old now = ⊥
AnswersLockstep status.Usage input old now = ⊥
AnswersLockstep (status.Illegal number) input old now = ⊥
AnswersLockstep status.Open input old now = ⊥

-- of `check`, which writes nothing
abbrev pub AnswersCheck : Status → List ℕ → Type 0
AnswersCheck status.Ok input = HasItsTrace input false
AnswersCheck status.Cut input = HasItsTrace input true
AnswersCheck (status.Differs place) input = HasOtherTrace input place
AnswersCheck (status.BadCase fault) input = IsBadCase input fault
AnswersCheck status.TooBig input = input_limit < length input
AnswersCheck status.ReadFault input = Unit {0}
AnswersCheck status.NoMemory input = Unit {0}
AnswersCheck status.WriteFault input = ⊥
AnswersCheck status.Usage input = ⊥
AnswersCheck (status.Illegal number) input = ⊥
AnswersCheck status.Open input = ⊥

-- of `rerun`
abbrev pub AnswersRerun : Status → List ℕ → Option (List ℕ) → Option (List ℕ) → Type 0
AnswersRerun status.Ok input old now = HasRewritten input ended.Whole EndsWhole false old now
AnswersRerun status.Cut input old now = HasRewritten input ended.Cut IsCutOnTheWay true old now
AnswersRerun (status.Illegal number) input old now = HasRerun input (ended.Illegal number) × (now ≡ old)
AnswersRerun status.Open input old now = HasRerun input ended.Open × (now ≡ old)
AnswersRerun (status.BadCase fault) input old now = (IsBadCase input fault ⊎ IsBadJournal input fault) × (now ≡ old)
AnswersRerun status.TooBig input old now = (input_limit < length input) × (now ≡ old)
AnswersRerun status.ReadFault input old now = now ≡ old
AnswersRerun status.WriteFault input old now = HasBegunAgain input old now
AnswersRerun status.NoMemory input old now = (now ≡ old) ⊎ HasBegunAgain input old now
AnswersRerun (status.Differs place) input old now = ⊥
AnswersRerun status.Usage input old now = ⊥

-- of `shake`
abbrev pub AnswersShake : Schedule → Status → List ℕ → Option (List ℕ) → Option (List ℕ) → Type 0
AnswersShake s status.Ok input old now = HasShakenOut s input ended.Whole EndsWhole false old now
AnswersShake s status.Cut input old now = HasShakenOut s input ended.Cut EndsCut true old now
AnswersShake s status.Open input old now = HasShaken s input ended.Open × (now ≡ old)
AnswersShake s (status.BadCase fault) input old now = IsBadCase input fault × (now ≡ old)
AnswersShake s status.TooBig input old now = (input_limit < length input) × (now ≡ old)
AnswersShake s status.ReadFault input old now = now ≡ old
AnswersShake s status.WriteFault input old now = HasBegunShaken s input old now
AnswersShake s status.NoMemory input old now = (now ≡ old) ⊎ HasBegunShaken s input old now
AnswersShake s (status.Illegal number) input old now = ⊥
AnswersShake s (status.Differs place) input old now = ⊥
AnswersShake s status.Usage input old now = ⊥

-- of each command
abbrev pub Answers : Command → Status → List ℕ → Option (List ℕ) → Option (List ℕ) → Type 0
Answers (command.Run options) status input old now = AnswersRun options status input old now
Answers command.Lockstep status input old now = AnswersLockstep status input old now
Answers command.Check status input old now = AnswersCheck status input × (now ≡ old)
Answers command.Rerun status input old now = AnswersRerun status input old now
Answers (command.Shake schedule) status input old now = AnswersShake schedule status input old now
