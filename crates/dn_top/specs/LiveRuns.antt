-- `run --live`: what was heard, what is written of it, and which statuses are answered.
use Rattle.std.specs.Prelude.{◌≡◌, ◌⊎◌, ℕ, ◌+◌, ◌<◌, Bool, true, false, List, [], ◌++◌, length, take, codes, Option, Some}
use Rattle.dn_io.specs.Streams.{before, behind, PutsFront, Rose}
use Rattle.dn_io.specs.LineReading.{LineReading, HasNoNewline}
use Rattle.dn_model.specs.Cases.{Heading, Recording}
use Rattle.dn_world.specs.declared.step.Step.{Step}
use Rattle.dn_case.specs.declared.cause.Cause.{Cause}
use Rattle.dn_case.specs.declared.cause.Cause.TheVariants as cause
use Rattle.dn_case.specs.Reading.{IsCaseFront}
use Rattle.dn_record.specs.declared.live_end.LiveEnd.{LiveEnd}
use Rattle.dn_record.specs.declared.live_end.LiveEnd.TheVariants as ending
use Rattle.dn_record.specs.Live.{Heard, Live, AreRead, AreBeats, beats_after, text_of, ended_line, stamped, hearing, opening_live, IsBadLine, IsAtEnd, GoesOn}
use Rattle.dn_top.specs.declared.status.Status.{Status}
use Rattle.dn_top.specs.declared.status.Status.TheVariants as status
use Rattle.dn_top.specs.declared.words.RunOptions.{RunOptions}
use Rattle.dn_top.specs.Promises.{IsCaseRun, is_cut_case, input_limit, run_text}
use Rattle.dn_top.specs.Commands.{Streams}
use Rattle.dn_top.specs.LiveHeads.{AreAbove, head_text, closed_text, HasBadHead, HasShortHead, HasFailedHead, HasLongHead}

-- ---- what was heard

-- a line other than `end` that has no reading stands at the front of what is ahead
abbrev pub BeginsBadly : Heading → List ℕ → Cause → Type 0
BeginsBadly h ahead c = (rest : List ℕ) × IsBadLine h ahead rest c

-- Why nothing more is heard, where these bytes are ahead, of which so many are within the limit, and the next line has this number: the line `end`, or the end of the source; a line that has no reading, or a last one without a newline; a fault, or too many bytes, before the next line was whole.
abbrev pub Closes : LiveEnd → Heading → (room number : ℕ) → (ahead : List ℕ) → (now : Option (List ℕ)) → (faults faults_now : ℕ) → Type 0
Closes ending.Closed h room number ahead now faults faults_now = ((rest : List ℕ) × (ahead ≡ ended_line (codes "end") ++ rest)) ⊎ ((ahead ≡ []) × IsAtEnd now)
Closes (ending.Bad fault) h room number ahead now faults faults_now = (fault.line ≡ number) × (BeginsBadly h ahead fault.cause ⊎ (HasNoNewline ahead × (0 < length ahead) × (fault.cause ≡ cause.Syntax) × IsAtEnd now))
Closes ending.Failed h room number ahead now faults faults_now = HasNoNewline ahead × Rose faults faults_now
Closes ending.TooBig h room number ahead now faults faults_now = HasNoNewline (take room ahead) × (room < length ahead)

-- the source gave a head, the one of a case with this header, and then live lines: this is the recording of all of them, each stamped by the beat at which it came, and this is why no more were heard
pub record HasHeard (old now : Option (List ℕ)) (faults faults_now : ℕ) (beats beats_now : Option (ℕ → ℕ)) (c : Recording) (end : LiveEnd) : Type 0 where
  pub above : List (List ℕ)
  pub whole : AreAbove above
  pub head : Recording
  pub size : ℕ
  pub front : IsCaseFront (closed_text above) head size
  pub header : c.header ≡ head.header
  pub heard : List Heard
  pub read : AreRead c.header heard
  pub timed : AreBeats beats heard
  pub later : beats_now ≡ beats_after heard beats
  pub feed : c.feed ≡ stamped c.header.groups 0 heard
  pub ahead : List ℕ
  pub told : old ≡ before (head_text above ++ (text_of heard ++ ahead)) now
  pub room : ℕ
  pub limit : input_limit ≡ length (head_text above) + (length (text_of heard) + room)
  pub closes : Closes end c.header room (length above + 2 + length heard) ahead now faults faults_now

-- the same behind a head that was read
pub record Listens (h : Heading) (reader : LineReading) (first : ℕ) (old now : Option (List ℕ)) (faults faults_now : ℕ) (beats beats_now : Option (ℕ → ℕ)) (c : Recording) (end : LiveEnd) : Type 0 where
  pub last : Live
  pub goes_on : GoesOn (hearing (opening_live h reader first) old faults beats) (hearing last now faults_now beats_now)
  pub spent : last.spent ≡ false
  pub ended : last.ended ≡ Some end
  pub case : c ≡ record { header = last.header; feed = last.given }

-- ---- statuses

-- the status of the run, unless a refusal of reading comes in its place
abbrev pub refusal_or : Status → LiveEnd → Status
refusal_or s ending.Closed = s
refusal_or s (ending.Bad fault) = status.BadCase fault
refusal_or s ending.Failed = status.ReadFault
refusal_or s ending.TooBig = status.TooBig

-- how the run ended, behind what was written: a refusal of reading goes before a cut, and not before a fault of the sink
abbrev pub last_status : Status → LiveEnd → Status
last_status status.Ok end = refusal_or status.Ok end
last_status status.Cut end = refusal_or status.Cut end
last_status s end = s

module _ (o : RunOptions) (old new : Streams) (beats beats_now : Option (ℕ → ℕ)) where
  -- what was heard to this end was run by steps of threads, and written with its trace, which is cut or whole, and with the journal of these steps if that is asked for
  pub record HasRunLive (cut : Bool) (end : LiveEnd) : Type 0 where
    pub case : Recording
    pub steps : List Step
    pub heard : HasHeard old.left new.left old.read_faults new.read_faults beats beats_now case end
    pub run : IsCaseRun case cut steps
    pub text : new.held ≡ behind old.held (run_text o.journal case steps)

  -- the same, and a front of all that was written
  pub record HasBegunLive : Type 0 where
    pub end : LiveEnd
    pub case : Recording
    pub steps : List Step
    pub heard : HasHeard old.left new.left old.read_faults new.read_faults beats beats_now case end
    pub run : IsCaseRun case (is_cut_case case) steps
    pub front : PutsFront old.held new.held (run_text o.journal case steps)

  -- a refusal behind the line `feed`: what was heard before was run and written, to its end or to the cut
  abbrev pub RefusesLate : LiveEnd → Type 0
  RefusesLate end = HasRunLive false end ⊎ HasRunLive true end

  -- one before it writes nothing
  abbrev pub Unwritten : Type 0
  Unwritten = new.held ≡ old.held

  -- what each status says
  abbrev pub AnswersLive : Status → Type 0
  AnswersLive status.Ok = HasRunLive false ending.Closed
  AnswersLive status.Cut = HasRunLive true ending.Closed
  AnswersLive (status.BadCase fault) = ((HasBadHead old.left new.left fault ⊎ HasShortHead old.left new.left fault) × Unwritten) ⊎ RefusesLate (ending.Bad fault)
  AnswersLive status.ReadFault = (HasFailedHead old.left new.left × Unwritten) ⊎ RefusesLate ending.Failed
  AnswersLive status.TooBig = (HasLongHead old.left new.left × Unwritten) ⊎ RefusesLate ending.TooBig
  AnswersLive status.WriteFault = HasBegunLive
  AnswersLive status.NoMemory = Unwritten ⊎ HasBegunLive
  AnswersLive status.Usage = ⊥
  AnswersLive (status.Differs place) = ⊥
  AnswersLive (status.Illegal number) = ⊥
  AnswersLive status.Open = ⊥

-- what `run --live` promises of its status, of source and sink, and of the beats to come
pub record LivePromise (o : RunOptions) (s : Status) (old new : Streams) (beats beats_now : Option (ℕ → ℕ)) : Type 0 where
  pub answers : AnswersLive o old new beats beats_now s
  -- faults, also where source and sink tell nothing of their bytes
  pub read_fault : s ≡ status.ReadFault → Rose old.read_faults new.read_faults
  pub write_fault : s ≡ status.WriteFault → Rose old.write_faults new.write_faults
