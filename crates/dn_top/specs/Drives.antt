-- What the stages of the commands know and answer.
use Rattle.std.specs.Prelude.{◌≡◌, ◌⊎◌, ℕ, Bool, true, false, List, Option}
use Rattle.dn_io.specs.Streams.{behind, PutsFront}
use Rattle.dn_model.specs.Cases.{Heading, Recording}
use Rattle.dn_world.specs.declared.step.Step.{Step}
use Rattle.dn_fabric.specs.Fabrics.{Fabric, IsNetworkOf}
use Rattle.dn_fabric.specs.Driven.{ShowsRun}
use Rattle.dn_workers.specs.Holds.{IsOver}
use Rattle.dn_drive.specs.declared.ended.Ended.{Ended}
use Rattle.dn_drive.specs.declared.ended.Ended.TheVariants as ended
use Rattle.guest_any.specs.declared.any.AnyGuest.{AnyGuest}
use Rattle.guest_any.specs.Any.{any}
use Rattle.dn_journal.specs.Reading.{IsJournal}
use Rattle.dn_top.specs.declared.written.Shown.{Shown}
use Rattle.dn_top.specs.declared.written.Shown.TheVariants as shown
use Rattle.dn_top.specs.declared.status.Status.{Status}
use Rattle.dn_top.specs.declared.status.Status.TheVariants as status
use Rattle.dn_top.specs.Promises.{network_of, is_cut_case, has_trace, HasJournal, IsBehindBad}

-- ---- fabrics

-- a fabric of the case: it has the header, and its routers began with their guests
pub record IsFabricOf (c : Recording) (f : Fabric AnyGuest) : Type 0 where
  pub header : f.live.header ≡ c.header
  pub network : IsNetworkOf (network_of c.header) any f.live.header f.live.openings

-- the fabric shows the run of the case
abbrev pub ShowsCase : Recording → Fabric AnyGuest → Type 0
ShowsCase c f = ShowsRun (network_of c.header) c.feed f.live

-- a fabric of the case after a run on threads: no call was refused, all of the case was accepted, and it is cut, or quiet with all committed
pub record HasEnded (c : Recording) (f : Fabric AnyGuest) : Type 0 where
  pub of : IsFabricOf c f
  pub running : f.live.stopped ≡ false
  pub accepted : f.live.world.accepted ≡ c.feed
  pub over : IsOver f

-- the run whose trace is written: the lockstep run, or what a fabric of the case shows
abbrev pub IsShown : Recording → Shown → Type 0
IsShown c shown.Lockstep = Unit {0}
IsShown c (shown.Driven fabric) = IsFabricOf c fabric.now × ShowsCase c fabric.now

-- ---- answers

-- where a text was to be written that has the trace of the case: how that went
abbrev pub Writes : Recording → List ℕ → Status → Option (List ℕ) → Option (List ℕ) → Type 0
Writes c text status.Ok old now = (is_cut_case c ≡ false) × (now ≡ behind old text)
Writes c text status.Cut old now = (is_cut_case c ≡ true) × (now ≡ behind old text)
Writes c text status.WriteFault old now = PutsFront old now text
Writes c text status.NoMemory old now = PutsFront old now text
Writes c text (status.Differs place) old now = ⊥
Writes c text status.Usage old now = ⊥
Writes c text (status.BadCase fault) old now = ⊥
Writes c text status.ReadFault old now = ⊥
Writes c text status.TooBig old now = ⊥
Writes c text (status.Illegal number) old now = ⊥
Writes c text status.Open old now = ⊥

-- where steps of the case came to this, and the text was to be written if they have a trace: how that went
abbrev pub Drives : Recording → Ended → List ℕ → Status → Option (List ℕ) → Option (List ℕ) → Type 0
Drives c e text status.Ok old now = (e ≡ ended.Whole) × (is_cut_case c ≡ false) × (now ≡ behind old text)
Drives c e text status.Cut old now = (e ≡ ended.Cut) × (is_cut_case c ≡ true) × (now ≡ behind old text)
Drives c e text (status.Illegal number) old now = (e ≡ ended.Illegal number) × (now ≡ old)
Drives c e text status.Open old now = (e ≡ ended.Open) × (now ≡ old)
Drives c e text status.WriteFault old now = (has_trace e ≡ true) × PutsFront old now text
Drives c e text status.NoMemory old now = (now ≡ old) ⊎ ((has_trace e ≡ true) × PutsFront old now text)
Drives c e text (status.Differs place) old now = ⊥
Drives c e text status.Usage old now = ⊥
Drives c e text (status.BadCase fault) old now = ⊥
Drives c e text status.ReadFault old now = ⊥
Drives c e text status.TooBig old now = ⊥

-- a refusal of the journal behind the first bytes: its first bad line, or want of memory
abbrev pub IsJournalRefusal : Heading → List ℕ → ℕ → Status → Type 0
IsJournalRefusal h input size (status.BadCase fault) = IsBehindBad h input size fault
IsJournalRefusal h input size status.NoMemory = Unit {0}
IsJournalRefusal h input size _ = ⊥

-- a step that may not be taken
abbrev pub is_illegal : Status → Bool
is_illegal (status.Illegal number) = true
is_illegal _ = false

-- ---- one answer

-- an answer that tells what steps come to
abbrev pub is_of_steps : Status → Bool
is_of_steps status.Ok = true
is_of_steps status.Cut = true
is_of_steps (status.Illegal number) = true
is_of_steps status.Open = true
is_of_steps _ = false

-- lines are the journal of one list of steps
abbrev pub AreOneJournal : Heading → Type 0
AreOneJournal h = (ls : List (List ℕ)) (a b : List Step) → IsJournal h ls a → IsJournal h ls b → a ≡ b

-- the same of the lines behind the case at the front of the input
abbrev pub HasOneJournal : List ℕ → Type 0
HasOneJournal input = (c d : Recording) (m n : ℕ) (a b : List Step) → HasJournal input c m a → HasJournal input d n b → a ≡ b
