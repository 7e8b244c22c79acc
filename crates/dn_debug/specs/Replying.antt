-- What the parts of a session do for a command.
use Rattle.std.specs.Prelude.{◌≡◌, ℕ, Bool, true, false, List, [], ◌++◌, length, Option, Result, Ok, Err}
use Rattle.dn_io.specs.Streams.{behind, PutsFront}
use Rattle.dn_model.specs.declared.event.Event.{Event}
use Rattle.dn_model.specs.declared.feed.External.{External}
use Rattle.dn_model.specs.declared.router.RouterDef.{RouterDef}
use Rattle.dn_model.specs.Cases.{Heading}
use Rattle.dn_model.specs.Network.{Network}
use Rattle.dn_lockstep.specs.Running.{Running}
use Rattle.dn_trace.specs.Rows.{row_lines}
use Rattle.dn_trace.specs.declared.write.WriteError.{WriteError}
use Rattle.dn_trace.specs.declared.write.WriteError.TheVariants.{Fault, NoMemory}
use Rattle.dn_probe.specs.Meaning.{Watch}
use Rattle.dn_command.specs.declared.command.Command.{Command}
use Rattle.dn_command.specs.Commands.{command_of}
use Rattle.dn_debug.specs.declared.session.Told.{Told}
use Rattle.dn_debug.specs.Watching.{Watched, HasAttached, HasDropped}
use Rattle.dn_debug.specs.Lines.{unknown_line, watch_line, waiting_line}
use Rattle.dn_debug.specs.Situations.{Situation, Sitting, IsAt, SitsIn, situation_of}
use Rattle.dn_debug.specs.Transcript.{Answer, AreWaiting, Answers, Replies, told_by}

abbrev pub watch_text : List ℕ → Bool → List ℕ
watch_text name true = watch_line name
watch_text name false = unknown_line

-- the probe is attached, or there is none of the name, and this is written
abbrev pub HasWatched : Heading → List ℕ → Watched → Watched → List ℕ → List ℕ → Type 0
HasWatched header name old new before now = (found : Bool) × HasAttached header name old found new × (now ≡ before ++ watch_text name found)

abbrev pub unknown_if : Bool → List ℕ
unknown_if true = []
unknown_if false = unknown_line

-- the probe is dropped, or none of the name is attached, and this is written
abbrev pub HasUnwatched : List ℕ → Watched → Watched → List ℕ → List ℕ → Type 0
HasUnwatched name old new before now = (found : Bool) × (between : List ℕ) × HasDropped name old found new before between × (now ≡ between ++ unknown_if found)

-- what waits at the router is listed
abbrev pub IsListed : {S : Type 0} → Network S → List External → ℕ → ℕ → List RouterDef → List ℕ → List ℕ → Type 0
IsListed net feed place r defs before now = (found : List Event) × AreWaiting net feed place r found × (now ≡ before ++ (row_lines defs found ++ waiting_line (length found)))

-- the command was answered: this was written and left
pub record HasAnswered {S : Type 0} (net : Network S) (feed : List External) (old : Situation) (c : Command) (engine : Running S) (latest : List Event) (new : Situation) (before now : List ℕ) : Type 0 where
  pub at : IsAt net feed engine latest
  pub answer : Answer
  pub answers : Answers net feed old c answer
  pub left : new ≡ answer.next
  pub text : now ≡ before ++ answer.text

-- the line was answered
pub record HasReplied {S : Type 0} (net : Network S) (feed : List External) (old : Situation) (line : List ℕ) (told : Told) (engine : Running S) (latest : List Event) (new : Situation) (before now : List ℕ) : Type 0 where
  pub at : IsAt net feed engine latest
  pub answer : Answer
  pub replies : Replies net feed old line answer
  pub left : new ≡ answer.next
  pub text : now ≡ before ++ answer.text
  pub goes : told ≡ told_by (command_of net.header.routers line)

-- a session answered the line, and P holds of the text
pub record AnswersLine {S X : Type 0} (net : Network S) (feed : List External) (watcher : X → Watch) (old : Sitting S X) (line : List ℕ) (new : Sitting S X) (P : List ℕ → Type 0) : Type 0 where
  pub sits : SitsIn net feed new
  pub answer : Answer
  pub replies : Replies net feed (situation_of watcher old) line answer
  pub left : situation_of watcher new ≡ answer.next
  pub holds : P answer.text

-- what a session does with a line: at Ok the sink has got the whole answer, where the sink failed a front of it, and without memory nothing
abbrev pub Outcome : {S X : Type 0} → Network S → List External → (X → Watch) → Sitting S X → List ℕ → Result Told WriteError → Sitting S X → Option (List ℕ) → Option (List ℕ) → Type 0
Outcome net feed watcher old line (Ok told) new held holds = AnswersLine net feed watcher old line new (λ text. holds ≡ behind held text) × (told ≡ told_by (command_of net.header.routers line))
Outcome net feed watcher old line (Err Fault) new held holds = AnswersLine net feed watcher old line new (λ text. PutsFront held holds text)
Outcome net feed watcher old line (Err NoMemory) new held holds = holds ≡ held
