-- A whole session: the lines that a reader gives, and what is written for them.
use Rattle.std.specs.Prelude.{◌≡◌, ℕ, ◌+◌, ◌<◌, ◌⊎◌, List, [], ◌∷◌, ◌++◌, length, take, Option, Some, None, Result, Ok, Err, IfSome}
use Rattle.std.specs.List.{AllByRecursion, flat_map}
use Rattle.dn_io.specs.Streams.{behind, PutsFront}
use Rattle.dn_io.specs.LineReading.{LineReading, HasNoNewline}
use Rattle.dn_model.specs.declared.feed.External.{External}
use Rattle.dn_model.specs.Network.{Network}
use Rattle.dn_probe.specs.Meaning.{Watch}
use Rattle.dn_command.specs.Commands.{command_of}
use Rattle.dn_debug.specs.declared.session.Told.{Told}
use Rattle.dn_debug.specs.declared.session.Told.TheVariants.{Go, Quit}
use Rattle.dn_debug.specs.declared.dialogue.Conversed.{Conversed}
use Rattle.dn_debug.specs.declared.dialogue.Conversed.TheVariants.{Done, ReadFault, TooBig, WriteFault, NoMemory}
use Rattle.dn_debug.specs.Situations.{Situation, Sitting, situation_of}
use Rattle.dn_debug.specs.Transcript.{Answer, Replies, told_by}
use Rattle.dn_debug.specs.Replying.{AnswersLine}

-- lines as they stand in the input, each with its newline
abbrev pub ended : List ℕ → List ℕ
ended line = line ++ 10 ∷ []

abbrev pub ended_lines : List (List ℕ) → List ℕ
ended_lines lines = flat_map ended lines

-- a source has nothing left, if it tells
abbrev pub IsNothing : Option (List ℕ) → Type 0
IsNothing left = IfSome left (λ bytes. bytes ≡ [])

module _ {S : Type 0} (net : Network S) (feed : List External) where
  -- what is written for lines one after another, and what the last one leaves
  abbrev pub IsTranscript : Situation → List (List ℕ) → List ℕ → Situation → Type 0
  IsTranscript s [] text last = (text ≡ []) × (last ≡ s)
  IsTranscript s (line ∷ lines) text last = (a : Answer) × Replies net feed s line a × (rest : List ℕ) × IsTranscript a.next lines rest last × (text ≡ a.text ++ rest)

  -- whether the session goes on after the line
  abbrev pub tells : List ℕ → Told
  tells line = told_by (command_of net.header.routers line)

  -- the line stands at the front of the bytes, with its newline or as all of them
  abbrev pub IsNext : List ℕ → List ℕ → Type 0
  IsNext line bytes = HasNoNewline line × ((bytes ≡ line) ⊎ ((more : List ℕ) × (bytes ≡ ended line ++ more)))

  -- the line is the last one: it asks to quit, or it has no newline and nothing is left of the source
  abbrev pub IsLast : List ℕ → List ℕ → Option (List ℕ) → Type 0
  IsLast line bytes left = HasNoNewline line × (((bytes ≡ line) × IsNothing left) ⊎ ((more : List ℕ) × (bytes ≡ ended line ++ more) × (tells line ≡ Quit)))

  -- How a session ends whose further bytes are these, of which the reader may give so many: with the last line or the input's end; in the middle of a line; with a line that isn't answered whole. What the source has left is `left`.
  abbrev pub EndsSo : Situation → List ℕ → ℕ → Option (List ℕ) → Conversed → Option (List ℕ) → Option (List ℕ) → Type 0
  EndsSo s bytes room left Done held holds = ((bytes ≡ []) × IsNothing left × (holds ≡ held)) ⊎ ((line : List ℕ) × IsLast line bytes left × (a : Answer) × Replies net feed s line a × (holds ≡ behind held a.text))
  EndsSo s bytes room left ReadFault held holds = HasNoNewline bytes × (holds ≡ held)
  EndsSo s bytes room left TooBig held holds = HasNoNewline (take room bytes) × (room < length bytes) × (holds ≡ held)
  EndsSo s bytes room left WriteFault held holds = (line : List ℕ) × IsNext line bytes × (a : Answer) × Replies net feed s line a × PutsFront held holds a.text
  EndsSo s bytes room left NoMemory held holds = holds ≡ held

  -- lines that were read and answered, none of which asks to quit: what stands before the rest of the bytes, what was written, and what is left
  pub record HasHeard (s : Situation) (limit : ℕ) (bytes rest : List ℕ) (room : ℕ) (last : Situation) (held holds : Option (List ℕ)) : Type 0 where
    pub lines : List (List ℕ)
    pub read : bytes ≡ ended_lines lines ++ rest
    pub whole : AllByRecursion HasNoNewline lines
    pub onward : AllByRecursion (λ line. tells line ≡ Go) lines
    pub within : length (ended_lines lines) + room ≡ limit
    pub text : List ℕ
    pub transcript : IsTranscript s lines text last
    pub written : holds ≡ behind held text

  -- a session with these bytes: first lines that were answered, and then its end
  pub record HasConversed (s : Situation) (limit : ℕ) (bytes : List ℕ) (left : Option (List ℕ)) (how : Conversed) (held holds : Option (List ℕ)) : Type 0 where
    pub rest : List ℕ
    pub room : ℕ
    pub last : Situation
    pub between : Option (List ℕ)
    pub heard : HasHeard s limit bytes rest room last held between
    pub ends : EndsSo last rest room left how between holds

  -- what a session does with a line, as `Outcome` says it
  abbrev pub RepliesSo : {X : Type 0} → (X → Watch) → Sitting S X → List ℕ → Result Told Conversed → Sitting S X → Option (List ℕ) → Option (List ℕ) → Type 0
  RepliesSo watcher old line (Ok told) new held holds = AnswersLine net feed watcher old line new (λ text. holds ≡ behind held text) × (told ≡ tells line)
  RepliesSo watcher old line (Err WriteFault) new held holds = AnswersLine net feed watcher old line new (λ text. PutsFront held holds text)
  RepliesSo watcher old line (Err NoMemory) new held holds = holds ≡ held
  RepliesSo watcher old line (Err Done) new held holds = ⊥
  RepliesSo watcher old line (Err ReadFault) new held holds = ⊥
  RepliesSo watcher old line (Err TooBig) new held holds = ⊥

  -- one line was read and answered, or the session has ended
  abbrev pub Turns : {X : Type 0} → (X → Watch) → Sitting S X → LineReading → List ℕ → Option (List ℕ) → Option Conversed → Sitting S X → LineReading → Option (List ℕ) → Option (List ℕ) → Type 0
  Turns watcher old lines ahead left None new after held holds =
      (line : List ℕ) × HasNoNewline line × (ahead ≡ ended line ++ after.held) × (lines.room ≡ length line + 1 + after.room) × (Go ≡ tells line) × AnswersLine net feed watcher old line new (λ text. holds ≡ behind held text)
  Turns watcher old lines ahead left (Some how) new after held holds = EndsSo (situation_of watcher old) ahead lines.room left how held holds
