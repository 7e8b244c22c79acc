-- A live feed: lines that come from outside while the run goes on, each stamped with the group in which it came.
use Rattle.std.specs.Prelude.{◌≡◌, ◌≢◌, ◌⊎◌, ℕ, ◌+◌, ◌<◌, ◌≤◌, Bool, true, false, List, [], ◌∷◌, ◌++◌, length, take, codes, Option, Some, None, Err, IfSome}
use Rattle.std.specs.Option.{option_map}
use Rattle.dn_guest.specs.declared.input.Input.{Input}
use Rattle.dn_model.specs.declared.feed.External.{External}
use Rattle.dn_model.specs.Cases.{Heading}
use Rattle.dn_io.specs.Streams.{before, Rose}
use Rattle.dn_io.specs.LineReading.{LineReading, HasNoNewline}
use Rattle.dn_io.specs.Beats.{later}
use Rattle.dn_case.specs.declared.cause.Cause.{Cause}
use Rattle.dn_case.specs.declared.cause.Cause.TheVariants as cause
use Rattle.dn_case.specs.LiveLines.{IsLiveLine, live_reading}
use Rattle.dn_record.specs.declared.live_end.LiveEnd.{LiveEnd}
use Rattle.dn_record.specs.declared.live_end.LiveEnd.TheVariants as ending
use Rattle.dn_record.specs.Feeding.{last_group}
use Rattle.dn_record.specs.Stamps.{stamp_of}

-- ---- lines that were accepted

-- a live line that was accepted: its text, without the newline, what it asks of which router, and the beat at which it came
pub record Heard : Type 0 where
  pub text : List ℕ
  pub router : ℕ
  pub input : Input
  pub beat : ℕ

-- each is a live line of the header
abbrev pub AreRead : Heading → List Heard → Type 0
AreRead h [] = Unit {0}
AreRead h (x ∷ xs) = IsLiveLine h x.router x.input x.text × AreRead h xs

-- a line with its newline
abbrev pub ended_line : List ℕ → List ℕ
ended_line text = text ++ 10 ∷ []

-- the bytes of the lines
abbrev pub text_of : List Heard → List ℕ
text_of [] = []
text_of (x ∷ xs) = ended_line x.text ++ text_of xs

-- the metronome was asked once for each line, and gave these beats
abbrev pub AreBeats : Option (ℕ → ℕ) → List Heard → Type 0
AreBeats beats [] = Unit {0}
AreBeats beats (x ∷ xs) = IfSome beats (λ answers. x.beat ≡ answers 0) × AreBeats (option_map later beats) xs

-- what it gives behind them
abbrev pub beats_after : List Heard → Option (ℕ → ℕ) → Option (ℕ → ℕ)
beats_after [] beats = beats
beats_after (x ∷ xs) beats = beats_after xs (option_map later beats)

-- the line as an external of this group
abbrev pub external_of : ℕ → Heard → External
external_of group x = record { group = group; router = x.router; input = x.input }

-- the lines as externals, each stamped by its beat; the last stamp before them is given
abbrev pub stamped : (groups last : ℕ) → List Heard → List External
stamped groups last [] = []
stamped groups last (x ∷ xs) = external_of (stamp_of groups last x.beat) x ∷ stamped groups (stamp_of groups last x.beat) xs

-- ---- a live feed

-- what a live feed keeps
pub record Live : Type 0 where
  pub header : Heading
  pub reader : LineReading
  pub given : List External
  -- the last stamp, and the number of the next line
  pub last : ℕ
  pub number : ℕ
  -- why it has closed, if it has
  pub ended : Option LiveEnd
  -- it has found no memory
  pub spent : Bool

-- before the first live line, which has this number
abbrev pub opening_live : Heading → LineReading → ℕ → Live
opening_live header reader first = record { header = header; reader = reader; given = []; last = 0; number = first; ended = None; spent = false }

-- it may give more
abbrev pub IsOpen : Live → Type 0
IsOpen v = (v.ended ≡ None) × (v.spent ≡ false)

-- a live feed with its source and its metronome: what is left, how often the source has failed, and the beats to come
pub record Hearing : Type 0 where
  pub live : Live
  pub left : Option (List ℕ)
  pub faults : ℕ
  pub beats : Option (ℕ → ℕ)

abbrev pub hearing : Live → Option (List ℕ) → ℕ → Option (ℕ → ℕ) → Hearing
hearing live left faults beats = record { live = live; left = left; faults = faults; beats = beats }

-- a line other than `end` that has no reading, for this cause, and the bytes behind it
abbrev pub IsBadLine : Heading → List ℕ → List ℕ → Cause → Type 0
IsBadLine h ahead held c = (text : List ℕ) × (ahead ≡ ended_line text ++ held) × (text ≢ codes "end") × (live_reading h text ≡ Err c)

-- the source has nothing left, where it tells it
abbrev pub IsAtEnd : Option (List ℕ) → Type 0
IsAtEnd left = IfSome left (λ l. l ≡ [])

-- what comes behind the lines that were accepted: these bytes are ahead, of which the reader may give so many; and the feed has closed for this, or is open
abbrev pub Ends : Hearing → Hearing → (room : ℕ) → (ahead : List ℕ) → Option LiveEnd → Type 0
Ends x y room ahead None = (ahead ≡ y.live.reader.held) × (room ≡ y.live.reader.room)
Ends x y room ahead (Some ending.Closed) = (ahead ≡ ended_line (codes "end") ++ y.live.reader.held) ⊎ ((ahead ≡ []) × IsAtEnd y.left)
Ends x y room ahead (Some (ending.Bad fault)) = (fault.line ≡ y.live.number) × (IsBadLine y.live.header ahead y.live.reader.held fault.cause ⊎ (HasNoNewline ahead × (0 < length ahead) × (fault.cause ≡ cause.Syntax) × IsAtEnd y.left))
Ends x y room ahead (Some ending.Failed) = HasNoNewline ahead × Rose x.faults y.faults
Ends x y room ahead (Some ending.TooBig) = HasNoNewline (take room ahead) × (room < length ahead)

-- further lines were accepted, and stamped: the later feed has given them too
pub record GoesOn (x y : Hearing) : Type 0 where
  pub was_open : IsOpen x.live
  pub header : y.live.header ≡ x.live.header
  pub heard : List Heard
  pub read : AreRead x.live.header heard
  pub given : y.live.given ≡ x.live.given ++ stamped x.live.header.groups x.live.last heard
  pub beats : AreBeats x.beats heard
  -- these bytes came from the source; those that the reader held, and then these, are the lines and what is ahead
  pub came : List ℕ
  pub told : x.left ≡ before came y.left
  pub ahead : List ℕ
  pub bytes : x.live.reader.held ++ came ≡ text_of heard ++ ahead
  pub faults : x.faults ≤ y.faults
  -- without memory the feed may have heard more
  pub last : y.live.spent ≡ false → y.live.last ≡ last_group x.live.last (stamped x.live.header.groups x.live.last heard)
  pub number : y.live.spent ≡ false → y.live.number ≡ x.live.number + length heard
  pub later : y.live.spent ≡ false → y.beats ≡ beats_after heard x.beats
  pub room : (room : ℕ) × (x.live.reader.room ≡ length (text_of heard) + room) × (y.live.spent ≡ false → Ends x y room ahead y.live.ended)
  pub unspent : y.live.spent ≡ true → y.live.ended ≡ None

-- the later feed comes from the earlier one: it is the same, or goes on
abbrev pub Follows : Hearing → Hearing → Type 0
Follows x y = (y ≡ x) ⊎ GoesOn x y
