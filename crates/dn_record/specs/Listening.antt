-- What a live feed does with an answer of its reader.
use Rattle.std.specs.Prelude.{◌≡◌, ◌≢◌, ◌⊎◌, ℕ, ◌+◌, ◌<◌, ◌^◌, true, false, List, [], ◌∷◌, ◌++◌, codes, Option, Some, Err, IfSome}
use Rattle.std.specs.Option.{option_map}
use Rattle.dn_model.specs.Cases.{AreExternals}
use Rattle.dn_io.specs.Beats.{later}
use Rattle.dn_io.specs.declared.line_reader.Line.{Line}
use Rattle.dn_io.specs.declared.line_reader.Line.TheVariants as line
use Rattle.dn_case.specs.declared.cause.Cause.{Cause}
use Rattle.dn_case.specs.declared.cause.Cause.TheVariants as cause
use Rattle.dn_case.specs.LiveLines.{IsLiveLine, live_reading}
use Rattle.dn_record.specs.declared.live_end.LiveEnd.{LiveEnd}
use Rattle.dn_record.specs.declared.live_end.LiveEnd.TheVariants as ending
use Rattle.dn_record.specs.Feeding.{last_group}
use Rattle.dn_record.specs.Stamps.{stamp_of}
use Rattle.dn_record.specs.Live.{Live, Heard, IsOpen, external_of}

-- what a live feed keeps, with a recorder of so many groups
pub record IsLive (v : Live) (groups : ℕ) : Type 0 where
  pub same_groups : groups ≡ v.header.groups
  pub feed : AreExternals v.header 0 v.given
  -- the next three need memory: what an answer changes first may be left behind without it
  pub last : v.spent ≡ false → v.last ≡ last_group 0 v.given
  pub reader : IsOpen v → v.reader.is_open ≡ true
  -- each line has a byte at least, so that its number is no more than the reader gives
  pub number : IsOpen v → v.number + v.reader.room < 2 ^ 64

-- the metronome is asked, and the line is given with its stamp
pub record Accepts (text : List ℕ) (old new : Live) (beats now : Option (ℕ → ℕ)) : Type 0 where
  pub line : Heard
  pub is : line.text ≡ text
  pub read : IsLiveLine old.header line.router line.input text
  pub beat : IfSome beats (λ answers. line.beat ≡ answers 0)
  pub later : now ≡ option_map later beats
  pub new_is : new ≡ record old { given = old.given ++ external_of (stamp_of old.header.groups old.last line.beat) line ∷ []; last = stamp_of old.header.groups old.last line.beat; number = old.number + 1 }

-- the feed closes, and nothing else changes
abbrev pub ClosesFor : LiveEnd → (old new : Live) → (beats now : Option (ℕ → ℕ)) → Type 0
ClosesFor end old new beats now = (new ≡ record old { ended = Some end }) × (now ≡ beats)

-- of a line
abbrev pub TakesLine : List ℕ → (old new : Live) → (beats now : Option (ℕ → ℕ)) → Type 0
TakesLine text old new beats now = ((text ≡ codes "end") × ClosesFor ending.Closed old new beats now)
    ⊎ (((c : Cause) × (text ≢ codes "end") × (live_reading old.header text ≡ Err c) × ClosesFor (ending.Bad (record { line = old.number; cause = c })) old new beats now)
    ⊎ Accepts text old new beats now)

-- of an answer of the reader
abbrev pub Takes : Line → (old new : Live) → (beats now : Option (ℕ → ℕ)) → Type 0
Takes (line.Full text) old new beats now = TakesLine text.items old new beats now
Takes (line.Rest text) old new beats now = ClosesFor (ending.Bad (record { line = old.number; cause = cause.Syntax })) old new beats now
Takes line.End old new beats now = ClosesFor ending.Closed old new beats now
Takes line.Failed old new beats now = ClosesFor ending.Failed old new beats now
Takes line.TooBig old new beats now = ClosesFor ending.TooBig old new beats now

-- nothing was given, and the feed is as open as before
pub record IsLeft (old new : Live) : Type 0 where
  pub header : new.header ≡ old.header
  pub given : new.given ≡ old.given
  pub ended : new.ended ≡ old.ended
  pub spent : new.spent ≡ old.spent

-- of a full line
abbrev pub IfFull : Line → Type 0 → Type 0
IfFull (line.Full text) P = P
IfFull (line.Rest text) P = Unit {0}
IfFull line.End P = Unit {0}
IfFull line.Failed P = Unit {0}
IfFull line.TooBig P = Unit {0}
