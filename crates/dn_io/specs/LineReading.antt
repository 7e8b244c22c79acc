-- Lines from a source, one after another. A line ends with its newline, the byte 10.
use Rattle.std.specs.Prelude.{◌≡◌, ◌≢◌, ℕ, ◌+◌, ◌<◌, ◌≤◌, List, [], ◌∷◌, ◌++◌, length, take, Bool, true, false, Option, Some, None, IfSome, Result, Ok, Err}
use Rattle.std.specs.List.{All}
use Rattle.std.specs.declared.alloc.AllocError.{AllocError}
use Rattle.dn_io.specs.Streams.{Gives}
use Rattle.dn_io.specs.declared.line_reader.Line.{Line}
use Rattle.dn_io.specs.declared.line_reader.Line.TheVariants as line
use Rattle.dn_io.specs.declared.line_reader.Refill.{Refill}
use Rattle.dn_io.specs.declared.line_reader.Refill.TheVariants as refill
use Rattle.dn_io.specs.declared.line_reader.Piece.{Piece}
use Rattle.dn_io.specs.declared.line_reader.Piece.TheVariants as piece

-- a reader of lines
pub record LineReading : Type 0 where
  -- the bytes that came from its source and that it hasn't given yet
  pub held : List ℕ
  -- how many bytes it may still give: its limit without what it gave, newlines too
  pub room : ℕ
  pub is_open : Bool

-- before the first line
abbrev pub opening_reader : ℕ → LineReading
opening_reader limit = record { held = []; room = limit; is_open = true }

-- it gives nothing more
abbrev pub closed_reader : LineReading
closed_reader = record { held = []; room = 0; is_open = false }

abbrev pub HasNoNewline : List ℕ → Type 0
HasNoNewline text = All (λ byte. byte ≢ 10) text

-- What an answer says of the bytes that were ahead: those that the reader held, and then those that came. Behind a
-- full line stands what the reader holds then.
abbrev pub Tells : Line → LineReading → List ℕ → LineReading → Type 0
Tells (line.Full text) old ahead new = HasNoNewline text.items × (ahead ≡ (text.items ++ 10 ∷ []) ++ new.held) × (old.room ≡ length text.items + 1 + new.room) × (new.is_open ≡ true)
Tells (line.Rest text) old ahead new = (ahead ≡ text.items) × HasNoNewline ahead × (0 < length ahead) × (length ahead ≤ old.room)
Tells line.End old ahead new = ahead ≡ []
Tells line.Failed old ahead new = HasNoNewline ahead × (length ahead ≤ old.room)
Tells line.TooBig old ahead new = HasNoNewline (take old.room ahead) × (old.room < length ahead)

-- a reader gives nothing more behind any answer but a full line
abbrev pub Closes : Result Line AllocError → LineReading → Type 0
Closes (Ok (line.Full text)) new = Unit {0}
Closes (Ok (line.Rest text)) new = new ≡ closed_reader
Closes (Ok line.End) new = new ≡ closed_reader
Closes (Ok line.Failed) new = new ≡ closed_reader
Closes (Ok line.TooBig) new = new ≡ closed_reader
Closes (Err e) new = new ≡ closed_reader

-- the source has ended
abbrev pub IsLast : Line → Type 0
IsLast (line.Full text) = ⊥
IsLast (line.Rest text) = Unit {0}
IsLast line.End = Unit {0}
IsLast line.Failed = ⊥
IsLast line.TooBig = ⊥

-- ---- parts of a call

-- the answer where the source has ended behind these bytes
abbrev pub IsLastLine : Line → List ℕ → Type 0
IsLastLine (line.Rest text) bytes = (text.items ≡ bytes) × (0 < length bytes)
IsLastLine line.End bytes = bytes ≡ []
IsLastLine _ bytes = ⊥

-- the place of the first newline, or that there is none
abbrev pub IsCutAt : List ℕ → Option ℕ → Type 0
IsCutAt text None = HasNoNewline text
IsCutAt text (Some n) = HasNoNewline (take n text) × (rest : List ℕ) × (text ≡ (take n text ++ 10 ∷ []) ++ rest) × (length (take n text) ≡ n)

-- whether bytes are held, of which some may have come
abbrev pub Refills : Refill → LineReading → LineReading → Option (List ℕ) → Option (List ℕ) → Type 0
Refills refill.Held old new before now = Gives before now (λ came. new ≡ record old { held = old.held ++ came }) × (0 < length new.held)
Refills refill.End old new before now = (old.held ≡ []) × (new ≡ old) × (now ≡ before) × IfSome before (λ left. left ≡ [])
Refills refill.Failed old new before now = (old.held ≡ []) × (new ≡ old) × (now ≡ before)

-- how a line that has come so far goes on with what is held
abbrev pub TakesPiece : Piece → LineReading → LineReading → List ℕ → List ℕ → Type 0
TakesPiece piece.Ended old new before now = (more : List ℕ) × HasNoNewline more × (now ≡ before ++ more) × (old.held ≡ (more ++ 10 ∷ []) ++ new.held) × (old.room ≡ length more + 1 + new.room) × (new.is_open ≡ old.is_open)
TakesPiece piece.Part old new before now = HasNoNewline old.held × (now ≡ before ++ old.held) × (new.held ≡ []) × (old.room ≡ length old.held + new.room) × (new.is_open ≡ old.is_open)
TakesPiece piece.Over old new before now = HasNoNewline (take old.room old.held) × (old.room < length old.held) × (now ≡ before) × (new ≡ old)
