-- The head of a live input: the lines of a header up to the line `feed`, read one by one.
use Rattle.std.specs.Prelude.{◌≡◌, ◌≢◌, ◌⊎◌, ℕ, ◌+◌, ◌<◌, ◌≤◌, true, List, [], ◌∷◌, ◌++◌, length, take, codes, Option, Result, Ok, Err}
use Rattle.std.specs.List.{All}
use Rattle.dn_io.specs.Streams.{before}
use Rattle.dn_io.specs.LineReading.{LineReading, HasNoNewline, Tells, IsLast}
use Rattle.dn_io.specs.declared.line_reader.Line.{Line}
use Rattle.dn_io.specs.declared.line_reader.Line.TheVariants as line
use Rattle.dn_model.specs.Cases.{Recording}
use Rattle.dn_text.specs.Lines.{lines}
use Rattle.dn_case.specs.declared.cause.CaseFault.{CaseFault}
use Rattle.dn_case.specs.Reading.{IsCaseFront, IsFirstBad, HasNoCase}
use Rattle.dn_record.specs.Live.{ended_line, IsAtEnd}
use Rattle.dn_top.specs.declared.status.Status.{Status}
use Rattle.dn_top.specs.declared.status.Status.TheVariants as status
use Rattle.dn_top.specs.declared.live_head.Taken.{Taken}
use Rattle.dn_top.specs.declared.live_head.Taken.TheVariants as taken
use Rattle.dn_top.specs.declared.live_head.Gathered.{Gathered}
use Rattle.dn_top.specs.declared.live_head.Gathered.TheVariants as gathered
use Rattle.dn_top.specs.Promises.{input_limit}

-- the bytes of lines, each with its newline
abbrev pub text_of : List (List ℕ) → List ℕ
text_of [] = []
text_of (text ∷ more) = ended_line text ++ text_of more

-- whole lines, of which none is `feed`
abbrev pub AreAbove : List (List ℕ) → Type 0
AreAbove above = All (λ text. HasNoNewline text × (text ≢ codes "feed")) above

-- a head: these lines, and then the line `feed`
abbrev pub head_text : List (List ℕ) → List ℕ
head_text above = text_of above ++ codes "feed\n"

-- the head as the text of a case: with the line `end` behind it
abbrev pub closed_text : List (List ℕ) → List ℕ
closed_text above = head_text above ++ codes "end\n"

-- The source gave a head, which is that of this case: with the line `end` behind it, the case stands at its front. The reader may go on behind the head, and the next line has this number.
pub record HasHead (old now : Option (List ℕ)) (c : Recording) (reader : LineReading) (first : ℕ) : Type 0 where
  pub above : List (List ℕ)
  pub whole : AreAbove above
  pub came : List ℕ
  pub told : old ≡ before came now
  pub bytes : came ≡ head_text above ++ reader.held
  pub room : input_limit ≡ length (head_text above) + reader.room
  pub is_open : reader.is_open ≡ true
  pub number : first ≡ length above + 2
  pub size : ℕ
  pub front : IsCaseFront (closed_text above) c size

-- ---- refusals

-- the text has no case, and this is its first bad line
pub record IsBad (text : List ℕ) (fault : CaseFault) : Type 0 where
  pub first : IsFirstBad (lines text) fault.line fault.cause
  pub none : HasNoCase text

-- the head is no head of a case
pub record HasBadHead (old now : Option (List ℕ)) (fault : CaseFault) : Type 0 where
  pub above : List (List ℕ)
  pub whole : AreAbove above
  pub held : List ℕ
  pub told : old ≡ before (head_text above ++ held) now
  pub within : length (head_text above) ≤ input_limit
  pub bad : IsBad (closed_text above) fault

-- lines came of which none is `feed`, and then bytes without a newline
pub record HasNoFeed (old now : Option (List ℕ)) (rest : List ℕ) : Type 0 where
  pub above : List (List ℕ)
  pub whole : AreAbove above
  pub told : old ≡ before (text_of above ++ rest) now

-- and the source has ended there: what came is no case
pub record HasShortHead (old now : Option (List ℕ)) (fault : CaseFault) : Type 0 where
  pub rest : List ℕ
  pub clean : HasNoNewline rest
  pub came : HasNoFeed old now rest
  pub at_end : IsAtEnd now
  pub within : length (text_of came.above ++ rest) ≤ input_limit
  pub bad : IsBad (text_of came.above ++ rest) fault

-- and the source has failed there
pub record HasFailedHead (old now : Option (List ℕ)) : Type 0 where
  pub rest : List ℕ
  pub clean : HasNoNewline rest
  pub came : HasNoFeed old now rest

-- and there were more bytes than are allowed
pub record HasLongHead (old now : Option (List ℕ)) : Type 0 where
  pub rest : List ℕ
  pub came : HasNoFeed old now rest
  -- so many bytes of the rest are within the limit
  pub room : ℕ
  pub limit : input_limit ≡ length (text_of came.above) + room
  pub clean : HasNoNewline (take room rest)
  pub more : room < length rest

-- a refusal of a head
abbrev pub RefusesHead : Status → Option (List ℕ) → Option (List ℕ) → Type 0
RefusesHead (status.BadCase fault) old now = HasBadHead old now fault ⊎ HasShortHead old now fault
RefusesHead status.ReadFault old now = HasFailedHead old now
RefusesHead status.TooBig old now = HasLongHead old now
RefusesHead status.NoMemory old now = Unit {0}
RefusesHead _ old now = ⊥

-- ---- parts of reading

-- the case stands at the front of the text
pub record IsFrontOf (text : List ℕ) (c : Recording) : Type 0 where
  pub size : ℕ
  pub front : IsCaseFront text c size

-- a refusal of a text without a case
abbrev pub IsTextRefusal : List ℕ → Status → Type 0
IsTextRefusal text (status.BadCase fault) = IsBad text fault
IsTextRefusal text status.NoMemory = Unit {0}
IsTextRefusal text _ = ⊥

-- so many lines were gathered, none of which is `feed`
pub record HasGathered (old now : Option (List ℕ)) (text : List ℕ) (reader : LineReading) (count : ℕ) : Type 0 where
  pub above : List (List ℕ)
  pub whole : AreAbove above
  pub came : List ℕ
  pub told : old ≡ before came now
  pub bytes : came ≡ text_of above ++ reader.held
  pub are : text ≡ text_of above
  pub room : input_limit ≡ length text + reader.room
  pub is_open : reader.is_open ≡ true
  pub counted : count ≡ length above
  pub few : count ≤ length text

-- the text of a head was gathered
pub record HasHeadText (old now : Option (List ℕ)) (text : List ℕ) (reader : LineReading) (first : ℕ) : Type 0 where
  pub above : List (List ℕ)
  pub whole : AreAbove above
  pub came : List ℕ
  pub told : old ≡ before came now
  pub bytes : came ≡ head_text above ++ reader.held
  pub are : text ≡ head_text above
  pub room : input_limit ≡ length text + reader.room
  pub is_open : reader.is_open ≡ true
  pub number : first ≡ length above + 2
  pub few : first ≤ length text

-- the source has ended before a line `feed`
pub record HasShortText (old now : Option (List ℕ)) (text : List ℕ) : Type 0 where
  pub rest : List ℕ
  pub clean : HasNoNewline rest
  pub came : HasNoFeed old now rest
  pub at_end : IsAtEnd now
  pub are : text ≡ text_of came.above ++ rest
  pub within : length text ≤ input_limit

abbrev pub IsRead : Gathered → Option (List ℕ) → Option (List ℕ) → Type 0
IsRead (gathered.Head text reader first) old now = HasHeadText old now text.items reader first
IsRead (gathered.Short text) old now = HasShortText old now text.items

-- a refusal before any text is judged
abbrev pub RefusesText : Status → Option (List ℕ) → Option (List ℕ) → Type 0
RefusesText status.ReadFault old now = HasFailedHead old now
RefusesText status.TooBig old now = HasLongHead old now
RefusesText status.NoMemory old now = Unit {0}
RefusesText _ old now = ⊥

-- whether a whole line is `feed`
abbrev pub IsWhich : Taken → List ℕ → Type 0
IsWhich taken.Above text = text ≢ codes "feed"
IsWhich taken.Feed text = text ≡ codes "feed"
IsWhich taken.Last text = ⊥

-- what is done with an answer of the reader
abbrev pub TakesHead : Line → Result Taken Status → List ℕ → List ℕ → Type 0
TakesHead (line.Full text) (Ok which) old new = IsWhich which text.items × (new ≡ old ++ ended_line text.items)
TakesHead (line.Rest text) (Ok taken.Last) old new = new ≡ old ++ text.items
TakesHead line.End (Ok taken.Last) old new = new ≡ old
TakesHead line.Failed (Err status.ReadFault) old new = new ≡ old
TakesHead line.TooBig (Err status.TooBig) old new = new ≡ old
TakesHead answer result old new = ⊥

-- the reader gave a line, of the bytes that it held and those that came, and the line was appended
pub record HasTaken (result : Result Taken Status) (reader after : LineReading) (left now : Option (List ℕ)) (text text_now : List ℕ) : Type 0 where
  pub line : Line
  pub came : List ℕ
  pub told : left ≡ before came now
  pub tells : Tells line reader (reader.held ++ came) after
  pub last : IsLast line → IsAtEnd now
  pub takes : TakesHead line result text text_now

-- or there was no memory
abbrev pub Takes : Result Taken Status → (reader after : LineReading) → (left now : Option (List ℕ)) → (text text_now : List ℕ) → Type 0
Takes result reader after left now text text_now = (result ≡ Err status.NoMemory) ⊎ HasTaken result reader after left now text text_now
