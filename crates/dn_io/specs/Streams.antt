-- What reads take and writes put, and when they may fail.
-- `told` is a list of bytes where a source or a sink tells it, and None where it doesn't.
use Rattle.std.specs.Prelude.{◌≡◌, ℕ, ◌+◌, ◌-◌, ◌^◌, ◌<◌, ◌≤◌, min, List, [], ◌++◌, length, take, Option, IfSome}
use Rattle.std.specs.Option.{option_map}
use Rattle.dn_io.specs.declared.source.Took.{Took}
use Rattle.dn_io.specs.declared.source.Took.TheVariants as took
use Rattle.dn_io.specs.declared.sink.Put.{Put}
use Rattle.dn_io.specs.declared.sink.Put.TheVariants as put

-- these bytes, and then those that are told
abbrev pub before : List ℕ → Option (List ℕ) → Option (List ℕ)
before front told = option_map (λ rest. front ++ rest) told

-- those that are told, and then these
abbrev pub behind : Option (List ℕ) → List ℕ → Option (List ℕ)
behind told more = option_map (λ held. held ++ more) told

-- the next count; it stands still at the end of 64 bits
abbrev pub counted : ℕ → ℕ
counted n = min (n + 1) (2 ^ 64 - 1)

-- a count of faults rose, or stands at its end
abbrev pub Rose : ℕ → ℕ → Type 0
Rose old now = counted old ≤ now

-- some bytes came from the front of what was left, and P holds of them
pub record Gives (old now : Option (List ℕ)) (P : List ℕ → Type 0) : Type 0 where
  pub came : List ℕ
  pub holds : P came
  pub told : old ≡ before came now

-- what a read does to what is left
abbrev pub Reads : Took → Option (List ℕ) → Option (List ℕ) → List ℕ → Type 0
Reads (took.Bytes n) old now into = (1 ≤ n) × (n ≤ length into) × (old ≡ before (take n into) now)
Reads took.End old now into = (now ≡ old) × IfSome old (λ left. left ≡ [])
Reads took.Failed old now into = now ≡ old

-- what a write does to what is held
abbrev pub Writes : Put → Option (List ℕ) → Option (List ℕ) → List ℕ → Type 0
Writes (put.Bytes n) old now piece = (n ≤ length piece) × (0 < length piece → 0 < n) × (now ≡ behind old (take n piece))
Writes put.Failed old now piece = now ≡ old

-- a front of the text, of so many bytes, was put behind what was held
pub record PutsFront (old now : Option (List ℕ)) (text : List ℕ) : Type 0 where
  pub count : ℕ
  pub within : count ≤ length text
  pub put : now ≡ behind old (take count text)

-- a front of the text was put behind what was held, and the rest of it is kept
pub record PutsOrKeeps (old now : Option (List ℕ)) (kept text : List ℕ) : Type 0 where
  -- what is held now and then what is kept is what was held and then the text
  pub whole : behind now kept ≡ behind old text
  pub rest : length kept ≤ length text
