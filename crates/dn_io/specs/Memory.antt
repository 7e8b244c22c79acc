-- A source and a sink in memory, and what a call does to them.
use Rattle.std.specs.Prelude.{◌≡◌, ℕ, List, drop, ◌++◌, take}
use Rattle.dn_io.specs.Streams.{counted}
use Rattle.dn_io.specs.declared.source.Took.{Took}
use Rattle.dn_io.specs.declared.source.Took.TheVariants as took
use Rattle.dn_io.specs.declared.sink.Put.{Put}
use Rattle.dn_io.specs.declared.sink.Put.TheVariants as put

-- a source in memory
pub record Giving : Type 0 where
  pub left : List ℕ
  -- the numbers of the calls that fail
  pub fails : List ℕ
  -- how much a call gives at most
  pub piece : ℕ
  -- how many calls there were, and how many of them failed
  pub calls : ℕ
  pub failed : ℕ

-- a sink in memory
pub record Taking : Type 0 where
  pub held : List ℕ
  -- how much it holds at most
  pub room : ℕ
  -- the numbers of the calls that fail
  pub fails : List ℕ
  -- how much a call takes at most
  pub piece : ℕ
  -- how many calls there were, and how many of them failed
  pub calls : ℕ
  pub failed : ℕ

-- what holds of the number of bytes that a read gave
abbrev pub IfTook : Took → (ℕ → Type 0) → Type 0
IfTook (took.Bytes n) P = P n
IfTook took.End P = Unit {0}
IfTook took.Failed P = Unit {0}

-- what holds of the number of bytes that a write took
abbrev pub IfPut : Put → (ℕ → Type 0) → Type 0
IfPut (put.Bytes n) P = P n
IfPut put.Failed P = Unit {0}

-- the call was counted, and nothing changed but what was given and the faults
abbrev pub AfterRead : Took → Giving → Giving → Type 0
AfterRead (took.Bytes n) old new = new ≡ record old { left = drop n old.left; calls = counted old.calls }
AfterRead took.End old new = new ≡ record old { calls = counted old.calls }
AfterRead took.Failed old new = new ≡ record old { calls = counted old.calls; failed = counted old.failed }

-- the call was counted, and nothing changed but what is held and the faults
abbrev pub AfterWrite : Put → List ℕ → Taking → Taking → Type 0
AfterWrite (put.Bytes n) piece old new = new ≡ record old { held = old.held ++ take n piece; calls = counted old.calls }
AfterWrite put.Failed piece old new = new ≡ record old { calls = counted old.calls; failed = counted old.failed }
