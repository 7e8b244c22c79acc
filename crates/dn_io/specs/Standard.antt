-- Sources and sinks over std's readers and writers, of whose bytes std says what is known.
use Rattle.std.specs.Prelude.{ℕ, List, [], take, Option}
use Rattle.std.specs.Io.KnownBytes.{Keeps, Appends, Consumes, IsAtEnd}
use Rattle.dn_io.specs.declared.source.Took.{Took}
use Rattle.dn_io.specs.declared.source.Took.TheVariants as took
use Rattle.dn_io.specs.declared.sink.Put.{Put}
use Rattle.dn_io.specs.declared.sink.Put.TheVariants as put
use Rattle.dn_io.specs.declared.standard.StdSource.{StdSource}
use Rattle.dn_io.specs.declared.standard.StdSink.{StdSink}

-- the reader that a source reads from, and its count of faults
abbrev pub reader_of : {R : Type 0} → StdSource R → R
reader_of source = source.inner

abbrev pub faults_read : {R : Type 0} → StdSource R → ℕ
faults_read source = source.failed

-- the writer that a sink writes to, and its count of faults
abbrev pub writer_of : {W : Type 0} → StdSink W → W
writer_of sink = sink.inner

abbrev pub faults_written : {W : Type 0} → StdSink W → ℕ
faults_written sink = sink.failed

-- the bytes that came are the reader's next ones, and at the end it has none
abbrev pub PassesOn : Took → Option (List ℕ) → Option (List ℕ) → List ℕ → Type 0
PassesOn (took.Bytes n) old now into = Consumes old now (take n into)
PassesOn took.End old now into = Consumes old now [] × IsAtEnd now
PassesOn took.Failed old now into = Keeps old now

-- the bytes that were taken stand behind the writer's
abbrev pub HandsOn : Put → Option (List ℕ) → Option (List ℕ) → List ℕ → Type 0
HandsOn (put.Bytes n) old now piece = Appends old now (take n piece)
HandsOn put.Failed old now piece = Keeps old now
