-- What taking a line gives in the code.
use Rattle.std.specs.Prelude.{◌≡◌, ◌≤◌, [], ◌∷◌, ◌++◌, length, Result, Ok, Err}
use Rattle.dn_model.specs.declared.feed.External.{External}
use Rattle.dn_case.specs.declared.standing.Standing.{Standing}
use Rattle.dn_case.specs.declared.place.Place.TheVariants as place
use Rattle.dn_case.specs.declared.cause.Cause.{Cause}
use Rattle.dn_case.specs.declared.cause.LineError.{LineError}
use Rattle.dn_case.specs.declared.cause.LineError.TheVariants as errors

abbrev pub Fails : LineError → Result Standing Cause → Type 0
Fails errors.NoMemory read = Unit {0}
Fails (errors.Bad c) read = read ≡ Err c

-- Where the call is Ok, what stands now is what was read; a fault is that of the reading.
abbrev pub Reads : {U : Type 0} → Result U LineError → Standing → Result Standing Cause → Type 0
Reads (Ok u) now read = read ≡ Ok now
Reads (Err e) now read = Fails e read

abbrev pub IsFew : Standing → Type 0
IsFew s = length s.routers ≤ 64

-- what stands with one more external
abbrev pub with_external : Standing → External → Standing
with_external s x = record s { place = place.External; feed = s.feed ++ x ∷ [] }

-- Where the call finds an external, what stands with it is what was read; a fault is that of the reading.
abbrev pub FindsNext : Standing → Result External LineError → Result Standing Cause → Type 0
FindsNext s (Ok x) read = read ≡ Ok (with_external s x)
FindsNext s (Err e) read = Fails e read
