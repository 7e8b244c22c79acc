-- Live lines: the line of an external without its group and without its newline. Whoever takes it says the group.
use Rattle.std.specs.Prelude.{◌≡◌, ℕ, List, [], ◌∷◌, ◌++◌, codes, Option, Some, None, Result, Ok, Err}
use Rattle.dn_text.specs.declared.decimals.Number.TheVariants.{Is}
use Rattle.dn_case.specs.Shapes.{Line, External as ExternalLine, ◌>>=◌, name_of, ask_of}
use Rattle.dn_guest.specs.declared.input.Input.{Input}
use Rattle.dn_model.specs.declared.feed.External.{External}
use Rattle.dn_model.specs.Cases.{Heading}
use Rattle.dn_case.specs.declared.standing.Standing.{Standing}
use Rattle.dn_case.specs.declared.place.Place.TheVariants as place
use Rattle.dn_case.specs.declared.cause.Cause.{Cause}
use Rattle.dn_case.specs.declared.cause.LiveError.{LiveError}
use Rattle.dn_case.specs.declared.cause.LiveError.TheVariants as errors
use Rattle.dn_case.specs.Standings.{read_line}
use Rattle.dn_case.specs.Takings.{with_external}
use Rattle.dn_case.specs.Externals.{IsExternalLine}

-- what the fields of a live line say
abbrev pub live_of_fields : List (List ℕ) → Option Line
live_of_fields (name ∷ word ∷ field ∷ []) = name_of name >>= λ name. ask_of word field >>= λ ask. Some (ExternalLine (Is 0) name ask)
live_of_fields _ = None

-- the line as that of an external of group 0
abbrev pub timed : List ℕ → List ℕ
timed line = codes "@0 " ++ (line ++ 10 ∷ [])

abbrev pub untimed : ℕ → Input → External
untimed router input = record { group = 0; router = router; input = input }

-- the lines of the header have been read, and the line `feed`
abbrev pub behind_header : Heading → Standing
behind_header h = record { place = place.Feed; period = h.period; groups = h.groups; seed = h.seed; routers = h.routers; links = h.links; feed = [] }

-- The line is that of this input at this router of the header, and the input meets the header's rules.
abbrev pub IsLiveLine : Heading → ℕ → Input → List ℕ → Type 0
IsLiveLine h router input line = IsExternalLine h (untimed router input) (timed line)

-- What the line makes of what stands behind the header, or its cause: those of an external line. No group is below 0,
-- so Order can't come.
abbrev pub live_reading : Heading → List ℕ → Result Standing Cause
live_reading h line = read_line (behind_header h) (timed line)

-- what a function returned is the reading, unless memory ran out
abbrev pub ReadsLive : Heading → List ℕ → Result (ℕ × Input) LiveError → Type 0
ReadsLive h line (Ok x) = live_reading h line ≡ Ok (with_external (behind_header h) (untimed x.0 x.1))
ReadsLive h line (Err (errors.Bad c)) = live_reading h line ≡ Err c
ReadsLive h line (Err errors.NoMemory) = Unit {0}

-- where the line is bad
abbrev pub OnBad : {X : Type 0} → Result X LiveError → Type 0 → Type 0
OnBad (Ok x) P = Unit {0}
OnBad (Err errors.NoMemory) P = Unit {0}
OnBad (Err (errors.Bad c)) P = P
