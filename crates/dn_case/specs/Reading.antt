-- Case texts, as a relation on lists of lines.
use Rattle.std.specs.Prelude.{◌≡◌, ℕ, ◌+◌, ◌-◌, ◌<◌, ◌≤◌, List, [], ◌∷◌, ◌++◌, length, take, Option, Some, None, Result, Ok, Err, slice_get, if◌then◌else◌}
use Rattle.std.specs.List.{concat}
use Rattle.dn_text.specs.Lines.{lines}
use Rattle.dn_case.specs.declared.standing.Standing.{Standing}
use Rattle.dn_case.specs.declared.place.Place.TheVariants as place
use Rattle.dn_case.specs.declared.cause.Cause.{Cause}
use Rattle.dn_case.specs.declared.cause.Cause.TheVariants as cause
use Rattle.dn_model.specs.Cases.{Recording}
use Rattle.dn_case.specs.declared.cause.CaseFault.{CaseFault}
use Rattle.dn_case.specs.declared.cause.CaseError.{CaseError}
use Rattle.dn_case.specs.declared.cause.CaseError.TheVariants as errors
use Rattle.dn_case.specs.Standings.{start, is_end, read_line}

-- Each line has a shape that may stand at its place, and none of the causes; s stands before them, and t after them.
abbrev pub Leads : Standing → List (List ℕ) → Standing → Type 0
Leads s [] t = s ≡ t
Leads s (text ∷ more) t = (u : Standing) × (read_line s text ≡ Ok u) × Leads u more t

abbrev pub case_of : Standing → Recording
case_of s = record { header = record { period = s.period; groups = s.groups; seed = s.seed; routers = s.routers; links = s.links }; feed = s.feed }

-- These lines are a case text of this case.
pub record IsCaseText (ls : List (List ℕ)) (case : Recording) : Type 0 where
  pub last : Standing
  pub leads : Leads start ls last
  pub ends : last.place ≡ place.End
  pub says : case_of last ≡ case

-- These lines begin a case text.
pub record BeginsCaseText (ls : List (List ℕ)) : Type 0 where
  pub more : List (List ℕ)
  pub case : Recording
  pub whole : IsCaseText (ls ++ more) case

-- What is wrong at a line, or where it is missing.
abbrev pub IsCause : Standing → Option (List ℕ) → Cause → Type 0
IsCause s None c = c ≡ cause.Ended
IsCause s (Some text) c = read_line s text ≡ Err c

-- The first bad line, counted from 1: those before it begin a case text, and with it they begin none.
pub record IsFirstBad (ls : List (List ℕ)) (n : ℕ) (c : Cause) : Type 0 where
  pub counted : (1 ≤ n) × (n ≤ length ls + 1)
  pub before : (m : ℕ) → m < n → BeginsCaseText (take m ls)
  pub bad : n ≤ length ls → ¬ BeginsCaseText (take n ls)
  pub last : Standing
  pub leads : Leads start (take (n - 1) ls) last
  pub holds : IsCause last (slice_get ls (n - 1)) c

-- A front of the text, of so many bytes, is a case text of the case.
pub record IsCaseFront (text : List ℕ) (case : Recording) (size : ℕ) : Type 0 where
  pub count : ℕ
  pub whole : IsCaseText (take count (lines text)) case
  pub long : size ≡ length (concat (take count (lines text)))

-- No front of the text is a case text.
abbrev pub HasNoCase : List ℕ → Type 0
HasNoCase text = (count : ℕ) (case : Recording) → ¬ IsCaseText (take count (lines text)) case

-- ---- line by line

abbrev pub goes : Result Standing Cause → ℕ → ℕ → (Standing → Result (Standing × ℕ) CaseFault) → Result (Standing × ℕ) CaseFault
goes (Err c) number used on = Err (record { line = number; cause = c })
goes (Ok t) number used on = if is_end t.place then Ok (t, used) else on t

-- from what stands, the number of the next line and the bytes used: where the case ends, or the first fault
abbrev pub reads : Standing → ℕ → ℕ → List (List ℕ) → Result (Standing × ℕ) CaseFault
reads s number used [] = Err (record { line = number; cause = cause.Ended })
reads s number used (text ∷ more) = goes (read_line s text) number (used + length text) (λ t. reads t (number + 1) (used + length text) more)

-- What a function returned, seen by view, is what reading gives, unless memory ran out.
abbrev pub Faults : {Y : Type 0} → CaseError → Result Y CaseFault → Type 0
Faults errors.NoMemory read = Unit {0}
Faults (errors.Fault f) read = read ≡ Err f

abbrev pub Gives : {X Y : Type 0} → (X → Y) → Result X CaseError → Result Y CaseFault → Type 0
Gives view (Ok x) read = read ≡ Ok (view x)
Gives view (Err e) read = Faults e read

-- where a fault came
abbrev pub OnFault : {X : Type 0} → Result X CaseError → (CaseFault → Type 0) → Type 0
OnFault (Ok x) P = Unit {0}
OnFault (Err errors.NoMemory) P = Unit {0}
OnFault (Err (errors.Fault f)) P = P f
