-- The lines of steps, and the text of a journal.
use Rattle.std.specs.Prelude.{ℕ, ◌<◌, ◌^◌, List, [], ◌∷◌, ◌++◌, length, map, codes, IsTrue}
use Rattle.std.specs.Fmt.{decimal}
use Rattle.std.specs.List.{concat, AllByRecursion}
use Rattle.dn_guest.specs.declared.input.Input.{Input}
use Rattle.dn_guest.specs.declared.input.Input.TheVariants.{Tick, Cmd, Down, Up, Msg}
use Rattle.dn_model.specs.Cases.{Heading}
use Rattle.dn_model.specs.Routers.{name_at}
use Rattle.dn_world.specs.declared.step.Step.{Step}
use Rattle.dn_world.specs.declared.step.Step.TheVariants.{Beacon, Inject, Close, Deliver, Handle, RollBack, Commit}
use Rattle.dn_world.specs.Steps.{is_injectable}
use Rattle.dn_case.specs.Spelling.{spelled, external_line}

-- ---- what a step of a journal may say

-- its router is one of the header's; what it injects is of a group of the header, and may be injected
abbrev pub IsOf : Heading → Step → Type 0
IsOf h Beacon = Unit {0}
IsOf h (Inject x) = (x.group < h.groups) × (x.router < length h.routers) × IsTrue (is_injectable h x.router x.input)
IsOf h Close = Unit {0}
IsOf h (Deliver place) = Unit {0}
IsOf h (Handle r) = r < length h.routers
IsOf h (RollBack r) = r < length h.routers
IsOf h Commit = Unit {0}

abbrev pub HasBytes : Input → Type 0
HasBytes (Tick group) = Unit {0}
HasBytes (Cmd body) = AllByRecursion (λ byte. byte < 256) body
HasBytes (Down port) = Unit {0}
HasBytes (Up port) = Unit {0}
HasBytes (Msg port body) = AllByRecursion (λ byte. byte < 256) body

-- its numbers are within their types, as in every step of a program
abbrev pub Fits : Step → Type 0
Fits Beacon = Unit {0}
Fits (Inject x) = HasBytes x.input
Fits Close = Unit {0}
Fits (Deliver place) = place < 2 ^ 64
Fits (Handle r) = Unit {0}
Fits (RollBack r) = Unit {0}
Fits Commit = Unit {0}

-- a step that a journal of the header may have
pub record IsStep (h : Heading) (s : Step) : Type 0 where
  pub of : IsOf h s
  pub fits : Fits s

-- ---- its line, with the newline

abbrev pub step_line : Heading → Step → List ℕ
step_line h Beacon = codes "beacon\n"
step_line h (Inject x) = codes "inject " ++ spelled (external_line h.routers x)
step_line h Close = codes "close\n"
step_line h (Deliver place) = codes "deliver " ++ (decimal place ++ codes "\n")
step_line h (Handle r) = codes "handle " ++ (name_at h.routers r ++ codes "\n")
step_line h (RollBack r) = codes "rollback " ++ (name_at h.routers r ++ codes "\n")
step_line h Commit = codes "commit\n"

-- the last line, which says how many steps there are
abbrev pub end_line : ℕ → List ℕ
end_line count = codes "end journal " ++ (decimal count ++ codes "\n")

-- ---- the journal

abbrev pub journal_lines : Heading → List Step → List (List ℕ)
journal_lines h steps = codes "journal\n" ∷ (map (step_line h) steps ++ end_line (length steps) ∷ [])

-- the one spelling of a journal of these steps
unfoldable pub journal_text : Heading → List Step → List ℕ
journal_text h steps = concat (journal_lines h steps)
