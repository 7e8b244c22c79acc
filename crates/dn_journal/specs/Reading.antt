-- Journal texts, as a relation on lists of lines.
use Rattle.std.specs.Prelude.{◌≡◌, ℕ, ◌+◌, ◌<◌, ◌≤◌, List, ◌++◌, length, take}
use Rattle.std.specs.List.{AllByRecursion}
use Rattle.dn_model.specs.Cases.{Heading}
use Rattle.dn_world.specs.declared.step.Step.{Step}
use Rattle.dn_journal.specs.Spelling.{IsStep, step_line, journal_lines}

-- The lines are the journal of these steps, each of which the header's journals may have.
pub record IsJournal (h : Heading) (ls : List (List ℕ)) (steps : List Step) : Type 0 where
  pub are : AllByRecursion (IsStep h) steps
  pub is : ls ≡ journal_lines h steps

-- These lines begin a journal.
pub record BeginsJournal (h : Heading) (ls : List (List ℕ)) : Type 0 where
  pub more : List (List ℕ)
  pub steps : List Step
  pub whole : IsJournal h (ls ++ more) steps

-- The first bad line, counted from 1: those before it begin a journal, and with it they begin none, or the lines end before it.
pub record IsFirstBad (h : Heading) (ls : List (List ℕ)) (n : ℕ) : Type 0 where
  pub counted : (1 ≤ n) × (n ≤ length ls + 1)
  pub before : (m : ℕ) → m < n → BeginsJournal h (take m ls)
  pub bad : n ≤ length ls → ¬ BeginsJournal h (take n ls)

-- The lines are no journal.
abbrev pub IsNoJournal : Heading → List (List ℕ) → Type 0
IsNoJournal h ls = (steps : List Step) → ¬ IsJournal h ls steps

-- ---- one line

-- The line is that of the step, which the header's journals may have.
pub record IsStepLine (h : Heading) (s : Step) (line : List ℕ) : Type 0 where
  pub step : IsStep h s
  pub is : line ≡ step_line h s
