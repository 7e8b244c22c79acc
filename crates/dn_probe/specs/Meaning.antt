-- What a probe is, as plain data.
use Rattle.std.specs.Prelude.{ℕ, ◌+◌, Bool, List}
use Rattle.dn_model.specs.declared.event.Event.{Event}
use Rattle.dn_model.specs.Cases.{Heading}

-- what a probe remembers: texts, in the order that the probe gives them
abbrev pub Memory : Type 0
Memory = List (List ℕ)

-- what a probe says of a row, and what it remembers then
pub record Saying : Type 0 where
  pub yes : Bool
  pub memory : Memory

-- what no call changes
pub record Rules : Type 0 where
  pub name : List ℕ
  -- what it remembers at first in a network of this header
  pub opening : Heading → Memory
  -- what it says of a row, where it remembers this, and the show is that of the row's router after the row
  pub rule : Memory → Event → List ℕ → Saying
  -- the text of its report, where it remembers this and so many rows were shown
  pub report : Memory → ℕ → List ℕ

-- a probe: its rules, what it remembers, and how many rows were shown to it
pub record Watch : Type 0 where
  pub rules : Rules
  pub memory : Memory
  pub shown : ℕ

-- what changes of a probe
pub record Remembering : Type 0 where
  pub memory : Memory
  pub shown : ℕ

-- a probe at the begin
abbrev pub begun : Watch → Heading → Watch
begun w header = record { rules = w.rules; memory = w.rules.opening header; shown = 0 }

-- what it says of a row and the show of the row's router after it
abbrev pub says : Watch → Event → List ℕ → Bool
says w row show = (w.rules.rule w.memory row show).yes

-- the probe after that row
abbrev pub told : Watch → Event → List ℕ → Watch
told w row show = record { rules = w.rules; memory = (w.rules.rule w.memory row show).memory; shown = w.shown + 1 }

-- its report
abbrev pub report_of : Watch → List ℕ
report_of w = w.rules.report w.memory w.shown
