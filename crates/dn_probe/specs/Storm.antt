-- The probe `storm`: more than 1,000 messages in one group.
use Rattle.std.specs.Prelude.{ℕ, ◌+◌, Bool, true, false, ◌&&◌, ◌==◌, nat_lt, if◌then◌else◌, List, [], ◌∷◌, codes}
use Rattle.std.specs.Fmt.{decimal}
use Rattle.dn_guest.specs.declared.input.Input.{Input}
use Rattle.dn_guest.specs.declared.input.Input.TheVariants.{Tick, Cmd, Down, Up, Msg}
use Rattle.dn_model.specs.declared.event.Event.{Event}
use Rattle.dn_probe.specs.Meaning.{Memory, Rules, Saying}
use Rattle.dn_probe.specs.Reports.{number_at, one_if, counted, report_line}

abbrev pub is_message : Input → Bool
is_message (Tick group) = false
is_message (Cmd body) = false
is_message (Down port) = false
is_message (Up port) = false
is_message (Msg port body) = true

-- It remembers the group of the last row, and how many messages of that group were shown.
abbrev pub storm_memory : List ℕ → ℕ → ℕ → Memory
storm_memory times group messages = times ∷ decimal group ∷ decimal messages ∷ []

-- how many messages of the row's group were shown, the row among them, where so many were shown of this group before
abbrev pub messages_with : ℕ → ℕ → Event → ℕ
messages_with group messages row = (if group == row.key.group then messages else 0) + one_if (is_message row.input)

-- the row is a message, and so many of its group were shown
abbrev pub is_storm : ℕ → Event → Bool
is_storm messages row = is_message row.input && nat_lt 1000 messages

abbrev pub storm_rule : Memory → Event → List ℕ → Saying
storm_rule memory row show =
    let messages = messages_with (number_at memory 1) (number_at memory 2) row in
    let answer = is_storm messages row in
    record { yes = answer; memory = storm_memory (counted memory answer) row.key.group messages }

abbrev pub storm_opening : Memory
storm_opening = storm_memory (decimal 0) 0 0

abbrev pub storm_rules : Rules
storm_rules = record { name = codes "storm"; opening = λ header. storm_opening; rule = storm_rule; report = report_line (codes "storm") }
