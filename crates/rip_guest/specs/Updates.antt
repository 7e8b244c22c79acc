-- Updates and the request for the whole table (RFC 2453 sections 3.9.1 and 3.10).
use Rattle.std.specs.Prelude.{ℕ, ◌+◌, ◌-◌, ◌*◌, ◌/◌, Bool, List, [], ◌∷◌, length, take, drop, map, flat_map, Some}
use Rattle.std.specs.List.{range_with_len}
use Rattle.dn_guest.specs.declared.outbox.Output.{Output}
use Rattle.rip_wire.specs.Constants.{infinity, most_entries, request_command, response_command, whole_table_family}
use Rattle.rip_wire.specs.declared.entry.Entry.{Entry}
use Rattle.rip_wire.specs.Messages.{message_bytes}
use Rattle.rip_table.specs.Updates.{update_entries}
use Rattle.rip_table.specs.Routes.{Routes}
use Rattle.rip_guest.specs.State.{up_ports}

-- a message of this command with these entries, put out on a port
abbrev pub message_on : ℕ → ℕ → List Entry → Output
message_on port command entries =
    record { port = port; body = message_bytes (record { command = command; entries = entries }) }

-- the request for the whole table: one entry of family 0 and metric 16
abbrev pub whole_table_entry : Entry
whole_table_entry = record { family = whole_table_family; tag = 0; address = 0; mask = 0; hop = 0; metric = infinity }

abbrev pub request_on : ℕ → Output
request_on port = message_on port request_command (whole_table_entry ∷ [])

-- a request for the whole table on each port that is up (RFC 2453 section 3.9.1)
abbrev pub requests : ℕ → ℕ → List Output
requests ports count = map request_on (up_ports ports count)

-- the entries from place 25 * k on, 25 at most
abbrev pub message_part : List Entry → ℕ → List Entry
message_part entries k = take most_entries (drop (most_entries * k) entries)

-- how many messages these entries take
abbrev pub message_count : List Entry → ℕ
message_count entries = (length entries + (most_entries - 1)) / most_entries

-- responses with these entries, 25 in each and the rest in the last; none if there is no entry (RFC 2453 section 3.6)
abbrev pub responses_on : ℕ → List Entry → List Output
responses_on port entries =
    map (λ k. message_on port response_command (message_part entries k)) (range_with_len 0 (message_count entries))

-- an update on a port: of all routes, or of those alone that are marked as changed (RFC 2453 sections 3.10 and 3.10.1)
abbrev pub update_on : Bool → Routes → ℕ → List Output
update_on only_changed routes port = responses_on port (update_entries (Some port) only_changed routes)

-- an update on each port that is up
abbrev pub updates : Bool → Routes → ℕ → ℕ → List Output
updates only_changed routes ports count = flat_map (update_on only_changed routes) (up_ports ports count)
