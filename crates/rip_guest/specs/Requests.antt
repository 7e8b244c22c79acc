-- Requests (RFC 2453 section 3.9.1).
use Rattle.std.specs.Prelude.{ℕ, ◌==◌, ◌&&◌, Bool, false, if◌then◌else◌, List, [], ◌∷◌, map, Option, Some, None}
use Rattle.dn_guest.specs.declared.outbox.Output.{Output}
use Rattle.dn_net.specs.Networks.{is_network, mask_len}
use Rattle.rip_wire.specs.Constants.{authentication_family, infinity, response_command, whole_table_family}
use Rattle.rip_wire.specs.declared.entry.Entry.{Entry}
use Rattle.rip_table.specs.declared.held.Held.{Held}
use Rattle.rip_table.specs.Routes.{Routes, held_at}
use Rattle.rip_guest.specs.Updates.{message_on, update_on}

-- the first entry is one of authentication (RFC 2453 section 4.1)
abbrev pub is_authenticated : List Entry → Bool
is_authenticated [] = false
is_authenticated (e ∷ es) = e.family == authentication_family

-- exactly one entry, of family 0 and metric 16, asks for the whole table
abbrev pub asks_for_all : List Entry → Bool
asks_for_all [] = false
asks_for_all (e ∷ []) = e.family == whole_table_family && e.metric == infinity
asks_for_all (e ∷ f ∷ es) = false

abbrev pub metric_of : Option Held → ℕ
metric_of None = infinity
metric_of (Some h) = h.metric

-- the metric of the route to this address and length, and infinity if there is none
abbrev pub metric_at : Routes → ℕ → Option ℕ → ℕ
metric_at routes address None = infinity
metric_at routes address (Some len) =
    if is_network address len then metric_of (held_at routes (address, len)) else infinity

-- the entry with the table's metric, and all else as it was asked
abbrev pub answered_entry : Routes → Entry → Entry
answered_entry routes e = record e { metric = metric_at routes e.address (mask_len e.mask) }

-- What a request on a port is answered: the whole table as an update is, or the same entries with their
-- metrics, without split horizon. To authentication nothing is answered.
abbrev pub request_answers : Routes → ℕ → List Entry → List Output
request_answers routes port entries =
    if is_authenticated entries then []
    else if asks_for_all entries then update_on false routes port
    else message_on port response_command (map (answered_entry routes) entries) ∷ []
