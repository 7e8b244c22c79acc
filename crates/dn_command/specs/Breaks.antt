-- When a break matches a row.
use Rattle.std.specs.Prelude.{ℕ, List, Bool, false, ◌&&◌, ◌==◌, nat_eq}
use Rattle.std.specs.List.{starts_with}
use Rattle.dn_guest.specs.declared.input.Input.{Input}
use Rattle.dn_guest.specs.declared.input.Input.TheVariants.{Cmd, Msg}
use Rattle.dn_model.specs.declared.event.Event.{Event}
use Rattle.dn_command.specs.declared.breaks.Break.{Break}
use Rattle.dn_command.specs.declared.breaks.Break.TheVariants.{At, Router, Port, Body}

-- a message that comes at this port
abbrev pub comes_at : ℕ → Input → Bool
comes_at port (Msg place body) = place == port
comes_at port _ = false

-- a command or a message whose body begins with these bytes
abbrev pub begins_with : List ℕ → Input → Bool
begins_with bytes (Cmd body) = starts_with nat_eq body bytes
begins_with bytes (Msg place body) = starts_with nat_eq body bytes
begins_with bytes _ = false

-- the run stops at the row
abbrev pub matches : Break → Event → Bool
matches (At group sum) row = row.key.group == group && row.key.sum == sum
matches (Router router) row = row.router == router
matches (Port router port) row = row.router == router && comes_at port row.input
matches (Body bytes) row = begins_with bytes row.input
