-- Which command a line is, and how a command is spelled.
use Rattle.std.specs.Prelude.{ℕ, List, [], ◌∷◌, ◌&&◌, nat_le, codes, Option, Some, None, if◌then◌else◌}
use Rattle.std.specs.Option.{option_map}
use Rattle.dn_model.specs.declared.router.RouterDef.{RouterDef}
use Rattle.dn_model.specs.Routers.{number_of}
use Rattle.dn_text.specs.Decimals.{decimal_of}
use Rattle.dn_text.specs.Hexadecimals.{unhex}
use Rattle.dn_text.specs.Lines.{parts}
use Rattle.dn_case.specs.Shapes.{is_word, ◌>>=◌}
use Rattle.dn_command.specs.declared.breaks.Break.{Break}
use Rattle.dn_command.specs.declared.breaks.Break.TheVariants as breaks
use Rattle.dn_command.specs.declared.command.Command.{Command}
use Rattle.dn_command.specs.declared.command.Command.TheVariants as command

-- ---- fields

abbrev pub from_to : ℕ → ℕ → Option ℕ → Option ℕ
from_to least greatest None = None
from_to least greatest (Some n) = if nat_le least n && nat_le n greatest then Some n else None

-- the number of a decimal field, from the least to the greatest
abbrev pub number_in : ℕ → ℕ → List ℕ → Option ℕ
number_in least greatest field = from_to least greatest (decimal_of field)

-- G, S
abbrev pub number_32 : List ℕ → Option ℕ
number_32 field = number_in 0 4294967295 field

-- P
abbrev pub port_of : List ℕ → Option ℕ
port_of field = number_in 0 15 field

-- the name of a probe: any field that isn't empty
abbrev pub probe_name : List ℕ → Option (List ℕ)
probe_name [] = None
probe_name (c ∷ cs) = Some (c ∷ cs)

-- ---- commands

unfoldable pub alone : List ℕ → Option Command
alone word =
    if is_word word (codes "step") then Some (command.Step 1) else
    (if is_word word (codes "run") then Some command.Run else
    (if is_word word (codes "where") then Some command.Where else
    (if is_word word (codes "last") then Some command.Last else
    (if is_word word (codes "quit") then Some command.Quit else None))))

unfoldable pub plain_with_field : List RouterDef → List ℕ → List ℕ → Option Command
plain_with_field rs word field =
    if is_word word (codes "step") then option_map command.Step (number_in 1 200000 field) else
    (if is_word word (codes "until") then option_map command.Until (number_32 field) else
    (if is_word word (codes "show") then option_map command.Show (number_of rs field) else
    (if is_word word (codes "queue") then option_map command.Queue (number_of rs field) else None)))

unfoldable pub with_field : List RouterDef → List ℕ → List ℕ → Option Command
with_field rs word field =
    if is_word word (codes "watch") then option_map command.Watch (probe_name field) else
    (if is_word word (codes "unwatch") then option_map command.Unwatch (probe_name field) else plain_with_field rs word field)

-- `break router NAME`, `break body HEX`
unfoldable pub short_break : List RouterDef → List ℕ → List ℕ → Option Break
short_break rs kind field =
    if is_word kind (codes "router") then option_map breaks.Router (number_of rs field) else
    (if is_word kind (codes "body") then option_map breaks.Body (unhex field) else None)

-- `break at G S`, `break port NAME P`
unfoldable pub long_break : List RouterDef → List ℕ → List ℕ → List ℕ → Option Break
long_break rs kind first second =
    if is_word kind (codes "at") then (number_32 first >>= λ group. number_32 second >>= λ sum. Some (breaks.At group sum)) else
    (if is_word kind (codes "port") then (number_of rs first >>= λ router. port_of second >>= λ port. Some (breaks.Port router port)) else None)

unfoldable pub break_if : List ℕ → Option Break → Option Command
break_if word stop = if is_word word (codes "break") then option_map command.Break stop else None

-- the command of the fields of a line
abbrev pub command_of_fields : List RouterDef → List (List ℕ) → Option Command
command_of_fields rs (word ∷ []) = alone word
command_of_fields rs (word ∷ field ∷ []) = with_field rs word field
command_of_fields rs (word ∷ kind ∷ field ∷ []) = break_if word (short_break rs kind field)
command_of_fields rs (word ∷ kind ∷ first ∷ second ∷ []) = break_if word (long_break rs kind first second)
command_of_fields _ _ = None

-- what a line without its newline asks for, where the header has these routers
unfoldable pub command_of : List RouterDef → List ℕ → Option Command
command_of rs line = command_of_fields rs (parts 32 line)
