-- How a command is spelled, and which commands can be asked for.
use Rattle.std.specs.Prelude.{◌≡◌, ◌≢◌, ◌⊎◌, ℕ, ◌<◌, ◌≤◌, List, [], ◌∷◌, length, codes}
use Rattle.std.specs.Fmt.{decimal}
use Rattle.std.specs.List.{AllByRecursion, join_with_byte}
use Rattle.dn_guest.specs.Hex.{hex}
use Rattle.dn_model.specs.declared.router.RouterDef.{RouterDef}
use Rattle.dn_model.specs.Routers.{name_at}
use Rattle.dn_command.specs.declared.breaks.Break.{Break}
use Rattle.dn_command.specs.declared.breaks.Break.TheVariants.{At, Router, Port, Body}
use Rattle.dn_command.specs.declared.command.Command.{Command}
use Rattle.dn_command.specs.declared.command.Command.TheVariants as command

-- ---- what can be asked for

-- a number of 32 bits, for a group and a sum
abbrev pub Is32 : ℕ → Type 0
Is32 n = n ≤ 4294967295

abbrev pub CanStop : List RouterDef → Break → Type 0
CanStop rs (At group sum) = Is32 group × Is32 sum
CanStop rs (Router router) = router < length rs
CanStop rs (Port router port) = (router < length rs) × (port ≤ 15)
CanStop rs (Body bytes) = (0 < length bytes) × AllByRecursion (λ byte. byte < 256) bytes

-- a field that isn't empty has no space
pub record IsField (name : List ℕ) : Type 0 where
  pub some : 0 < length name
  pub whole : AllByRecursion (λ byte. byte ≢ 32) name

abbrev pub CanBeAsked : List RouterDef → Command → Type 0
CanBeAsked rs (command.Step n) = (1 ≤ n) × (n ≤ 200000)
CanBeAsked rs command.Run = Unit {0}
CanBeAsked rs (command.Until group) = Is32 group
CanBeAsked rs (command.Break stop) = CanStop rs stop
CanBeAsked rs (command.Watch name) = IsField name
CanBeAsked rs (command.Unwatch name) = IsField name
CanBeAsked rs (command.Show router) = router < length rs
CanBeAsked rs (command.Queue router) = router < length rs
CanBeAsked rs command.Where = Unit {0}
CanBeAsked rs command.Last = Unit {0}
CanBeAsked rs command.Quit = Unit {0}

-- ---- how it is spelled

abbrev pub break_fields : List RouterDef → Break → List (List ℕ)
break_fields rs (At group sum) = codes "at" ∷ decimal group ∷ decimal sum ∷ []
break_fields rs (Router router) = codes "router" ∷ name_at rs router ∷ []
break_fields rs (Port router port) = codes "port" ∷ name_at rs router ∷ decimal port ∷ []
break_fields rs (Body bytes) = codes "body" ∷ hex bytes ∷ []

abbrev pub fields_of : List RouterDef → Command → List (List ℕ)
fields_of rs (command.Step n) = codes "step" ∷ decimal n ∷ []
fields_of rs command.Run = codes "run" ∷ []
fields_of rs (command.Until group) = codes "until" ∷ decimal group ∷ []
fields_of rs (command.Break stop) = codes "break" ∷ break_fields rs stop
fields_of rs (command.Watch name) = codes "watch" ∷ name ∷ []
fields_of rs (command.Unwatch name) = codes "unwatch" ∷ name ∷ []
fields_of rs (command.Show router) = codes "show" ∷ name_at rs router ∷ []
fields_of rs (command.Queue router) = codes "queue" ∷ name_at rs router ∷ []
fields_of rs command.Where = codes "where" ∷ []
fields_of rs command.Last = codes "last" ∷ []
fields_of rs command.Quit = codes "quit" ∷ []

-- the command's line without its newline: its fields, with one space between them
unfoldable pub spelt : List RouterDef → Command → List ℕ
spelt rs c = join_with_byte 32 (fields_of rs c)

-- The line asks for the command: it is its spelling, but that `step` is `step 1` too.
pub record AsksFor (rs : List RouterDef) (c : Command) (line : List ℕ) : Type 0 where
  pub asked : CanBeAsked rs c
  pub is : (line ≡ spelt rs c) ⊎ ((line ≡ codes "step") × (c ≡ command.Step 1))
