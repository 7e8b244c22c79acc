-- The text of rows and of states.
use Rattle.std.specs.Prelude.{ℕ, ◌==◌, if◌then◌else◌, List, [], ◌∷◌, ◌++◌, codes}
use Rattle.std.specs.Fmt.{decimal}
use Rattle.std.specs.List.{flat_map}
use Rattle.std.specs.Int.{to_be_bytes, w16}
use Rattle.dn_guest.specs.declared.input.Input.{Input}
use Rattle.dn_guest.specs.declared.input.Input.TheVariants.{Tick, Cmd, Down, Up, Msg}
use Rattle.dn_guest.specs.declared.node.Node.{Node}
use Rattle.dn_guest.specs.Hex.{hex}
use Rattle.dn_guest.specs.Meaning.{Meaning}
use Rattle.dn_model.specs.declared.key.Key.{Key}
use Rattle.dn_model.specs.declared.event.Event.{Event}
use Rattle.dn_model.specs.declared.router.RouterDef.{RouterDef}
use Rattle.dn_model.specs.Routers.{name_at}
use Rattle.dn_text.specs.Hexadecimals.{hex64}

-- a field, and the space behind it
unfoldable pub field : List ℕ → List ℕ
field text = text ++ 32 ∷ []

-- the last field of a line, and its newline
unfoldable pub last_field : List ℕ → List ℕ
last_field text = text ++ 10 ∷ []

-- `t` for a tick, `x` for an external, `m` for a message
unfoldable pub class_letter : ℕ → ℕ
class_letter class = if class == 0 then 116 else if class == 1 then 120 else 109

-- a body in hexadecimal; an empty one is `-`
unfoldable pub body_text : List ℕ → List ℕ
body_text [] = codes "-"
body_text (byte ∷ bytes) = hex (byte ∷ bytes)

-- `tick`, `cmd HEX`, `down PORT`, `up PORT` or `msg PORT HEX`
unfoldable pub input_text : Input → List ℕ
input_text (Tick group) = codes "tick"
input_text (Cmd body) = codes "cmd " ++ hex body
input_text (Down port) = codes "down " ++ decimal port
input_text (Up port) = codes "up " ++ decimal port
input_text (Msg port body) = codes "msg " ++ decimal port ++ codes " " ++ body_text body

-- `GROUP SUM CLASS TIE ORIGIN SEQ` and a space
unfoldable pub key_text : Key → List ℕ
key_text k = field (decimal k.group) ++ field (decimal k.sum) ++ field (class_letter k.class ∷ []) ++ field (hex64 k.tie) ++ field (decimal k.origin) ++ field (decimal k.seq)

-- the line of a row: its key, the router's name, the input
unfoldable pub row_line : List RouterDef → Event → List ℕ
row_line routers row = key_text row.key ++ field (name_at routers row.router) ++ last_field (input_text row.input)

-- the lines of rows
abbrev pub row_lines : List RouterDef → List Event → List ℕ
row_lines routers rows = flat_map (row_line routers) rows

-- the four digits of a mask
unfoldable pub hex16 : ℕ → List ℕ
hex16 n = hex (to_be_bytes w16 n)

-- `state NAME SENDS PORTS IMAGE`
unfoldable pub state_line : {S : Type 0} → Meaning S → List RouterDef → ℕ → Node S → List ℕ
state_line guests routers r node = field (codes "state") ++ field (name_at routers r) ++ field (decimal node.sends) ++ field (hex16 node.ports) ++ last_field (hex (guests.image node.guest))
