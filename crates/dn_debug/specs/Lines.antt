-- The lines that a session writes, but for those of rows.
use Rattle.std.specs.Prelude.{ℕ, List, ◌++◌, codes}
use Rattle.std.specs.Fmt.{decimal}
use Rattle.dn_guest.specs.declared.node.Node.{Node}
use Rattle.dn_guest.specs.Meaning.{Meaning}
use Rattle.dn_model.specs.declared.router.RouterDef.{RouterDef}
use Rattle.dn_model.specs.Routers.{name_at}
use Rattle.dn_trace.specs.Rows.{hex16}
use Rattle.dn_debug.specs.declared.reason.Reason.{Reason}
use Rattle.dn_debug.specs.declared.reason.Reason.TheVariants.{Break, Probe, Group, Step, End, Cut}

-- `?`
abbrev pub unknown_line : List ℕ
unknown_line = codes "?\n"

-- `break I`
unfoldable pub break_line : ℕ → List ℕ
break_line number = codes "break " ++ decimal number ++ codes "\n"

-- `watch NAME`
unfoldable pub watch_line : List ℕ → List ℕ
watch_line name = codes "watch " ++ name ++ codes "\n"

-- `at N`
unfoldable pub place_line : ℕ → List ℕ
place_line place = codes "at " ++ decimal place ++ codes "\n"

-- `waiting N`
unfoldable pub waiting_line : ℕ → List ℕ
waiting_line count = codes "waiting " ++ decimal count ++ codes "\n"

abbrev pub reason_text : Reason → List ℕ
reason_text (Break number) = codes "break " ++ decimal number
reason_text (Probe name) = codes "probe " ++ name
reason_text Group = codes "group"
reason_text Step = codes "step"
reason_text End = codes "end"
reason_text Cut = codes "cut"

-- `at N REASON`
unfoldable pub stop_line : ℕ → Reason → List ℕ
stop_line place reason = codes "at " ++ decimal place ++ codes " " ++ reason_text reason ++ codes "\n"

-- `node NAME SENDS PORTS`, and then the guest's show
unfoldable pub node_text : {S : Type 0} → Meaning S → List RouterDef → ℕ → Node S → List ℕ
node_text guests routers r node = codes "node " ++ name_at routers r ++ codes " " ++ decimal node.sends ++ codes " " ++ hex16 node.ports ++ codes "\n" ++ guests.show node.guest
