-- Lines that tell a reader of the routes: `route A.B.C.D/LEN METRIC via WHERE`, where WHERE is `own` or a port.
use Rattle.std.specs.Prelude.{ℕ, List, [], ◌∷◌, ◌++◌, flat_map, codes, Option, Some, None}
use Rattle.std.specs.Fmt.{decimal}
use Rattle.dn_net.specs.Networks.{Network}
use Rattle.dn_net.specs.Texts.{network_text}
use Rattle.rip_table.specs.declared.held.Held.{Held}
use Rattle.rip_guest.specs.State.{RipState}

abbrev pub where_text : Option ℕ → List ℕ
where_text None = codes "own"
where_text (Some port) = decimal port

unfoldable pub route_line : Network × Held → List ℕ
route_line e =
    codes "route " ++ network_text e.0.0 e.0.1
    ++ codes " " ++ decimal e.1.metric ++ codes " via " ++ where_text e.1.via ++ 10 ∷ []

abbrev pub rip_show : RipState → List ℕ
rip_show s = flat_map route_line s.routes
