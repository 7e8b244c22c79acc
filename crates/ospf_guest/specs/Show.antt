-- Lines that tell a reader of neighbours and routes.
use Rattle.std.specs.Prelude.{ℕ, ◌+◌, ◌==◌, ◌&&◌, Bool, not, nat_le, if◌then◌else◌, List, [], ◌∷◌, ◌++◌, length, flat_map, codes}
use Rattle.std.specs.List.{range_with_len}
use Rattle.std.specs.Fmt.{decimal}
use Rattle.dn_guest.specs.Ports.{is_up}
use Rattle.dn_net.specs.Texts.{network_text}
use Rattle.ospf_lsdb.specs.Database.{Database}
use Rattle.ospf_spf.specs.declared.route.Route.{Route}
use Rattle.ospf_spf.specs.Graph.{graph_of}
use Rattle.ospf_spf.specs.Table.{table_of}
use Rattle.ospf_router.specs.declared.neighbour.Neighbour.{Neighbour}
use Rattle.ospf_router.specs.declared.neighbour.Neighbour.TheVariants.{Down, Init, Full}
use Rattle.ospf_router.specs.declared.interfaces.Port.{Port}
use Rattle.ospf_router.specs.State.{OspfState}

-- `neighbour PORT STATE ID`, where the neighbour isn't Down
abbrev pub neighbour_line : ℕ → Neighbour → List ℕ
neighbour_line p Down = []
neighbour_line p (Init h) = codes "neighbour " ++ decimal p ++ codes " init " ++ decimal h.id ++ 10 ∷ []
neighbour_line p (Full h) = codes "neighbour " ++ decimal p ++ codes " full " ++ decimal h.id ++ 10 ∷ []

-- those of the ports from p on
abbrev pub neighbour_lines : ℕ → List Port → List ℕ
neighbour_lines p [] = []
neighbour_lines p (x ∷ xs) = neighbour_line p x.neighbour ++ neighbour_lines (p + 1) xs

-- a space and a port, if it is one of the mask
abbrev pub port_text : ℕ → ℕ → List ℕ
port_text mask p = if is_up mask p then 32 ∷ decimal p else []

-- the ports of a mask in ascending order, a space before each
abbrev pub port_texts : ℕ → List ℕ
port_texts mask = flat_map (port_text mask) (range_with_len 0 16)

-- a space, and `own` where the route is the router's own, and its ports, with one space between
unfoldable pub where_text : Bool → ℕ → List ℕ
where_text own mask = if not own && mask == 0 then 32 ∷ [] else (if own then codes " own" else []) ++ port_texts mask

-- `route A.B.C.D/LEN COST via`
unfoldable pub route_front : Route → List ℕ
route_front r =
    codes "route " ++ network_text r.prefix r.len ++ codes " " ++ decimal r.cost ++ codes " via"

-- `route A.B.C.D/LEN COST via WHERE`
unfoldable pub route_line : Route → List ℕ
route_line r = route_front r ++ where_text r.own r.via ++ 10 ∷ []

-- the routes of the router at its last tick. A database of more than 65,535 LSAs, which no router has, has none.
unfoldable pub route_lines : ℕ → ℕ → Database → List ℕ
route_lines number tick db = if nat_le (length db) 65535 then flat_map route_line (table_of (graph_of tick db) (number + 1)) else []

unfoldable pub ospf_show : OspfState → List ℕ
ospf_show s = neighbour_lines 0 s.interfaces.ports ++ route_lines s.number s.tick s.db
