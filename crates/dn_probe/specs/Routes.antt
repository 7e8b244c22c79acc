-- The routes that a show tells: its lines `route PREFIX COST via WHERE`.
use Rattle.std.specs.Prelude.{ℕ, List, [], ◌∷◌, Bool, not, ◌&&◌, nat_eq, nat_lt, if◌then◌else◌, codes, Option, Some, None}
use Rattle.std.specs.List.{filter_map, find, list_any}
use Rattle.std.specs.Cmp.Lexicographic.{pointwise}
use Rattle.dn_text.specs.Decimals.{decimal_of}
use Rattle.dn_text.specs.Lines.{parts}
use Rattle.dn_probe.specs.declared.routes.Route.{Route}
use Rattle.dn_probe.specs.declared.routes.RouteLine.{RouteLine}

abbrev pub is_word : List ℕ → List ℕ → Bool
is_word text word = pointwise nat_eq text word

abbrev pub lesser : Option ℕ → Option ℕ → Option ℕ
lesser None b = b
lesser (Some a) None = Some a
lesser (Some a) (Some b) = Some (if nat_lt b a then b else a)

-- the least of the words that are ports
unfoldable pub least_port : List (List ℕ) → Option ℕ
least_port [] = None
least_port (word ∷ words) = lesser (decimal_of word) (least_port words)

-- the port by which a route goes on, by the words of its WHERE: the least one; none where the route begins with `own`, which is the router's own
abbrev pub port_of : List (List ℕ) → Option ℕ
port_of [] = None
port_of (word ∷ words) = if is_word word (codes "own") then None else least_port (word ∷ words)

-- a router that runs RIP doesn't reach a prefix of metric 16
abbrev pub is_route : Bool → List ℕ → List ℕ → List ℕ → Bool
is_route rip first cost via = (is_word first (codes "route") && is_word via (codes "via")) && not (rip && is_word cost (codes "16"))

-- the route that the words of a line tell
abbrev pub route_of : Bool → List (List ℕ) → Option Route
route_of rip (first ∷ prefix ∷ cost ∷ via ∷ []) = None
route_of rip (first ∷ prefix ∷ cost ∷ via ∷ ways) = if is_route rip first cost via then Some (record { prefix = prefix; port = port_of ways }) else None
route_of rip _ = None

abbrev pub route_of_line : Bool → List ℕ → Option Route
route_of_line rip line = route_of rip (parts 32 line)

-- what the code reads of a line
abbrev pub told : RouteLine → Route
told r = record { prefix = r.prefix.now; port = r.port }

-- the routes of a show, in order
unfoldable pub routes : Bool → List ℕ → List Route
routes rip show = filter_map (route_of_line rip) (parts 10 show)

abbrev pub leads_to : List ℕ → Route → Bool
leads_to prefix route = is_word route.prefix prefix

-- the first route to the prefix
unfoldable pub route_to : List ℕ → List Route → Option Route
route_to prefix routes = find (leads_to prefix) routes

abbrev pub has_route : List ℕ → List Route → Bool
has_route prefix routes = list_any (leads_to prefix) routes

-- there was a route to a prefix to which there is none now
unfoldable pub loses : List Route → List Route → Bool
loses before now = list_any (λ route. not (has_route route.prefix now)) before
