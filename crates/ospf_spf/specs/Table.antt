-- The routing table as a function of the graph, in the plainest way: for each network in order, the least cost at
-- which some walk gives it. No program goes this way; that it is the table of Routes is proved, so it says which
-- list a router's routes are.
use Rattle.std.specs.Prelude.{ℕ, zero, suc, ◌+◌, ◌*◌, ◌^◌, ◌<◌, ◌==◌, ◌&&◌, ◌||◌, Bool, true, false, nat_lt, nat_le, bit_and, if◌then◌else◌, List, [], ◌∷◌, ◌++◌, Option, Some, None, option_map}
use Rattle.std.specs.List.{list_any, cons_option}
use Rattle.ospf_wire.specs.declared.router_lsa.RouterLink.{RouterLink}
use Rattle.ospf_spf.specs.declared.graph.Vertex.{Vertex}
use Rattle.ospf_spf.specs.declared.route.Route.{Route}
use Rattle.ospf_spf.specs.Walks.{Edge, walk_cost}
use Rattle.ospf_wire.specs.Constants.{PointToPoint, StubNetwork}
use Rattle.dn_net.specs.Networks.{mask_of}

-- whether the router u has a link that passes
abbrev pub any_link : List Vertex → ℕ → (RouterLink → Bool) → Bool
any_link g u test = list_any (λ v. v.id == u && list_any test v.links) g

-- a point-to-point link to the router v, of a metric above 0
abbrev pub leads : RouterLink → ℕ → Bool
leads l v = l.kind == PointToPoint && (nat_lt 0 l.metric && l.id == v)

-- the link of a router
abbrev pub edge : ℕ → RouterLink → Edge
edge u l = record { from = u; link = l }

-- whether some walk of at most n edges from a passes, which is asked of its edges and of its end
abbrev pub any_walk : List Vertex → ℕ → ℕ → (List Edge → ℕ → Bool) → Bool
any_walk g zero a test = test [] a
any_walk g (suc n) a test =
    test [] a
    || any_link g a (λ l. leads l l.id && (any_link g l.id (λ b. leads b a) && any_walk g n l.id (λ es b. test (edge a l ∷ es) b)))

-- a stub link to this network
abbrev pub is_stub : RouterLink → ℕ → ℕ → Bool
is_stub l prefix len =
    l.kind == StubNetwork && (nat_le len 32 && (l.data == mask_of len && bit_and l.id l.data == prefix))

-- whether some walk that passes gives the network this cost. A walk has no more edges than its cost.
abbrev pub is_given : List Vertex → ℕ → ℕ → ℕ → (List Edge → Bool) → ℕ → Bool
is_given g root prefix len test cost =
    any_walk g cost root (λ es b. test es && any_link g b (λ l. is_stub l prefix len && walk_cost es + l.metric == cost))

-- the walk of no edges
abbrev pub is_start : List Edge → Bool
is_start [] = true
is_start (e ∷ es) = false

-- a walk whose first link has the port q
abbrev pub begins_at : ℕ → List Edge → Bool
begins_at q [] = false
begins_at q (e ∷ es) = e.link.data == q + 1

-- the least of n costs from c on that passes
abbrev pub least_from : (ℕ → Bool) → ℕ → ℕ → Option ℕ
least_from test c zero = None
least_from test c (suc n) = if test c then Some c else least_from test (c + 1) n

-- the mask of those of n ports from q on that pass
abbrev pub ports_from : (ℕ → Bool) → ℕ → ℕ → ℕ
ports_from test q zero = 0
ports_from test q (suc n) = (if test q then 1 else 0) + 2 * ports_from test (q + 1) n

-- the route to a network at its cost
unfoldable pub route_at : List Vertex → ℕ → ℕ → ℕ → ℕ → ℕ → Route
route_at g root ports prefix len cost = record {
  prefix = prefix;
  len = len;
  cost = cost;
  own = is_given g root prefix len is_start cost;
  via = ports_from (λ q. is_given g root prefix len (begins_at q) cost) 0 ports;
}

-- the route to a network, if some walk gives it one of the first so many costs
unfoldable pub route_to : List Vertex → ℕ → ℕ → ℕ → ℕ → ℕ → Option Route
route_to g root ports costs prefix len =
    option_map (route_at g root ports prefix len) (least_from (is_given g root prefix len (λ es. true)) 0 costs)

-- the routes to the networks of a prefix, of the n lengths from len on
abbrev pub routes_of_prefix : (ℕ → ℕ → Option Route) → ℕ → ℕ → ℕ → List Route
routes_of_prefix to prefix len zero = []
routes_of_prefix to prefix len (suc n) = cons_option (to prefix len) (routes_of_prefix to prefix (len + 1) n)

-- the routes to the networks of the n prefixes from this one on
abbrev pub routes_from : (ℕ → ℕ → Option Route) → ℕ → ℕ → ℕ → List Route
routes_from to lens prefix zero = []
routes_from to lens prefix (suc n) = routes_of_prefix to prefix 0 lens ++ routes_from to lens (prefix + 1) n

-- a route of one of the first so many prefixes and costs, with 16 ports
abbrev pub IsWide : ℕ → ℕ → Route → Type 0
IsWide prefixes costs r = (r.prefix < prefixes) × (r.cost < costs) × (r.via < 2 ^ 16)

-- the routing table: 16 ports, costs and prefixes of 32 bits, the lengths from 0 to 32
unfoldable pub table_of : List Vertex → ℕ → List Route
table_of g root = routes_from (route_to g root 16 (2 ^ 32)) 33 0 (2 ^ 32)
