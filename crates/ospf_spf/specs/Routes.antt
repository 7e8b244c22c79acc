-- The routing table of a router (RFC 2328 section 16.1): for each network that some walk leads to, the least
-- cost and all ports that begin a walk of that cost.
use Rattle.std.specs.Prelude.{◌≡◌, ℕ, ◌+◌, ◌<◌, ◌≤◌, ◌⊎◌, ◌↔◌, List, [], ◌∷◌, length, IsTrue, slice_index_or}
use Rattle.std.specs.List.{Contains, All}
use Rattle.std.specs.Int.{bit_at}
use Rattle.ospf_wire.specs.declared.router_lsa.RouterLink.{RouterLink}
use Rattle.ospf_spf.specs.declared.graph.Vertex.{Vertex}
use Rattle.ospf_spf.specs.declared.route.Route.{Route}
use Rattle.ospf_spf.specs.Graph.{HasLink}
use Rattle.ospf_spf.specs.Walks.{Edge, IsWalk, walk_cost}
use Rattle.ospf_spf.specs.Stubs.{IsStub}

-- The walk from the root ends at a router with a stub link to this network, and both together cost so much.
pub record Gives (g : List Vertex) (root : ℕ) (es : List Edge) (prefix len cost : ℕ) : Type 0 where
  pub end : ℕ
  pub walk : IsWalk g root es end
  pub stub : RouterLink
  pub there : HasLink g end stub
  pub gives : IsStub stub prefix len
  pub total : walk_cost es + stub.metric ≡ cost

-- A route of the root: some walk gives its network its cost, and no walk gives it less. It is the root's own
-- where the walk of no edges gives that cost. A port below 16 is in `via` exactly where some walk that gives
-- that cost begins with a link whose data is the port plus one.
pub record IsRoute (g : List Vertex) (root : ℕ) (r : Route) : Type 0 where
  pub walk : (es : List Edge) × Gives g root es r.prefix r.len r.cost
  pub least : (es : List Edge) (c : ℕ) → Gives g root es r.prefix r.len c → r.cost ≤ c
  pub own : IsTrue r.own ↔ Gives g root [] r.prefix r.len r.cost
  pub via : (q : ℕ) → q < 16 → (bit_at r.via q ≡ 1) ↔ ((e : Edge) × (es : List Edge) × Gives g root (e ∷ es) r.prefix r.len r.cost × (e.link.data ≡ q + 1))

-- by the prefix, and then by the length
abbrev pub IsBefore : Route → Route → Type 0
IsBefore r s = (r.prefix < s.prefix) ⊎ ((r.prefix ≡ s.prefix) × (r.len < s.len))

abbrev pub AreAscending : List Route → Type 0
AreAscending rs = (i j : ℕ) (d : Route) → i < j → j < length rs → IsBefore (slice_index_or rs i d) (slice_index_or rs j d)

-- The routes of the root: those of exactly the networks that some walk gives, each once, in ascending order.
pub record AreRoutes (g : List Vertex) (root : ℕ) (rs : List Route) : Type 0 where
  pub each : All (IsRoute g root) rs
  pub all : (es : List Edge) (prefix len cost : ℕ) → Gives g root es prefix len cost → (r : Route) × Contains rs r × (r.prefix ≡ prefix) × (r.len ≡ len)
  pub order : AreAscending rs
