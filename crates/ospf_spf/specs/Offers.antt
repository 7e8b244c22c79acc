-- Offers of prefixes by stub links, and the best of each prefix.
use Rattle.std.specs.Prelude.{◌≡◌, ℕ, zero, suc, ◌+◌, ◌<◌, ◌≤◌, ◌⊎◌, ◌↔◌, ◌==◌, List, [], ◌∷◌, IsTrue, Bool, Option, Some, None, slice_index}
use Rattle.ospf_spf.specs.declared.graph.Vertex.{Vertex}
use Rattle.std.specs.List.{Contains, All}
use Rattle.std.specs.Int.{bit_at}
use Rattle.std.specs.BTreeMap.{BTreeMap, get}
use Rattle.ospf_wire.specs.declared.router_lsa.RouterLink.{RouterLink}
use Rattle.ospf_spf.specs.declared.route.Route.{Route}
use Rattle.ospf_spf.specs.Stubs.{IsStub}
use Rattle.ospf_spf.specs.Routes.{AreAscending}
use Rattle.ospf_spf.specs.Search.{pair_cmp}

-- of one prefix
abbrev pub IsSame : Route → Route → Type 0
IsSame o r = (o.prefix ≡ r.prefix) × (o.len ≡ r.len)

-- r is the best of the offers of its prefix: of the least cost, with the ports of all such offers
pub record IsMerged (os : List Route) (r : Route) : Type 0 where
  pub cost : (o : Route) × Contains os o × IsSame o r × (o.cost ≡ r.cost)
  pub least : (o : Route) → Contains os o → IsSame o r → r.cost ≤ o.cost
  pub own : IsTrue r.own ↔ ((o : Route) × Contains os o × IsSame o r × (o.cost ≡ r.cost) × IsTrue o.own)
  pub via : (q : ℕ) → q < 16 → (bit_at r.via q ≡ 1) ↔ ((o : Route) × Contains os o × IsSame o r × (o.cost ≡ r.cost) × (bit_at o.via q ≡ 1))

-- the map has the best of each prefix that is offered
pub record IsBest (os : List Route) (m : BTreeMap (ℕ × ℕ) Route) : Type 0 where
  pub known : (p l : ℕ) (r : Route) → get pair_cmp m (p, l) ≡ Some r → (r.prefix ≡ p) × (r.len ≡ l) × IsMerged os r
  pub none : (p l : ℕ) → get pair_cmp m (p, l) ≡ None → (o : Route) → Contains os o → o.prefix ≡ p → o.len ≡ l → ⊥

-- the best of each prefix, in order
pub record AreGathered (os rs : List Route) : Type 0 where
  pub each : All (IsMerged os) rs
  pub all : (o : Route) → Contains os o → (r : Route) × Contains rs r × IsSame o r
  pub order : AreAscending rs

-- the offer of a stub link of a vertex at a cost
pub record IsOffer (cost : ℕ) (own : Bool) (via : ℕ) (l : RouterLink) (r : Route) : Type 0 where
  pub stub : IsStub l r.prefix r.len
  pub price : r.cost ≡ cost + l.metric
  pub mine : r.own ≡ own
  pub ports : r.via ≡ via

abbrev pub AreOffers : ℕ → Bool → ℕ → List RouterLink → List Route → List Route → Type 0
AreOffers cost own via ls old new = (r : Route) → Contains new r ↔ (Contains old r ⊎ ((l : RouterLink) × Contains ls l × IsOffer cost own via l r))

-- the links of the router at a place
abbrev pub links_at : List Vertex → ℕ → List RouterLink
links_at [] u = []
links_at (v ∷ vs) zero = v.links
links_at (v ∷ vs) (suc u) = links_at vs u

-- the offer of a stub link of a vertex that has a cost
pub record IsOffered (g : List Vertex) (root : ℕ) (L : ℕ → Option ℕ) (masks : List ℕ) (r : Route) : Type 0 where
  pub at : ℕ
  pub cost : ℕ
  pub link : RouterLink
  pub label : L at ≡ Some cost
  pub there : Contains (links_at g at) link
  pub offer : IsOffer cost (at == root) (slice_index masks at) link r

-- the offers of the first i vertices
abbrev pub AreOffered : List Vertex → ℕ → (ℕ → Option ℕ) → List ℕ → ℕ → List Route → Type 0
AreOffered g root L masks i os = (r : Route) → Contains os r ↔ ((o : IsOffered g root L masks r) × (o.at < i))
