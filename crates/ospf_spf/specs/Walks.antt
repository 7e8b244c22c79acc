-- Edges between vertices, and walks along them (RFC 2328 section 16.1, steps 2b and 2d).
use Rattle.std.specs.Prelude.{◌≡◌, ℕ, ◌+◌, ◌<◌, List, [], ◌∷◌}
use Rattle.ospf_wire.specs.declared.router_lsa.RouterLink.{RouterLink}
use Rattle.ospf_wire.specs.Constants.{PointToPoint}
use Rattle.ospf_spf.specs.declared.graph.Vertex.{Vertex}
use Rattle.ospf_spf.specs.Graph.{HasLink}

-- A point-to-point link (type 1) to the router v, of a metric above 0.
pub record LeadsTo (l : RouterLink) (v : ℕ) : Type 0 where
  pub kind : l.kind ≡ PointToPoint
  pub metric : 0 < l.metric
  pub to : l.id ≡ v

-- one link of a router
pub record Edge : Type 0 where
  pub from : ℕ
  pub link : RouterLink

-- The router has this link, it leads to a router, and that router has a link that leads back.
pub record IsEdge (g : List Vertex) (e : Edge) : Type 0 where
  pub there : HasLink g e.from e.link
  pub leads : LeadsTo e.link e.link.id
  pub back : (l : RouterLink) × HasLink g e.link.id l × LeadsTo l e.from

-- the edges lead from a to b, each from where the one before it ended
abbrev pub IsWalk : List Vertex → ℕ → List Edge → ℕ → Type 0
IsWalk g a [] b = a ≡ b
IsWalk g a (e ∷ es) b = (e.from ≡ a) × IsEdge g e × IsWalk g e.link.id es b

-- the sum of the metrics
abbrev pub walk_cost : List Edge → ℕ
walk_cost [] = 0
walk_cost (e ∷ es) = e.link.metric + walk_cost es
