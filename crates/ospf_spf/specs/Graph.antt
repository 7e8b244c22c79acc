-- The vertices of an area: the router-LSAs of the database (RFC 2328 sections 12.4.1 and 16.1).
use Rattle.std.specs.Prelude.{◌≡◌, ◌<◌, ◌==◌, ◌&&◌, ℕ, Bool, nat_lt, if◌then◌else◌, List, length, Option, None, option_map, slice_index_or}
use Rattle.std.specs.List.{Contains, filter_map}
use Rattle.ospf_wire.specs.declared.router_lsa.RouterLink.{RouterLink}
use Rattle.ospf_wire.specs.Reading.{router_links_at}
use Rattle.ospf_wire.specs.Constants.{MaxAge, RouterLsaType}
use Rattle.ospf_lsdb.specs.declared.key.LsaKey.{LsaKey}
use Rattle.ospf_lsdb.specs.declared.kept.Kept.{Kept}
use Rattle.ospf_lsdb.specs.Kept.{age_of}
use Rattle.ospf_lsdb.specs.Database.{Database}
use Rattle.ospf_spf.specs.declared.graph.Vertex.{Vertex}

-- whether an LSA is a router-LSA whose id is its advertising router, of an age below MaxAge
abbrev pub is_current : ℕ → LsaKey → Kept → Bool
is_current now key k = key.kind == RouterLsaType && key.id == key.router && nat_lt (age_of now k) MaxAge

-- the router and its links, where such an LSA is well formed
abbrev pub vertex_of : ℕ → LsaKey × Kept → Option Vertex
vertex_of now e =
    if is_current now e.0 e.1
    then option_map (λ links. record { id = e.0.id; links = links }) (router_links_at e.1.lsa.body)
    else None

-- the vertices of the database at this tick, by their router ids
abbrev pub graph_of : ℕ → Database → List Vertex
graph_of now db = filter_map (vertex_of now) db

-- The router u has this link.
pub record HasLink (g : List Vertex) (u : ℕ) (l : RouterLink) : Type 0 where
  pub vertex : Vertex
  pub known : Contains g vertex
  pub id : vertex.id ≡ u
  pub link : Contains vertex.links l

-- the vertices stand in the order of their ids, each id once
abbrev pub AreInOrder : List Vertex → Type 0
AreInOrder g = (i j : ℕ) (d : Vertex) → i < j → j < length g → (slice_index_or g i d).id < (slice_index_or g j d).id
