-- The graph by places in place of ids.
use Rattle.std.specs.Prelude.{◌≡◌, ℕ, ◌<◌, ◌≤◌, ◌⊎◌, ◌↔◌, true, List, [], ◌∷◌, length, slice_index}
use Rattle.std.specs.List.{Contains, All, AllZip}
use Rattle.std.specs.Global.{Vec}
use Rattle.std.specs.BTreeSet.{BTreeSet, contains}
use Rattle.ospf_wire.specs.declared.router_lsa.RouterLink.{RouterLink}
use Rattle.ospf_spf.specs.declared.graph.Vertex.{Vertex}
use Rattle.ospf_spf.specs.declared.graph.Hop.{Hop}
use Rattle.ospf_spf.specs.Graph.{HasLink}
use Rattle.ospf_spf.specs.Walks.{LeadsTo}
use Rattle.ospf_spf.specs.Search.{pair_cmp}

abbrev pub ids_of : List Vertex → List ℕ
ids_of [] = []
ids_of (v ∷ vs) = v.id ∷ ids_of vs

-- the numbers rise
abbrev pub AreRising : List ℕ → Type 0
AreRising ids = (i j : ℕ) → i < j → j < length ids → slice_index ids i < slice_index ids j

-- whether the set has a way from a to b
abbrev pub has_way : BTreeSet (ℕ × ℕ) → ℕ → ℕ → Type 0
has_way s a b = contains pair_cmp s (a, b) ≡ true

-- one of the links leads to v
abbrev pub Leads : List RouterLink → ℕ → Type 0
Leads ls v = (l : RouterLink) × Contains ls l × LeadsTo l v

-- the set has the ways of these links from a, and those that it had
abbrev pub IsMarked : ℕ → List RouterLink → BTreeSet (ℕ × ℕ) → BTreeSet (ℕ × ℕ) → Type 0
IsMarked from ls s t = (a b : ℕ) → has_way t a b ↔ (has_way s a b ⊎ ((a ≡ from) × Leads ls b))

-- the set has the ways of the graph
abbrev pub AreWays : List Vertex → BTreeSet (ℕ × ℕ) → Type 0
AreWays g s = (a b : ℕ) → has_way s a b ↔ ((l : RouterLink) × HasLink g a l × LeadsTo l b)

-- the hop of a link from a router that leads to one that leads back
pub record IsHopOf (from : ℕ) (ids : List ℕ) (s : BTreeSet (ℕ × ℕ)) (h : Hop) (l : RouterLink) : Type 0 where
  pub leads : LeadsTo l l.id
  pub back : has_way s l.id from
  pub within : h.to < length ids
  pub to : slice_index ids h.to ≡ l.id
  pub port : h.port ≡ l.data
  pub metric : h.metric ≡ l.metric

abbrev pub AreRow : ℕ → List ℕ → BTreeSet (ℕ × ℕ) → List RouterLink → List Hop → Type 0
AreRow from ids s ls hs = (h : Hop) → Contains hs h ↔ ((l : RouterLink) × Contains ls l × IsHopOf from ids s h l)

-- each router has its row of hops
abbrev pub AreRows : List ℕ → BTreeSet (ℕ × ℕ) → List Vertex → List (Vec Hop) → Type 0
AreRows ids s vs H = AllZip (λ (v : Vertex) (r : Vec Hop). AreRow v.id ids s v.links r.items × All (λ h. h.metric ≤ 65535) r.items) vs H

-- the rows of hops of a graph
pub record AreHopsOf (g : List Vertex) (H : List (Vec Hop)) : Type 0 where
  pub ways : BTreeSet (ℕ × ℕ)
  pub are : AreWays g ways
  pub rows : AreRows (ids_of g) ways g H
