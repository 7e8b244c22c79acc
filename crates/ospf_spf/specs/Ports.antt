-- Words for the ports of least walks.
use Rattle.std.specs.Prelude.{◌≡◌, ℕ, ◌+◌, ◌<◌, ◌⊎◌, ◌↔◌, Bool, true, false, List, Option, Some, slice_index}
use Rattle.std.specs.List.{Contains}
use Rattle.std.specs.Global.{Vec}
use Rattle.std.specs.Int.{bit_at}
use Rattle.ospf_spf.specs.declared.graph.Hop.{Hop}
use Rattle.ospf_spf.specs.Search.{Walks, Onward}

-- whether the mask of a vertex has a port
abbrev pub HasPort : List ℕ → ℕ → ℕ → Type 0
HasPort masks w q = bit_at (slice_index masks w) q ≡ 1

-- a hop from a vertex gives the port q: at the root by its own data, else by the ports of the vertex
abbrev pub Carries : Bool → ℕ → ℕ → ℕ → Type 0
Carries true ports port q = port ≡ q + 1
Carries false ports port q = bit_at ports q ≡ 1

-- the ports that a row adds, from a vertex at a cost
abbrev pub Adds : List Hop → ℕ → Bool → ℕ → (ℕ → Option ℕ) → ℕ → ℕ → Type 0
Adds rs cost at_root ports L w q = (h : Hop) × Contains rs h × (h.to ≡ w) × (L w ≡ Some (cost + h.metric)) × Carries at_root ports h.port q

abbrev pub ArePassedOn : List Hop → ℕ → Bool → ℕ → (ℕ → Option ℕ) → List ℕ → List ℕ → Type 0
ArePassedOn rs cost at_root ports L old new = (w q : ℕ) → q < 16 → HasPort new w q ↔ (HasPort old w q ⊎ Adds rs cost at_root ports L w q)

-- some least walk to w begins with the port q
abbrev pub IsVia : List (Vec Hop) → ℕ → (ℕ → Option ℕ) → ℕ → ℕ → Type 0
IsVia H root L w q = (k : ℕ) × (c : ℕ) × (L w ≡ Some c) × Walks H root k w c (Some (q + 1))

-- such a walk, whose last hop is from one of the first i vertices of the order
abbrev pub IsViaFrom : List (Vec Hop) → ℕ → (ℕ → Option ℕ) → List ℕ → ℕ → ℕ → ℕ → Type 0
IsViaFrom H root L order i w q = (j : ℕ) × (k : ℕ) × (c : ℕ) × (o : Onward (Walks H root k) H w c (Some (q + 1))) × (j < i) × (L w ≡ Some c) × (o.at ≡ slice_index order j)

-- the masks of the vertices are the ports of their least walks
abbrev pub AreVia : List (Vec Hop) → ℕ → (ℕ → Option ℕ) → List ℕ → Type 0
AreVia H root L masks = (w q : ℕ) → q < 16 → HasPort masks w q ↔ IsVia H root L w q

-- the same of the walks whose last hop is from one of the first i vertices
abbrev pub AreViaFrom : List (Vec Hop) → ℕ → (ℕ → Option ℕ) → List ℕ → ℕ → List ℕ → Type 0
AreViaFrom H root L order i masks = (w q : ℕ) → q < 16 → HasPort masks w q ↔ IsViaFrom H root L order i w q
