-- Words for the search of least costs.
use Rattle.std.specs.Prelude.{◌≡◌, ℕ, zero, suc, ◌+◌, ◌*◌, ◌<◌, ◌≤◌, ◌⊎◌, Bool, true, false, cond, List, [], ◌∷◌, length, min, Option, Some, None, slice_index_or}
use Rattle.std.specs.Option.{unwrap_or}
use Rattle.std.specs.Global.{Vec}
use Rattle.std.specs.List.{Contains}
use Rattle.std.specs.Ordering.{nat_cmp, ordering_then}
use Rattle.std.specs.declared.cmp.Ordering.{Ordering}
use Rattle.std.specs.BTreeSet.{BTreeSet, contains}
use Rattle.ospf_spf.specs.declared.graph.Hop.{Hop}

-- the cost at a place, if there is one
abbrev pub label : List (Option ℕ) → ℕ → Option ℕ
label xs v = slice_index_or xs v None

abbrev pub flag : List Bool → ℕ → Bool
flag xs v = slice_index_or xs v false

-- a cost where there was a cost or none
abbrev pub lesser_cost : Option ℕ → ℕ → ℕ
lesser_cost None n = n
lesser_cost (Some o) n = min o n

-- by the cost, and then by the vertex
abbrev pub pair_cmp : ℕ × ℕ → ℕ × ℕ → Ordering
pair_cmp x y = ordering_then (nat_cmp x.0 y.0) (nat_cmp x.1 y.1)

-- whether the set has a vertex at a cost
abbrev pub inside : BTreeSet (ℕ × ℕ) → ℕ → ℕ → Bool
inside s c v = contains pair_cmp s (c, v)

-- what waits is exactly what has a cost and is not settled
pub record IsExact (L : ℕ → Option ℕ) (D : ℕ → Bool) (F : ℕ → ℕ → Bool) : Type 0 where
  pub todo : (c v : ℕ) → F c v ≡ true → D v ≡ false
  pub cost : (c v : ℕ) → F c v ≡ true → L v ≡ Some c
  pub waits : (c v : ℕ) → D v ≡ false → L v ≡ Some c → F c v ≡ true

-- each settled vertex has a cost of at most n
abbrev pub AreSettled : (ℕ → Option ℕ) → (ℕ → Bool) → ℕ → Type 0
AreSettled L D n = (v : ℕ) → D v ≡ true → (c : ℕ) × (L v ≡ Some c) × (c ≤ n)

-- the costs L' come from L by the hops of a row, from a vertex at a cost
pub record Relaxed (row : List Hop) (cost : ℕ) (L M : ℕ → Option ℕ) : Type 0 where
  pub origin : (w c : ℕ) → M w ≡ Some c → (L w ≡ Some c) ⊎ ((h : Hop) × Contains row h × (h.to ≡ w) × (c ≡ cost + h.metric))
  pub lower_cost : (w c : ℕ) → L w ≡ Some c → (b : ℕ) × (M w ≡ Some b) × (b ≤ c)
  pub reach : (h : Hop) → Contains row h → (b : ℕ) × (M h.to ≡ Some b) × (b ≤ cost + h.metric)

-- the hops from a vertex
abbrev pub row : List (Vec Hop) → ℕ → List Hop
row [] v = []
row (r ∷ rs) zero = r.items
row (r ∷ rs) (suc v) = row rs v

-- one more hop, to v at the cost c with the first port f, after what P says
pub record Onward (P : ℕ → ℕ → Option ℕ → Type 0) (H : List (Vec Hop)) (v c : ℕ) (f : Option ℕ) : Type 0 where
  pub at : ℕ
  pub before : ℕ
  pub first : Option ℕ
  pub hop : Hop
  pub walk : P at before first
  pub there : Contains (row H at) hop
  pub to : hop.to ≡ v
  pub cost : c ≡ before + hop.metric
  pub port : f ≡ Some (unwrap_or first hop.port)

-- a walk of k hops from the root to v, of the cost c, whose first hop has the data f
abbrev pub Walks : List (Vec Hop) → ℕ → ℕ → ℕ → ℕ → Option ℕ → Type 0
Walks H root zero v c f = (v ≡ root) × (c ≡ 0) × (f ≡ None)
Walks H root (suc k) v c f = Onward (Walks H root k) H v c f

abbrev pub IsReached : List (Vec Hop) → ℕ → ℕ → ℕ → Type 0
IsReached H root v c = (k : ℕ) × (f : Option ℕ) × Walks H root k v c f

-- how many are true
abbrev pub marked : List Bool → ℕ
marked [] = 0
marked (b ∷ bs) = cond b 1 0 + marked bs

-- the search, where L has the costs, D says what is settled, and count vertices were settled, in this order
pub record IsSearch (H : List (Vec Hop)) (root : ℕ) (L : ℕ → Option ℕ) (D : ℕ → Bool) (order : List ℕ) (count n : ℕ) : Type 0 where
  pub walk : (v c : ℕ) → L v ≡ Some c → IsReached H root v c
  pub start : L root ≡ Some 0
  pub settled : (v : ℕ) → D v ≡ true → (c : ℕ) × (L v ≡ Some c) × (c + 65535 ≤ 65535 * n)
  pub below : (u v a b : ℕ) → D u ≡ true → D v ≡ false → L u ≡ Some a → L v ≡ Some b → a ≤ b
  pub small : (v c : ℕ) → L v ≡ Some c → c ≤ 65535 * count
  pub relaxed : (u c : ℕ) (h : Hop) → D u ≡ true → L u ≡ Some c → Contains (row H u) h → (b : ℕ) × (L h.to ≡ Some b) × (b ≤ c + h.metric)
  pub listed : (v : ℕ) → D v ≡ true → Contains order v
  pub only : (v : ℕ) → Contains order v → D v ≡ true
  pub rising : (i j a b : ℕ) → i < j → j < length order → L (slice_index_or order i 0) ≡ Some a → L (slice_index_or order j 0) ≡ Some b → a ≤ b

-- L has the least costs, and the order has all vertices that are reached, by their costs
pub record IsLeast (H : List (Vec Hop)) (root : ℕ) (L : ℕ → Option ℕ) (order : List ℕ) (n : ℕ) : Type 0 where
  pub walk : (v c : ℕ) → L v ≡ Some c → IsReached H root v c
  pub least : (k v c : ℕ) (f : Option ℕ) → Walks H root k v c f → (b : ℕ) × (L v ≡ Some b) × (b ≤ c)
  pub small : (v c : ℕ) → L v ≡ Some c → c + 65535 ≤ 65535 * n
  pub listed : (v c : ℕ) → L v ≡ Some c → Contains order v
  pub only : (v : ℕ) → Contains order v → (c : ℕ) × (L v ≡ Some c)
  pub rising : (i j a b : ℕ) → i < j → j < length order → L (slice_index_or order i 0) ≡ Some a → L (slice_index_or order j 0) ≡ Some b → a ≤ b

-- each hop leads to one of n vertices, at a metric that a packet can have
abbrev pub AreHops : List (Vec Hop) → ℕ → Type 0
AreHops H n = (v : ℕ) (h : Hop) → Contains (row H v) h → (h.to < n) × (0 < h.metric) × (h.metric ≤ 65535)
