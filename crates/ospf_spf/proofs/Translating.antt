-- Walks by places and walks by ids.
use Rattle.std.proofs.Common.{◌≡◌, ℕ, zero, suc, ◌+◌, ◌<◌, ◌≤◌, Option, Some, None, List, [], ◌∷◌, ◌++◌, refl, sym, ap, ◌∙◌, subst, arith, length, get_or}
use Rattle.std.specs.List.{Contains, All}
use Rattle.std.specs.Option.{unwrap_or}
use Rattle.std.specs.Global.{Vec}
use Rattle.std.specs.BTreeSet.{BTreeSet}
use Rattle.std.proofs.lemmas.List.Elements.{All-contains}
use Rattle.ospf_wire.specs.declared.router_lsa.RouterLink.{RouterLink}
use Rattle.ospf_spf.specs.declared.graph.Vertex.{Vertex}
use Rattle.ospf_spf.specs.declared.graph.Hop.{Hop}
use Rattle.ospf_spf.specs.Graph.{HasLink}
use Rattle.ospf_spf.specs.Walks.{LeadsTo, Edge, IsEdge, IsWalk, walk_cost}
use Rattle.ospf_spf.specs.Search.{row, Walks, AreHops}
use Rattle.ospf_spf.specs.Hops.{ids_of, AreRising, IsHopOf, AreRow, AreRows, AreHopsOf}
use Rattle.ospf_spf.specs.Offers.{links_at}
use Rattle.ospf_spf.proofs.Hopping.{ids_length, rising_unique}

-- the data of the first edge
abbrev pub first_data : List Edge → Option ℕ
first_data [] = None
first_data (e ∷ es) = Some e.link.data

-- that of a walk that goes on
abbrev pub first_after : Option ℕ → List Edge → Option ℕ
first_after f [] = f
first_after f (e ∷ es) = Some (unwrap_or f e.link.data)

none_in : {X : Type 0} (x : X) → Contains [] x → ⊥
none_in x i = let k : i.0 < 0 = i.1 in omega arith

-- the router at a place has its links
pub known_at : (g : List Vertex) (u : ℕ) (l : RouterLink) → Contains (links_at g u) l → (u < length g) × HasLink g (get_or (ids_of g) u 0) l
known_at [] u l i = absurd (none_in l i)
known_at (v ∷ vs) zero l i = (omega arith, record { vertex = v; known = (0, omega arith, refl); id = refl; link = i })
known_at (v ∷ vs) (suc u) l i =
    let p = known_at vs u l i in
    let a : u < length vs = p.0 in
    let k = p.1.known in
    let kl : k.0 < length vs = k.1 in
    (omega arith, record { vertex = p.1.vertex; known = (suc k.0, omega arith, k.2); id = p.1.id; link = p.1.link })

-- a router that has a link stands at a place
pub place_of : (g : List Vertex) (a : ℕ) (l : RouterLink) → HasLink g a l → (u : ℕ) × (u < length g) × (get_or (ids_of g) u 0 ≡ a) × Contains (links_at g u) l
place_of g a l h =
    let p = at g h.vertex h.known.0 h.known.1 h.known.2 in
    let k : h.known.0 < length g = h.known.1 in
    (h.known.0, (let z : h.known.0 < length g = omega arith in z), p.0 ∙ h.id, subst (λ (x : List RouterLink). Contains x l) (sym p.1) h.link)
  where
    at : (vs : List Vertex) (v : Vertex) (k : ℕ) → k < length vs → get_or vs k v ≡ v → (get_or (ids_of vs) k 0 ≡ v.id) × (links_at vs k ≡ v.links)
    at [] v k l e = absurd (omega arith)
    at (w ∷ vs) v zero l e = (ap (λ (x : Vertex). x.id) e, ap (λ (x : Vertex). x.links) e)
    at (w ∷ vs) v (suc k) l e = at vs v k (let z : k < length vs = omega arith in z) e

-- the row at a place is that of the router there
row_at : (ids : List ℕ) (s : BTreeSet (ℕ × ℕ)) (vs : List Vertex) (H : List (Vec Hop)) (u : ℕ) → AreRows ids s vs H → u < length vs → AreRow (get_or (ids_of vs) u 0) ids s (links_at vs u) (row H u) × All (λ (h : Hop). h.metric ≤ 65535) (row H u)
row_at ids s [] H u z l = absurd (omega arith)
row_at ids s (v ∷ vs) [] u z l = absurd z
row_at ids s (v ∷ vs) (r ∷ H) zero z l = z.0
row_at ids s (v ∷ vs) (r ∷ H) (suc u) z l = row_at ids s vs H u z.1 (let k : u < length vs = omega arith in k)

row_out : (ids : List ℕ) (s : BTreeSet (ℕ × ℕ)) (vs : List Vertex) (H : List (Vec Hop)) (u : ℕ) (h : Hop) → AreRows ids s vs H → Contains (row H u) h → u < length vs
row_out ids s [] [] u h z i = absurd (none_in h i)
row_out ids s [] (r ∷ H) u h z i = absurd z
row_out ids s (v ∷ vs) [] u h z i = absurd z
row_out ids s (v ∷ vs) (r ∷ H) zero h z i = omega arith
row_out ids s (v ∷ vs) (r ∷ H) (suc u) h z i = let k = row_out ids s vs H u h z.1 i in omega arith

rows_length : (ids : List ℕ) (s : BTreeSet (ℕ × ℕ)) (vs : List Vertex) (H : List (Vec Hop)) → AreRows ids s vs H → length H ≡ length vs
rows_length ids s [] [] z = refl
rows_length ids s [] (r ∷ H) z = absurd z
rows_length ids s (v ∷ vs) [] z = absurd z
rows_length ids s (v ∷ vs) (r ∷ H) z = let k = rows_length ids s vs H z.1 in omega arith

-- one more edge
walk_push : (g : List Vertex) (a b : ℕ) (es : List Edge) (e : Edge) → IsWalk g a es b → IsEdge g e → e.from ≡ b → IsWalk g a (es ++ e ∷ []) e.link.id
walk_push g a b [] e w k f = (f ∙ sym w, k, refl)
walk_push g a b (d ∷ es) e w k f = (w.0, w.1, walk_push g d.link.id b es e w.2 k f)

cost_push : (es : List Edge) (e : Edge) → walk_cost (es ++ e ∷ []) ≡ walk_cost es + e.link.metric
cost_push [] e = omega arith
cost_push (d ∷ es) e = let k = cost_push es e in omega arith

first_push : (es : List Edge) (e : Edge) → first_data (es ++ e ∷ []) ≡ Some (unwrap_or (first_data es) e.link.data)
first_push [] e = refl
first_push (d ∷ es) e = refl

module _ (g : List Vertex) (H : List (Vec Hop)) (a : AreHopsOf g H) where
  pub hops_length : length H ≡ length g
  hops_length = rows_length (ids_of g) a.ways g H a.rows

  -- what a hop is
  hop_is : (u : ℕ) (h : Hop) → Contains (row H u) h → (l : RouterLink) × (u < length g) × Contains (links_at g u) l × IsHopOf (get_or (ids_of g) u 0) (ids_of g) a.ways h l × (h.metric ≤ 65535)
  hop_is u h i =
      let k = row_out (ids_of g) a.ways g H u h a.rows i in
      let r = row_at (ids_of g) a.ways g H u a.rows k in
      let p = (r.0 h).0 i in
      (p.0, k, p.1, p.2, All-contains (λ (x : Hop). x.metric ≤ 65535) (row H u) h r.1 i)

  pub are_hops : AreHops H (length H)
  are_hops u h i =
      let p = hop_is u h i in
      let l = ids_length g in
      let n = hops_length in
      let t = p.3.within in
      let m = p.3.metric in
      let k = p.3.leads.metric in
      (omega arith, omega arith, p.4)

  module _ (root : ℕ) where
    -- a walk by places is one by ids
    pub walk_out : (k v c : ℕ) (f : Option ℕ) → Walks H root k v c f → (es : List Edge) × IsWalk g (get_or (ids_of g) root 0) es (get_or (ids_of g) v 0) × (walk_cost es ≡ c) × (first_data es ≡ f)
    walk_out zero v c f w = ([], ap (λ x. get_or (ids_of g) x 0) (sym w.0), sym w.1, sym w.2)
    walk_out (suc k) v c f w =
        let r = walk_out k w.at w.before w.first w.walk in
        let p = hop_is w.at w.hop w.there in
        let l = p.0 in
        let there = (known_at g w.at l p.2).1 in
        let e : Edge = record { from = get_or (ids_of g) w.at 0; link = l } in
        let back = (a.are l.id (get_or (ids_of g) w.at 0)).0 p.3.back in
        let edge : IsEdge g e = record { there = there; leads = p.3.leads; back = back } in
        let m : w.hop.metric ≡ l.metric = p.3.metric in
        let cost : walk_cost (r.0 ++ e ∷ []) ≡ c = (let x = cost_push r.0 e in let y = r.2 in let z = w.cost in omega arith) in
        let end : l.id ≡ get_or (ids_of g) v 0 = sym p.3.to ∙ ap (λ x. get_or (ids_of g) x 0) w.to in
        let first : first_data (r.0 ++ e ∷ []) ≡ f =
        first_push r.0 e ∙ ap (λ x. Some (unwrap_or x l.data)) r.3 ∙ ap (λ x. Some (unwrap_or w.first x)) (sym p.3.port) ∙ sym w.port in
        (r.0 ++ e ∷ [], subst (λ (x : ℕ). IsWalk g (get_or (ids_of g) root 0) (r.0 ++ e ∷ []) x) end (walk_push g (get_or (ids_of g) root 0) (get_or (ids_of g) w.at 0) r.0 e r.1 edge refl), cost, first)

    -- a walk by ids that goes on from a place is one by places
    pub walk_in : AreRising (ids_of g) → (es : List Edge) (k u c b : ℕ) (f : Option ℕ) → Walks H root k u c f → u < length g → IsWalk g (get_or (ids_of g) u 0) es b → (j : ℕ) × (v : ℕ) × (v < length g) × (get_or (ids_of g) v 0 ≡ b) × Walks H root j v (c + walk_cost es) (first_after f es)
    walk_in up [] k u c b f w ul x = (k, u, ul, x, subst (λ (y : ℕ). Walks H root k u y f) (let z : c ≡ c + 0 = omega arith in z) w)
    walk_in up (e ∷ es) k u c b f w ul x =
        let l = e.link in
        let idl = ids_length g in
        let p = place_of g e.from l x.1.there in
        let pl : p.0 < length (ids_of g) = (let z : p.0 < length g = p.1 in omega arith) in
        let uil : u < length (ids_of g) = omega arith in
        let pu : p.0 ≡ u = rising_unique 0 (ids_of g) a.ways p.0 u up pl uil (p.2 ∙ x.0) in
        let there : Contains (links_at g u) l = subst (λ (y : ℕ). Contains (links_at g y) l) pu p.3 in
        let back = x.1.back in
        let t = place_of g l.id back.0 back.1 in
        let h : Hop = record { to = t.0; port = l.data; metric = l.metric } in
        let way = (a.are l.id (get_or (ids_of g) u 0)).1 (back.0, back.1, subst (λ (y : ℕ). LeadsTo back.0 y) x.0 back.2) in
        let tl : t.0 < length (ids_of g) = (let z : t.0 < length g = t.1 in omega arith) in
        let is : IsHopOf (get_or (ids_of g) u 0) (ids_of g) a.ways h l = record { leads = x.1.leads; back = way; within = tl; to = t.2; port = refl; metric = refl } in
        let i : Contains (row H u) h = ((row_at (ids_of g) a.ways g H u a.rows ul).0 h).1 (l, there, is) in
        let o : Walks H root (suc k) t.0 (c + l.metric) (Some (unwrap_or f l.data)) = record { at = u; before = c; first = f; hop = h; walk = w; there = i; to = refl; cost = refl; port = refl } in
        let r = walk_in up es (suc k) t.0 (c + l.metric) b (Some (unwrap_or f l.data)) o t.1 (subst (λ (y : ℕ). IsWalk g y es b) (sym t.2) x.2) in
        let q : c + l.metric + walk_cost es ≡ c + (l.metric + walk_cost es) = omega arith in
        (r.0, r.1, r.2, r.3, subst (λ (y : ℕ). Walks H root r.0 r.1 y (Some (unwrap_or f l.data))) q (subst (λ (y : Option ℕ). Walks H root r.0 r.1 (c + l.metric + walk_cost es) y) (after_some (unwrap_or f l.data) es) r.4))
      where
        after_some : (d : ℕ) (es : List Edge) → first_after (Some d) es ≡ Some d
        after_some d [] = refl
        after_some d (e ∷ es) = refl
