-- The best offers are the routes.
use Rattle.std.proofs.Common.{◌≡◌, ℕ, ◌+◌, ◌<◌, ◌≤◌, ◌≢◌, ◌↔◌, true, eqb, Option, Some, None, List, [], ◌∷◌, refl, sym, ap, ◌∙◌, subst, arith, length, get_or}
use Rattle.std.specs.List.{Contains}
use Rattle.std.specs.Int.{bit_at}
use Rattle.std.specs.Global.{Vec}
use Rattle.std.proofs.lemmas.Bool.{eqb-true, eq-eqb}
use Rattle.ospf_wire.specs.declared.router_lsa.RouterLink.{RouterLink}
use Rattle.ospf_spf.specs.declared.graph.Vertex.{Vertex}
use Rattle.ospf_spf.specs.declared.graph.Hop.{Hop}
use Rattle.ospf_spf.specs.declared.route.Route.{Route}
use Rattle.ospf_spf.specs.Graph.{HasLink, AreInOrder}
use Rattle.ospf_spf.specs.Walks.{Edge, IsWalk, walk_cost}
use Rattle.ospf_spf.specs.Stubs.{IsStub}
use Rattle.ospf_spf.specs.Routes.{Gives, AreRoutes}
use Rattle.ospf_spf.specs.Search.{Walks, IsLeast}
use Rattle.ospf_spf.specs.Ports.{HasPort, AreVia}
use Rattle.ospf_spf.specs.Hops.{ids_of, AreRising, AreHopsOf}
use Rattle.ospf_spf.specs.Offers.{IsSame, IsMerged, AreGathered, links_at, IsOffered, AreOffered}
use Rattle.ospf_spf.proofs.Hopping.{rising_ids, rising_unique, ids_length}
use Rattle.ospf_spf.proofs.Passing.{at_start}
use Rattle.ospf_spf.proofs.Translating.{first_data, first_after, known_at, place_of, are_hops, walk_out, walk_in}

none_in : {X : Type 0} (x : X) → Contains [] x → ⊥
none_in x i = let k : i.0 < 0 = i.1 in omega arith

pub rising_of : (g : List Vertex) → AreInOrder g → AreRising (ids_of g)
rising_of [] o = λ i j ij jl. absurd (let k : j < 0 = jl in omega arith)
rising_of (v ∷ vs) o = rising_ids (v ∷ vs) (v) o

-- the first edge of a walk whose first data is known
first_edge : (es : List Edge) (d : ℕ) → first_data es ≡ Some d → (e : Edge) × (fs : List Edge) × (es ≡ e ∷ fs) × (e.link.data ≡ d)
first_edge [] d h = absurd (let z : None ≡ Some d = h in cc)
first_edge (e ∷ es) d h = (e, es, refl, (let z : Some e.link.data ≡ Some d = h in let y : e.link.data ≡ d = cc in y))

first_none : (es : List Edge) → first_after None es ≡ first_data es
first_none [] = refl
first_none (e ∷ es) = refl

-- a walk that gives a prefix, by places
pub record GivesAt (g : List Vertex) (H : List (Vec Hop)) (root : ℕ) (f : Option ℕ) (prefix len cost : ℕ) : Type 0 where
  pub at : ℕ
  pub hops : ℕ
  pub before : ℕ
  pub link : RouterLink
  pub walk : Walks H root hops at before f
  pub inside : at < length g
  pub there : Contains (links_at g at) link
  pub stub : IsStub link prefix len
  pub total : before + link.metric ≡ cost

module _ (g : List Vertex) (H : List (Vec Hop)) (root : ℕ) (order_of : AreInOrder g) (a : AreHopsOf g H) (rl : root < length g) where
  root_id : ℕ
  root_id = get_or (ids_of g) root 0

  gives_in : (es : List Edge) (prefix len cost : ℕ) → Gives g (get_or (ids_of g) root 0) es prefix len cost → GivesAt g H root (first_data es) prefix len cost
  gives_in es prefix len cost x =
      let w = walk_in g H a root (rising_of g order_of) es 0 root 0 x.end None (refl, refl, refl) rl x.walk in
      let p = place_of g x.end x.stub x.there in
      let up = rising_of g order_of in
      let il = ids_length g in
      let pl : p.0 < length (ids_of g) = (let z : p.0 < length g = p.1 in omega arith) in
      let wl : w.1 < length (ids_of g) = (let z : w.1 < length g = w.2 in omega arith) in
      let same : p.0 ≡ w.1 = rising_unique 0 (ids_of g) a.ways p.0 w.1 up pl wl (p.2 ∙ sym w.3) in
      let c : 0 + walk_cost es ≡ walk_cost es = omega arith in
      record {
        at = w.1;
        hops = w.0;
        before = walk_cost es;
        link = x.stub;
        walk = subst (λ (y : ℕ). Walks H root w.0 w.1 y (first_data es)) c (subst (λ (y : Option ℕ). Walks H root w.0 w.1 (0 + walk_cost es) y) (first_none es) w.4);
        inside = w.2;
        there = subst (λ (y : ℕ). Contains (links_at g y) x.stub) same p.3;
        stub = x.gives;
        total = x.total;
      }

  gives_out : (k v c : ℕ) (f : Option ℕ) (l : RouterLink) (prefix len cost : ℕ) → Walks H root k v c f → Contains (links_at g v) l → IsStub l prefix len → c + l.metric ≡ cost → (es : List Edge) × Gives g (get_or (ids_of g) root 0) es prefix len cost × (first_data es ≡ f)
  gives_out k v c f l prefix len cost w i s t =
      let r = walk_out g H a root k v c f w in
      let h = (known_at g v l i).1 in
      (r.0, record { end = get_or (ids_of g) v 0; walk = r.1; stub = l; there = h; gives = s; total = ap (λ x. x + l.metric) r.2 ∙ t }, r.3)

  module _ (L : ℕ → Option ℕ) (order : List ℕ) (masks : List ℕ) (os rs : List Route) (least : IsLeast H root L order (length H)) (via : AreVia H root L masks) (offered : AreOffered g root L masks (length g) os) (gathered : AreGathered os rs) where
    -- the offer of a stub link of a vertex that is reached
    offer_for : (v b : ℕ) (l : RouterLink) (prefix len : ℕ) → v < length g → L v ≡ Some b → Contains (links_at g v) l → IsStub l prefix len → Contains os (record { prefix = prefix; len = len; cost = b + l.metric; own = eqb v root; via = get_or masks v 0 })
    offer_for v b l prefix len vl lv i s =
        let r : Route = record { prefix = prefix; len = len; cost = b + l.metric; own = eqb v root; via = get_or masks v 0 } in
        (offered r).1 (record { at = v; cost = b; link = l; label = lv; there = i; offer = record { stub = s; price = refl; mine = refl; ports = refl } }, vl)

    cheapest : (r : Route) → IsMerged os r → (es : List Edge) (c : ℕ) → Gives g (get_or (ids_of g) root 0) es r.prefix r.len c → r.cost ≤ c
    cheapest r m es c x =
        let y = gives_in es r.prefix r.len c x in
        let p = least.least y.hops y.at y.before (first_data es) y.walk in
        let o = offer_for y.at p.0 y.link r.prefix r.len y.inside p.1 y.there y.stub in
        let l = m.least (record { prefix = r.prefix; len = r.len; cost = p.0 + y.link.metric; own = eqb y.at root; via = get_or masks y.at 0 }) o (refl, refl) in
        let q : p.0 ≤ y.before = p.2 in
        let t = y.total in
        omega arith

    -- the walk that an offer of this cost stands for, with its first port
    walk_for : (r o : Route) (k c : ℕ) (f : Option ℕ) (x : IsOffered g root L masks o) → IsSame o r → o.cost ≡ r.cost → L x.at ≡ Some c → Walks H root k x.at c f → (es : List Edge) × Gives g (get_or (ids_of g) root 0) es r.prefix r.len r.cost × (first_data es ≡ f)
    walk_for r o k c f x s e lab w =
        let z : Some x.cost ≡ Some c = sym x.label ∙ lab in
        let y : x.cost ≡ c = cc in
        let p = x.offer.price in
        let t : c + x.link.metric ≡ r.cost = omega arith in
        let st : IsStub x.link r.prefix r.len = subst (λ (q : ℕ). IsStub x.link r.prefix q) s.1 (subst (λ (q : ℕ). IsStub x.link q o.len) s.0 x.offer.stub) in
        gives_out k x.at c f x.link r.prefix r.len r.cost w x.there st t

    route_walk : (r : Route) → IsMerged os r → (es : List Edge) × Gives g (get_or (ids_of g) root 0) es r.prefix r.len r.cost
    route_walk r m =
        let o = m.cost.0 in
        let x = ((offered o).0 m.cost.1).0 in
        let w = least.walk x.at x.cost x.label in
        let y = walk_for r o w.0 x.cost w.1 x m.cost.2 m.cost.3 x.label w.2 in
        (y.0, y.1)

    route_own : (r : Route) → IsMerged os r → (r.own ≡ true) ↔ Gives g (get_or (ids_of g) root 0) [] r.prefix r.len r.cost
    route_own r m = (
      λ h.
          let p = m.own.0 h in
          let x = ((offered p.0).0 p.1).0 in
          let u : x.at ≡ root = eqb-true x.at root (sym x.offer.mine ∙ p.4) in
          let z = at_start H root L order (length H) least (are_hops g H a) x.cost (sym (ap L u) ∙ x.label) in
          let s = p.2 in
          let e : p.0.cost ≡ r.cost = p.3 in
          let c = x.offer.price in
          let i = (known_at g x.at x.link x.there).1 in
          record {
            end = get_or (ids_of g) root 0;
            walk = refl;
            stub = x.link;
            there = subst (λ (y : ℕ). HasLink g (get_or (ids_of g) y 0) x.link) u i;
            gives = subst (λ (q : ℕ). IsStub x.link r.prefix q) s.1 (subst (λ (q : ℕ). IsStub x.link q p.0.len) s.0 x.offer.stub);
            total = (let t : 0 + x.link.metric ≡ r.cost = omega arith in t);
          },
      λ y.
          let p = place_of g y.end y.stub y.there in
          let il = ids_length g in
          let pl : p.0 < length (ids_of g) = (let z : p.0 < length g = p.1 in omega arith) in
          let ol : root < length (ids_of g) = omega arith in
          let same : p.0 ≡ root = rising_unique 0 (ids_of g) a.ways p.0 root (rising_of g order_of) pl ol (p.2 ∙ sym y.walk) in
          let there : Contains (links_at g root) y.stub = subst (λ (k : ℕ). Contains (links_at g k) y.stub) same p.3 in
          let st = least.least 0 root 0 None (refl, refl, refl) in
          let z = at_start H root L order (length H) least (are_hops g H a) st.0 st.1 in
          let lab : L root ≡ Some 0 = st.1 ∙ ap (λ k. Some k) z in
          let o = offer_for root 0 y.stub r.prefix r.len rl lab there y.gives in
          m.own.1 (record { prefix = r.prefix; len = r.len; cost = 0 + y.stub.metric; own = eqb root root; via = get_or masks root 0 }, o, (refl, refl), y.total, eq-eqb root root refl),
    )

    route_via : (r : Route) → IsMerged os r → (q : ℕ) → q < 16 → (bit_at r.via q ≡ 1) ↔ ((e : Edge) × (es : List Edge) × Gives g (get_or (ids_of g) root 0) (e ∷ es) r.prefix r.len r.cost × (e.link.data ≡ q + 1))
    route_via r m q ql = (
      λ h.
          let p = (m.via q ql).0 h in
          let x = ((offered p.0).0 p.1).0 in
          let b : HasPort masks x.at q = ap (λ k. bit_at k q) (sym x.offer.ports) ∙ p.4 in
          let v = (via x.at q ql).0 b in
          let y = walk_for r p.0 v.0 v.1 (Some (q + 1)) x p.2 p.3 v.2 v.3 in
          let f = first_edge y.0 (q + 1) y.2 in
          (f.0, f.1, subst (λ (es : List Edge). Gives g (get_or (ids_of g) root 0) es r.prefix r.len r.cost) f.2 y.1, f.3),
      λ y.
          let x = gives_in (y.0 ∷ y.1) r.prefix r.len r.cost y.2 in
          let p = least.least x.hops x.at x.before (Some y.0.link.data) x.walk in
          let o : Route = record { prefix = r.prefix; len = r.len; cost = p.0 + x.link.metric; own = eqb x.at root; via = get_or masks x.at 0 } in
          let i = offer_for x.at p.0 x.link r.prefix r.len x.inside p.1 x.there x.stub in
          let l = m.least o i (refl, refl) in
          let t = x.total in
          let pl : p.0 ≤ x.before = p.2 in
          let e : p.0 ≡ x.before = omega arith in
          let c : p.0 + x.link.metric ≡ r.cost = omega arith in
          let w : Walks H root x.hops x.at x.before (Some (q + 1)) = subst (λ (d : ℕ). Walks H root x.hops x.at x.before (Some d)) y.3 x.walk in
          let b : HasPort masks x.at q = (via x.at q ql).1 (x.hops, x.before, p.1 ∙ ap (λ k. Some k) e, w) in
          (m.via q ql).1 (o, i, (refl, refl), c, b),
    )

    pub answer : AreRoutes g (get_or (ids_of g) root 0) rs
    answer = record {
      each = λ k d l.
          let m = gathered.each k d l in
          let r = get_or rs k d in
          record { walk = route_walk r m; least = cheapest r m; own = route_own r m; via = route_via r m };
      all = λ es prefix len cost x.
          let y = gives_in es prefix len cost x in
          let p = least.least y.hops y.at y.before (first_data es) y.walk in
          let o = offer_for y.at p.0 y.link prefix len y.inside p.1 y.there y.stub in
          let s = gathered.all (record { prefix = prefix; len = len; cost = p.0 + y.link.metric; own = eqb y.at root; via = get_or masks y.at 0 }) o in
          (s.0, s.1, sym s.2.0, sym s.2.1);
      order = gathered.order;
    }

-- a root that is no vertex
no_link : (g : List Vertex) (root : ℕ) (l : RouterLink) → ((i : ℕ) → i < length (ids_of g) → get_or (ids_of g) i 0 ≢ root) → HasLink g root l → ⊥
no_link g root l n h =
    let p = place_of g root l h in
    let il = ids_length g in
    let pl : p.0 < length (ids_of g) = (let z : p.0 < length g = p.1 in omega arith) in
    n p.0 pl p.2

pub no_routes : (g : List Vertex) (root : ℕ) → ((i : ℕ) → i < length (ids_of g) → get_or (ids_of g) i 0 ≢ root) → AreRoutes g root []
no_routes g root n = record {
  each = λ k d l. absurd (let z : k < 0 = l in omega arith);
  all = λ es prefix len cost x. absurd (go es x.end x.walk x.stub x.there);
  order = λ i j d ij jl. absurd (let z : j < 0 = jl in omega arith);
} where
  go : (es : List Edge) (b : ℕ) → IsWalk g root es b → (l : RouterLink) → HasLink g b l → ⊥
  go [] b w l h = no_link g root l n (subst (λ (x : ℕ). HasLink g x l) (sym w) h)
  go (e ∷ es) b w l h = no_link g root e.link n (subst (λ (x : ℕ). HasLink g x e.link) w.0 w.1.there)
