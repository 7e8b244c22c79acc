-- The table as a function is the table.
use Rattle.std.proofs.Common.{◌≡◌, ℕ, zero, suc, ◌+◌, ◌*◌, ◌^◌, ◌<◌, ◌≤◌, ◌⊎◌, ◌↔◌, ◌/◌, ◌==◌, ◌&&◌, cond, Bool, true, false, Option, Some, None, List, [], ◌∷◌, ◌++◌, refl, sym, ap, ◌∙◌, subst, inl, inr, arith, length, get_or}
use Rattle.std.specs.Prelude.{nat_lt, nat_le, bit_and, option_map}
use Rattle.std.specs.List.{Contains, All, list_any, cons_option}
use Rattle.std.specs.Int.{bit_at}
use Rattle.std.proofs.lemmas.Bool.{and_parts, and_from, or_cases, or_left, or_right, eqb-true, eq-eqb, ltb-true, lt-ltb, leb-true, le-leb, cases_Bool, cases_lt}
use Rattle.std.proofs.lemmas.List.Folds.{list_any_at}
use Rattle.std.proofs.lemmas.List.Elements.{All-contains, Contains-append_left, Contains-append_right, Contains-append_cases, Contains-get_or}
use Rattle.std.proofs.lemmas.Nat.Bits.{bit_at_lowest, bit_at-suc}
use Rattle.ospf_wire.specs.declared.router_lsa.RouterLink.{RouterLink}
use Rattle.ospf_spf.specs.declared.graph.Vertex.{Vertex}
use Rattle.ospf_spf.specs.declared.route.Route.{Route}
use Rattle.ospf_spf.specs.Graph.{HasLink}
use Rattle.ospf_spf.specs.Walks.{Edge, IsEdge, IsWalk, LeadsTo, walk_cost}
use Rattle.dn_net.specs.Networks.{mask_of}
use Rattle.ospf_spf.specs.Stubs.{IsStub}
use Rattle.ospf_spf.specs.Routes.{Gives, IsRoute, AreRoutes, IsBefore, AreAscending}
use Rattle.ospf_spf.specs.Table.{IsWide, any_link, any_walk, begins_at, edge, is_given, is_start, is_stub, leads, least_from, ports_from, route_at, route_to, routes_of_prefix, routes_from, table_of}
use Rattle.ospf_spf.proofs.Unique.{one_list, in_tail, tail_in}

-- ---- tests over lists

found : {X : Type 0} (test : X → Bool) (xs : List X) → list_any test xs ≡ true → (x : X) × Contains xs x × (test x ≡ true)
found test [] h = absurd cc
found test (x ∷ xs) h = elim (or_cases (test x) (list_any test xs) h) [
  | inl here ↦ (x, (0, omega arith, refl), here)
  | inr later ↦ (let more = found test xs later in let i = more.1 in let lt : suc i.0 < length (x ∷ xs) = (let l : i.0 < length xs = i.1 in omega arith) in (more.0, (suc i.0, lt, i.2), more.2))
]

there : {X : Type 0} (test : X → Bool) (xs : List X) (x : X) → Contains xs x → test x ≡ true → list_any test xs ≡ true
there test xs x i passes = list_any_at test xs i.0 x i.1 (ap test i.2 ∙ passes)

-- ---- links

link_found : (g : List Vertex) (u : ℕ) (test : RouterLink → Bool) → any_link g u test ≡ true → (l : RouterLink) × HasLink g u l × (test l ≡ true)
link_found g u test h =
    let v = found (λ (v : Vertex). v.id == u && list_any test v.links) g h in
    let both = and_parts (v.0.id == u) (list_any test v.0.links) v.2 in
    let l = found test v.0.links both.1 in
    (l.0, record { vertex = v.0; known = v.1; id = eqb-true v.0.id u both.0; link = l.1 }, l.2)

link_there : (g : List Vertex) (u : ℕ) (test : RouterLink → Bool) (l : RouterLink) → HasLink g u l → test l ≡ true → any_link g u test ≡ true
link_there g u test l has passes =
    there (λ (v : Vertex). v.id == u && list_any test v.links) g has.vertex has.known
    (and_from (has.vertex.id == u) (list_any test has.vertex.links) (eq-eqb has.vertex.id u has.id) (there test has.vertex.links l has.link passes))

leads_found : (l : RouterLink) (v : ℕ) → leads l v ≡ true → LeadsTo l v
leads_found l v h =
    let one = and_parts (l.kind == 1) (nat_lt 0 l.metric && l.id == v) h in
    let two = and_parts (nat_lt 0 l.metric) (l.id == v) one.1 in
    record { kind = eqb-true l.kind 1 one.0; metric = ltb-true 0 l.metric two.0; to = eqb-true l.id v two.1 }

leads_there : (l : RouterLink) (v : ℕ) → LeadsTo l v → leads l v ≡ true
leads_there l v to =
    and_from (l.kind == 1) (nat_lt 0 l.metric && l.id == v) (eq-eqb l.kind 1 to.kind)
    (and_from (nat_lt 0 l.metric) (l.id == v) (lt-ltb 0 l.metric to.metric) (eq-eqb l.id v to.to))

stub_found : (l : RouterLink) (p n : ℕ) → is_stub l p n ≡ true → IsStub l p n
stub_found l p n h =
    let one = and_parts (l.kind == 3) (nat_le n 32 && (l.data == mask_of n && bit_and l.id l.data == p)) h in
    let two = and_parts (nat_le n 32) (l.data == mask_of n && bit_and l.id l.data == p) one.1 in
    let three = and_parts (l.data == mask_of n) (bit_and l.id l.data == p) two.1 in
    record { kind = eqb-true l.kind 3 one.0; within = leb-true n 32 two.0; mask = eqb-true l.data (mask_of n) three.0; address = eqb-true (bit_and l.id l.data) p three.1 }

stub_there : (l : RouterLink) (p n : ℕ) → IsStub l p n → is_stub l p n ≡ true
stub_there l p n s =
    and_from (l.kind == 3) (nat_le n 32 && (l.data == mask_of n && bit_and l.id l.data == p)) (eq-eqb l.kind 3 s.kind)
    (and_from (nat_le n 32) (l.data == mask_of n && bit_and l.id l.data == p) (le-leb n 32 s.within)
    (and_from (l.data == mask_of n) (bit_and l.id l.data == p) (eq-eqb l.data (mask_of n) s.mask) (eq-eqb (bit_and l.id l.data) p s.address)))

-- ---- walks

walk_found : (g : List Vertex) (n a : ℕ) (test : List Edge → ℕ → Bool) → any_walk g n a test ≡ true → (es : List Edge) × (b : ℕ) × IsWalk g a es b × (test es b ≡ true)
walk_found g zero a test h = ([], a, refl, h)
walk_found g (suc n) a test h =
    let on : RouterLink → Bool = λ l. any_walk g n l.id (λ es b. test (edge a l ∷ es) b) in
    let step : RouterLink → Bool = λ l. leads l l.id && (any_link g l.id (λ b. leads b a) && on l) in
    elim (or_cases (test [] a) (any_link g a step) h) [
      | inl here ↦ ([], a, refl, here)
      | inr more ↦
          (let l = link_found g a step more in
          let one = and_parts (leads l.0 l.0.id) (any_link g l.0.id (λ b. leads b a) && on l.0) l.2 in
          let two = and_parts (any_link g l.0.id (λ b. leads b a)) (on l.0) one.1 in
          let back = link_found g l.0.id (λ b. leads b a) two.0 in
          let rest = walk_found g n l.0.id (λ es b. test (edge a l.0 ∷ es) b) two.1 in
          let is : IsEdge g (edge a l.0) = record { there = l.1; leads = leads_found l.0 l.0.id one.0; back = (back.0, back.1, leads_found back.0 a back.2) } in
          (edge a l.0 ∷ rest.0, rest.1, (refl, is, rest.2), rest.3))
    ]

edge_is : (e : Edge) (a : ℕ) → e.from ≡ a → edge a e.link ≡ e
edge_is e a is = λ i. record { from = (sym is) i; link = e.link }

walk_there : (g : List Vertex) (n a : ℕ) (es : List Edge) (b : ℕ) (test : List Edge → ℕ → Bool) → IsWalk g a es b → length es ≤ n → test es b ≡ true → any_walk g n a test ≡ true
walk_there g zero a [] b test walk few passes = ap (test []) walk ∙ passes
walk_there g zero a (e ∷ es) b test walk few passes = absurd (omega arith)
walk_there g (suc n) a [] b test walk few passes =
    or_left (test [] a) _ (ap (test []) walk ∙ passes)
walk_there g (suc n) a (e ∷ es) b test walk few passes =
    let l = e.link in
    let from : e.from ≡ a = walk.0 in
    let is = walk.1 in
    let on : RouterLink → Bool = λ x. any_walk g n x.id (λ fs c. test (edge a x ∷ fs) c) in
    let step : RouterLink → Bool = λ x. leads x x.id && (any_link g x.id (λ y. leads y a) && on x) in
    let here : HasLink g a l = subst (λ (u : ℕ). HasLink g u l) from is.there in
    let few' : length es ≤ n = omega arith in
    let same : test (edge a l ∷ es) b ≡ true = ap (λ (x : Edge). test (x ∷ es) b) (edge_is e a from) ∙ passes in
    let rest : on l ≡ true = walk_there g n l.id es b (λ fs c. test (edge a l ∷ fs) c) walk.2 few' same in
    let back : any_link g l.id (λ y. leads y a) ≡ true = link_there g l.id (λ y. leads y a) is.back.0 is.back.1 (leads_there is.back.0 a (subst (λ (u : ℕ). LeadsTo is.back.0 u) from is.back.2)) in
    let passed : step l ≡ true = and_from (leads l l.id) (any_link g l.id (λ y. leads y a) && on l) (leads_there l l.id is.leads) (and_from (any_link g l.id (λ y. leads y a)) (on l) back rest) in
    or_right (test [] a) (any_link g a step) (link_there g a step l here passed)

walk_len : (g : List Vertex) (a : ℕ) (es : List Edge) (b : ℕ) → IsWalk g a es b → length es ≤ walk_cost es
walk_len g a [] b walk = omega arith
walk_len g a (e ∷ es) b walk =
    let more = walk_len g e.link.id es b walk.2 in
    let some : 0 < e.link.metric = walk.1.leads.metric in
    omega arith

-- ---- what is given

given_found : (g : List Vertex) (root p n c : ℕ) (test : List Edge → Bool) → is_given g root p n test c ≡ true → (es : List Edge) × Gives g root es p n c × (test es ≡ true)
given_found g root p n c test h =
    let stub : List Edge → RouterLink → Bool = λ es l. is_stub l p n && walk_cost es + l.metric == c in
    let w = walk_found g c root (λ es b. test es && any_link g b (stub es)) h in
    let es = w.0 in
    let both = and_parts (test es) (any_link g w.1 (stub es)) w.3 in
    let l = link_found g w.1 (stub es) both.1 in
    let two = and_parts (is_stub l.0 p n) (walk_cost es + l.0.metric == c) l.2 in
    let gives : Gives g root es p n c = record { end = w.1; walk = w.2; stub = l.0; there = l.1; gives = stub_found l.0 p n two.0; total = eqb-true (walk_cost es + l.0.metric) c two.1 } in
    (es, gives, both.0)

given_there : (g : List Vertex) (root p n c : ℕ) (test : List Edge → Bool) (es : List Edge) → Gives g root es p n c → test es ≡ true → is_given g root p n test c ≡ true
given_there g root p n c test es gives passes =
    let stub : List Edge → RouterLink → Bool = λ fs l. is_stub l p n && walk_cost fs + l.metric == c in
    let l = gives.stub in
    let long = walk_len g root es gives.end gives.walk in
    let total : walk_cost es + l.metric ≡ c = gives.total in
    let few : length es ≤ c = omega arith in
    let with_max_age : any_link g gives.end (stub es) ≡ true = link_there g gives.end (stub es) l gives.there (and_from (is_stub l p n) (walk_cost es + l.metric == c) (stub_there l p n gives.gives) (eq-eqb (walk_cost es + l.metric) c total)) in
    walk_there g c root es gives.end (λ fs b. test fs && any_link g b (stub fs)) gives.walk few (and_from (test es) (any_link g gives.end (stub es)) passes with_max_age)

-- ---- the least cost

least_passes : (test : ℕ → Bool) (c n m : ℕ) → least_from test c n ≡ Some m → (test m ≡ true) × ((x : ℕ) → c ≤ x → test x ≡ true → m ≤ x)
least_passes test c zero m e = absurd cc
least_passes test c (suc n) m e = elim (cases_Bool (test c)) [
  | inl holds ↦
      (let here : Some c ≡ Some m = ap (λ (b : Bool). cond b (Some c) (least_from test (c + 1) n)) (sym holds) ∙ e in
      let same : c ≡ m = cc in
      (ap test (sym same) ∙ holds, λ x le h. omega arith))
  | inr fails ↦
      (let later : least_from test (c + 1) n ≡ Some m = ap (λ (b : Bool). cond b (Some c) (least_from test (c + 1) n)) (sym fails) ∙ e in
      let more = least_passes test (c + 1) n m later in (
        more.0,
        λ x le h. elim (cases_lt c x) [
          | inl lt ↦ more.1 x (omega arith) h
          | inr ge ↦ absurd (let same : c ≡ x = omega arith in let impossible : true ≡ false = sym h ∙ ap test (sym same) ∙ fails in cc)
        ],
      ))
]

cases_least : (test : ℕ → Bool) (c n : ℕ) → (least_from test c n ≡ None) ⊎ ((m : ℕ) × (least_from test c n ≡ Some m))
cases_least test c n = elim (least_from test c n) as (λ o. (o ≡ None) ⊎ ((m : ℕ) × (o ≡ Some m))) [ None ↦ inl refl | Some m ↦ inr (m, refl) ]

least_there : (test : ℕ → Bool) (c n d : ℕ) → c ≤ d → d < c + n → test d ≡ true → (m : ℕ) × (least_from test c n ≡ Some m)
least_there test c zero d le lt h = absurd (omega arith)
least_there test c (suc n) d le lt h = elim (cases_Bool (test c)) [
  | inl holds ↦ (c, ap (λ (b : Bool). cond b (Some c) (least_from test (c + 1) n)) holds)
  | inr fails ↦
      (let apart : (c ≡ d) → ⊥ = λ same. (let impossible : true ≡ false = sym h ∙ ap test (sym same) ∙ fails in cc) in
      let later = least_there test (c + 1) n d (elim (cases_lt c d) [ inl l ↦ omega arith | inr g ↦ absurd (apart (omega arith)) ]) (omega arith) h in
      (later.0, ap (λ (b : Bool). cond b (Some c) (least_from test (c + 1) n)) fails ∙ later.1))
]

-- ---- the mask of the ports

flag_bit : (b : Bool) → (◌≡◌ {A = ℕ} (cond b 1 0) 1) ↔ (b ≡ true)
flag_bit true = (λ e. refl, λ e. refl)
flag_bit false = (λ e. absurd cc, λ e. absurd cc)

small_flag : (b : Bool) → cond b 1 0 ≤ 1
small_flag true = omega arith
small_flag false = omega arith

ports_small : (test : ℕ → Bool) (q n : ℕ) → ports_from test q n < 2 ^ n
ports_small test q zero = omega arith
ports_small test q (suc n) =
    let more = ports_small test (q + 1) n in
    let flag = small_flag (test q) in
    omega arith

ports_bit : (test : ℕ → Bool) (s n k q : ℕ) → k < n → s + k ≡ q → (bit_at (ports_from test s n) k ≡ 1) ↔ (test q ≡ true)
ports_bit test s zero k q lt is = absurd (omega arith)
ports_bit test s (suc n) zero q lt is =
    let flag : ℕ = cond (test s) 1 0 in
    let rest = ports_from test (s + 1) n in
    let one = small_flag (test s) in
    let here : s ≡ q = omega arith in
    let lowest : bit_at (flag + 2 * rest) 0 ≡ flag = bit_at_lowest (flag + 2 * rest) ∙ omega arith in
    let f = flag_bit (test s) in
    (λ e. ap test (sym here) ∙ f.0 (sym lowest ∙ e), λ e. lowest ∙ f.1 (ap test here ∙ e))
ports_bit test s (suc n) (suc k) q lt is =
    let flag : ℕ = cond (test s) 1 0 in
    let rest = ports_from test (s + 1) n in
    let one = small_flag (test s) in
    let half : (flag + 2 * rest) / 2 ≡ rest = omega arith in
    let next : bit_at (flag + 2 * rest) (suc k) ≡ bit_at rest k = bit_at-suc (flag + 2 * rest) k ∙ ap (λ (x : ℕ). bit_at x k) half in
    let more = ports_bit test (s + 1) n k q (omega arith) (omega arith) in
    (λ e. more.0 (sym next ∙ e), λ e. next ∙ more.1 e)

-- ---- one route

is_own : (es : List Edge) → is_start es ≡ true → es ≡ []
is_own [] h = refl
is_own (e ∷ es) h = absurd cc

module _ (g : List Vertex) (root : ℕ) where
  first_edge : (es : List Edge) (p n c q : ℕ) → Gives g root es p n c → begins_at q es ≡ true → (e : Edge) × (fs : List Edge) × Gives g root (e ∷ fs) p n c × (e.link.data ≡ q + 1)
  first_edge [] p n c q gives h = absurd cc
  first_edge (e ∷ es) p n c q gives h = (e, es, gives, eqb-true e.link.data (q + 1) h)

  route_is : (ports p n c : ℕ) → ports ≡ 16 → is_given g root p n (λ es. true) c ≡ true → ((x : ℕ) → 0 ≤ x → is_given g root p n (λ es. true) x ≡ true → c ≤ x) → IsRoute g root (route_at g root ports p n c)
  unfolding route_at
  route_is ports p n c some given least =
      let walk = given_found g root p n c (λ es. true) given in
      record {
        walk = (walk.0, walk.1);
        least = λ es x gives. least x (omega arith) (given_there g root p n x (λ fs. true) es gives refl);
        own = (
          λ h. let w = given_found g root p n c is_start h in subst (λ (es : List Edge). Gives g root es p n c) (is_own w.0 w.2) w.1,
          λ gives. given_there g root p n c is_start [] gives refl,
        );
        via = λ q lt.
            let bit = ports_bit (λ (k : ℕ). is_given g root p n (begins_at k) c) 0 ports q q (omega arith) (omega arith) in (
              λ h. let w = given_found g root p n c (begins_at q) (bit.0 h) in first_edge w.0 p n c q w.1 w.2,
              λ e. bit.1 (given_there g root p n c (begins_at q) (e.0 ∷ e.1) e.2 (eq-eqb e.0.link.data (q + 1) e.3)),
            );
      }

  -- the route to a network is one, of this network
  to_is : (ports costs p n : ℕ) (r : Route) → ports ≡ 16 → route_to g root ports costs p n ≡ Some r → IsRoute g root r × (r.prefix ≡ p) × (r.len ≡ n) × (r.via < 2 ^ ports)
  unfolding route_to route_at
  to_is ports costs p n r some e = elim (cases_least (is_given g root p n (λ es. true)) 0 costs) [
    | inl none ↦ absurd (let h : None ≡ Some r = ap (option_map (route_at g root ports p n)) (sym none) ∙ e in cc)
    | inr m ↦
        (let h : Some (route_at g root ports p n m.0) ≡ Some r = ap (option_map (route_at g root ports p n)) (sym m.1) ∙ e in
        let same : route_at g root ports p n m.0 ≡ r = cc in
        let l = least_passes (is_given g root p n (λ es. true)) 0 costs m.0 m.1 in (
          subst (λ (x : Route). IsRoute g root x) same (route_is ports p n m.0 some l.0 l.1),
          ap (λ (x : Route). x.prefix) (sym same),
          ap (λ (x : Route). x.len) (sym same),
          subst (λ (x : Route). x.via < 2 ^ ports) same (ports_small (λ q. is_given g root p n (begins_at q) m.0) 0 ports),
        ))
  ]

  -- it is there, where some walk gives the network a cost that is looked at
  to_there : (ports costs p n c : ℕ) (es : List Edge) → Gives g root es p n c → c < costs → (r : Route) × (route_to g root ports costs p n ≡ Some r)
  unfolding route_to
  to_there ports costs p n c es gives lt =
      let m = least_there (is_given g root p n (λ fs. true)) 0 costs c (omega arith) (omega arith) (given_there g root p n c (λ fs. true) es gives refl) in
      (route_at g root ports p n m.0, ap (option_map (route_at g root ports p n)) m.1)

-- ---- all routes, in order

cons_in : (o : Option Route) (rs : List Route) (x : Route) → Contains (cons_option o rs) x → (o ≡ Some x) ⊎ Contains rs x
cons_in None rs x i = inr i
cons_in (Some y) rs x i = elim (tail_in y x rs i) [ inl e ↦ inl (ap (λ (z : Route). Some z) e) | inr j ↦ inr j ]

cons_here : (o : Option Route) (rs : List Route) (x : Route) → o ≡ Some x → Contains (cons_option o rs) x
cons_here None rs x e = absurd cc
cons_here (Some y) rs x e =
    let same : y ≡ x = cc in
    (0, omega arith, same)

cons_later : (o : Option Route) (rs : List Route) (x : Route) → Contains rs x → Contains (cons_option o rs) x
cons_later None rs x i = i
cons_later (Some y) rs x i = in_tail y x rs i

Rising : List Route → Type 0
Rising [] = Unit {0}
Rising (r ∷ rs) = ((x : Route) → Contains rs x → IsBefore r x) × Rising rs

rising_cons : (o : Option Route) (rs : List Route) → ((r : Route) → o ≡ Some r → (x : Route) → Contains rs x → IsBefore r x) → Rising rs → Rising (cons_option o rs)
unfolding Rising
rising_cons None rs before rising = rising
rising_cons (Some y) rs before rising = (before y refl, rising)

rising_append : (xs ys : List Route) → Rising xs → Rising ys → ((x y : Route) → Contains xs x → Contains ys y → IsBefore x y) → Rising (xs ++ ys)
unfolding Rising
rising_append [] ys a b before = b
rising_append (r ∷ xs) ys a b before = (
  λ x i. elim (Contains-append_cases xs ys x i) [
    | inl j ↦ a.0 x j
    | inr j ↦ before r x (0, omega arith, refl) j
  ],
  rising_append xs ys a.1 b (λ x y i j. before x y (in_tail r x xs i) j),
)

ascending : (rs : List Route) → Rising rs → AreAscending rs
unfolding Rising
ascending [] rising i j d ij jl = absurd (omega arith)
ascending (r ∷ rs) rising i zero d ij jl = absurd (omega arith)
ascending (r ∷ rs) rising zero (suc j) d ij jl =
    let lt : j < length rs = omega arith in
    rising.0 (get_or rs j d) (Contains-get_or rs j d lt)
ascending (r ∷ rs) rising (suc i) (suc j) d ij jl = ascending rs rising.1 i j d (omega arith) (omega arith)

module _ (to : ℕ → ℕ → Option Route) (at : (p n : ℕ) (r : Route) → to p n ≡ Some r → (r.prefix ≡ p) × (r.len ≡ n)) where
  row_in : (p l n : ℕ) (x : Route) → Contains (routes_of_prefix to p l n) x → (m : ℕ) × (l ≤ m) × (to p m ≡ Some x)
  row_in p l zero x i = absurd (let lt : i.0 < 0 = i.1 in omega arith)
  row_in p l (suc n) x i = elim (cons_in (to p l) (routes_of_prefix to p (l + 1) n) x i) [
    | inl e ↦ (l, omega arith, e)
    | inr j ↦ (let m = row_in p (l + 1) n x j in let le : l + 1 ≤ m.0 = m.1 in (m.0, omega arith, m.2))
  ]

  row_there : (p l n m : ℕ) (x : Route) → l ≤ m → m < l + n → to p m ≡ Some x → Contains (routes_of_prefix to p l n) x
  row_there p l zero m x le lt e = absurd (omega arith)
  row_there p l (suc n) m x le lt e = elim (cases_lt l m) [
    | inl more ↦ cons_later (to p l) (routes_of_prefix to p (l + 1) n) x (row_there p (l + 1) n m x (omega arith) (omega arith) e)
    | inr here ↦
        (let same : l ≡ m = omega arith in
        cons_here (to p l) (routes_of_prefix to p (l + 1) n) x (ap (to p) same ∙ e))
  ]

  row_rises : (p l n : ℕ) → Rising (routes_of_prefix to p l n)
  unfolding Rising
  row_rises p l zero = tt
  row_rises p l (suc n) =
      rising_cons (to p l) (routes_of_prefix to p (l + 1) n)
      (λ r e x i.
      let m = row_in p (l + 1) n x i in
      let one = at p l r e in
      let other = at p m.0 x m.2 in
      let le : l + 1 ≤ m.0 = m.1 in
      let lens : r.len < x.len = (let a = one.1 in let b = other.1 in omega arith) in
      inr (one.0 ∙ sym other.0, lens))
      (row_rises p (l + 1) n)

  all_in : (lens p n : ℕ) (x : Route) → Contains (routes_from to lens p n) x → (q : ℕ) × (m : ℕ) × (p ≤ q) × (to q m ≡ Some x)
  all_in lens p zero x i = absurd (let lt : i.0 < 0 = i.1 in omega arith)
  all_in lens p (suc n) x i = elim (Contains-append_cases (routes_of_prefix to p 0 lens) (routes_from to lens (p + 1) n) x i) [
    | inl j ↦ (let m = row_in p 0 lens x j in (p, m.0, omega arith, m.2))
    | inr j ↦ (let m = all_in lens (p + 1) n x j in let le : p + 1 ≤ m.0 = m.2 in (m.0, m.1, omega arith, m.3))
  ]

  all_there : (lens p n q m : ℕ) (x : Route) → p ≤ q → q < p + n → m < lens → to q m ≡ Some x → Contains (routes_from to lens p n) x
  all_there lens p zero q m x le lt few e = absurd (omega arith)
  all_there lens p (suc n) q m x le lt few e = elim (cases_lt p q) [
    | inl more ↦ Contains-append_right (routes_of_prefix to p 0 lens) (routes_from to lens (p + 1) n) x (all_there lens (p + 1) n q m x (omega arith) (omega arith) few e)
    | inr here ↦
        (let same : p ≡ q = omega arith in
        Contains-append_left (routes_of_prefix to p 0 lens) (routes_from to lens (p + 1) n) x (row_there p 0 lens m x (omega arith) (omega arith) (ap (λ (k : ℕ). to k m) same ∙ e)))
  ]

  all_rises : (lens p n : ℕ) → Rising (routes_from to lens p n)
  unfolding Rising
  all_rises lens p zero = tt
  all_rises lens p (suc n) =
      rising_append (routes_of_prefix to p 0 lens) (routes_from to lens (p + 1) n) (row_rises p 0 lens) (all_rises lens (p + 1) n)
      (λ x y i j.
      let a = row_in p 0 lens x i in
      let b = all_in lens (p + 1) n y j in
      let one = (at p a.0 x a.2).0 in
      let other = (at b.0 b.1 y b.3).0 in
      let le : p + 1 ≤ b.0 = b.2 in
      let prefixes : x.prefix < y.prefix = omega arith in
      inl prefixes)

-- ---- the table

module _ (g : List Vertex) (root ports prefixes costs : ℕ) (some : ports ≡ 16) where
  table : List Route
  table = routes_from (route_to g root ports costs) 33 0 prefixes

  at_network : (p n : ℕ) (r : Route) → route_to g root ports costs p n ≡ Some r → (r.prefix ≡ p) × (r.len ≡ n)
  at_network p n r e =
      let is = to_is g root ports costs p n r some e in
      (is.1, is.2)

  each_is : (x : Route) → Contains table x → IsRoute g root x × (x.via < 2 ^ 16)
  unfolding table
  each_is x i =
      let m = all_in (route_to g root ports costs) at_network 33 0 prefixes x i in
      let is = to_is g root ports costs m.0 m.1 x some m.3 in
      (is.0, subst (λ (k : ℕ). x.via < 2 ^ k) some is.3)

  are_routes : (rs : List Route) → AreRoutes g root rs → All (IsWide prefixes costs) rs → AreRoutes g root table
  unfolding table
  are_routes rs are wide = record {
    each = λ k d lt. (each_is (get_or table k d) (Contains-get_or table k d lt)).0;
    all = λ es p n c gives.
        let old = are.all es p n c gives in
        let r = old.0 in
        let w = All-contains (IsWide prefixes costs) rs r wide old.1 in
        let is = All-contains (IsRoute g root) rs r are.each old.1 in
        let prefix : r.prefix ≡ p = old.2 in
        let len : r.len ≡ n = old.3 in
        let there : Gives g root is.walk.0 p n r.cost = subst (λ (k : ℕ). Gives g root is.walk.0 k n r.cost) prefix (subst (λ (k : ℕ). Gives g root is.walk.0 r.prefix k r.cost) len is.walk.1) in
        let new = to_there g root ports costs p n r.cost is.walk.0 there w.1 in
        let within : n ≤ 32 = gives.gives.within in
        let small : p < 0 + prefixes = (let lt : r.prefix < prefixes = w.0 in omega arith) in
        let at = at_network p n new.0 new.1 in
        (new.0, all_there (route_to g root ports costs) at_network 33 0 prefixes p n new.0 (omega arith) small (omega arith) new.1, at.0, at.1);
    order = ascending table (all_rises (route_to g root ports costs) at_network 33 0 prefixes);
  }

  table_by : (rs : List Route) → AreRoutes g root rs → All (IsWide prefixes costs) rs → rs ≡ routes_from (route_to g root ports costs) 33 0 prefixes
  unfolding table
  table_by rs are wide =
      one_list g root rs table are (are_routes rs are wide)
      (λ k d lt. (wide k d lt).2)
      (λ k d lt. (each_is (get_or table k d) (Contains-get_or table k d lt)).1)

pub table_is : (g : List Vertex) (root : ℕ) (rs : List Route) → AreRoutes g root rs → All (IsWide (2 ^ 32) (2 ^ 32)) rs → rs ≡ table_of g root
unfolding table_of
table_is g root rs are wide = table_by g root 16 (2 ^ 32) (2 ^ 32) refl rs are wide
