-- The ways and hops of one more link or router.
use Rattle.std.proofs.Common.{◌≡◌, ◌≢◌, ℕ, zero, suc, ◌<◌, ◌≤◌, Option, true, cond, List, [], ◌∷◌, ◌++◌, refl, sym, ap, ◌∙◌, subst, inl, inr, arith, length, get_or}
use Rattle.std.specs.List.{Contains, AllZip}
use Rattle.std.specs.Ordering.{is_eq}
use Rattle.std.specs.BTreeSet.{BTreeSet, contains, Updates}
use Rattle.std.specs.Prelude.{MatchOption, MatchResult, Result, Ok, Err}
use Rattle.std.specs.Result.{result_ok}
use Rattle.std.specs.List.Sorted.{IsBinarySearchResult}
use Rattle.std.specs.Ordering.{nat_cmp}
use Rattle.std.proofs.lemmas.Bool.{cases_order, cases_Bool, cases_lt, both_ways}
use Rattle.std.proofs.lemmas.List.Sorted.{searched}
use Rattle.std.proofs.lemmas.List.Elements.{Contains-append_left, Contains-push, Contains-push_cases}
use Rattle.ospf_wire.specs.declared.router_lsa.RouterLink.{RouterLink}
use Rattle.ospf_spf.specs.declared.graph.Vertex.{Vertex}
use Rattle.ospf_spf.specs.declared.graph.Hop.{Hop}
use Rattle.ospf_spf.specs.Graph.{AreInOrder}
use Rattle.ospf_spf.specs.Walks.{LeadsTo}
use Rattle.ospf_spf.specs.Search.{pair_cmp}
use Rattle.ospf_spf.specs.Hops.{ids_of, AreRising, has_way, IsMarked, AreWays, IsHopOf, AreRow}
use Rattle.ospf_spf.proofs.Frontier.{tied, one_pair, none_inside}

pub ids_push : (vs : List Vertex) (v : Vertex) → ids_of (vs ++ v ∷ []) ≡ ids_of vs ++ v.id ∷ []
ids_push [] v = refl
ids_push (w ∷ vs) v = ap (λ xs. w.id ∷ xs) (ids_push vs v)

pub ids_length : (vs : List Vertex) → length (ids_of vs) ≡ length vs
ids_length [] = refl
ids_length (v ∷ vs) = let ih = ids_length vs in omega arith

pub ids_at : (vs : List Vertex) (i : ℕ) (d : Vertex) → i < length vs → get_or (ids_of vs) i 0 ≡ (get_or vs i d).id
ids_at [] i d l = absurd (omega arith)
ids_at (v ∷ vs) zero d l = refl
ids_at (v ∷ vs) (suc i) d l = ids_at vs i d (let k : i < length vs = omega arith in k)

none_in : {X : Type 0} (x : X) → Contains [] x → ⊥
none_in x i = let k : i.0 < 0 = i.1 in omega arith

pub marked_nothing : (from : ℕ) (s : BTreeSet (ℕ × ℕ)) → IsMarked from [] s s
marked_nothing from s a b = (λ h. inl h, λ x. elim x [ inl h ↦ h | inr p ↦ absurd (none_in p.1.0 p.1.1) ])

pub marked_skip : (from : ℕ) (ls : List RouterLink) (l : RouterLink) (s t : BTreeSet (ℕ × ℕ)) → IsMarked from ls s t → (LeadsTo l l.id → ⊥) → IsMarked from (ls ++ l ∷ []) s t
marked_skip from ls l s t m n a b = (
  λ h. elim ((m a b).0 h) [
    | inl x ↦ inl x
    | inr p ↦ inr (p.0, (p.1.0, Contains-append_left ls (l ∷ []) p.1.0 p.1.1, p.1.2))
  ],
  λ x. elim x [
    | inl h ↦ (m a b).1 (inl h)
    | inr p ↦
        elim (Contains-push_cases ls l p.1.0 p.1.1) [
          | inl i ↦ (m a b).1 (inr (p.0, (p.1.0, i, p.1.2)))
          | inr e ↦ absurd (n (let k = subst (λ (x : RouterLink). LeadsTo x b) (sym e) p.1.2 in record { kind = k.kind; metric = k.metric; to = refl }))
        ]
  ],
)

pub marked_more : (from : ℕ) (ls : List RouterLink) (l : RouterLink) (s t u : BTreeSet (ℕ × ℕ)) → IsMarked from ls s t → LeadsTo l l.id → Updates pair_cmp t u (from, l.id) true → IsMarked from (ls ++ l ∷ []) s u
marked_more from ls l s t u m y up a b =
    let here : has_way u from l.id = up.0 (from, l.id) ∙ ap (λ x. cond x true (contains pair_cmp t (from, l.id))) (tied from l.id) in
    let old : has_way t a b → has_way u a b = λ h.
    elim (cases_Bool (is_eq (pair_cmp (from, l.id) (a, b)))) [
      | inl e ↦ up.0 (a, b) ∙ ap (λ x. cond x true (contains pair_cmp t (a, b))) e
      | inr e ↦ up.2 (a, b) e ∙ h
    ] in (
      λ h. elim (cases_Bool (is_eq (pair_cmp (from, l.id) (a, b)))) [
        | inl e ↦
            (let p = one_pair (from, l.id) (a, b) e in
            inr (sym (ap (λ (x : ℕ × ℕ). x.0) p), (l, Contains-push ls l, record { kind = y.kind; metric = y.metric; to = ap (λ (x : ℕ × ℕ). x.1) p })))
        | inr e ↦
            elim ((m a b).0 (sym (up.2 (a, b) e) ∙ h)) [
              | inl x ↦ inl x
              | inr p ↦ inr (p.0, (p.1.0, Contains-append_left ls (l ∷ []) p.1.0 p.1.1, p.1.2))
            ]
      ],
      λ x. elim x [
        | inl h ↦ old ((m a b).1 (inl h))
        | inr p ↦
            elim (Contains-push_cases ls l p.1.0 p.1.1) [
              | inl i ↦ old ((m a b).1 (inr (p.0, (p.1.0, i, p.1.2))))
              | inr e ↦
                  (let k = subst (λ (x : RouterLink). LeadsTo x b) (sym e) p.1.2 in
                  subst (λ (x : ℕ). has_way u x b) (sym p.0) (subst (λ (x : ℕ). has_way u from x) k.to here))
            ]
      ],
    )

pub ways_none : (s : BTreeSet (ℕ × ℕ)) → s.keys ≡ [] → AreWays [] s
ways_none s e a b = (λ h. absurd (both_ways _ (none_inside s a b e) h), λ x. absurd (none_in x.1.vertex x.1.known))

pub ways_push : (vs : List Vertex) (v : Vertex) (s t : BTreeSet (ℕ × ℕ)) → AreWays vs s → IsMarked v.id v.links s t → AreWays (vs ++ v ∷ []) t
ways_push vs v s t w m a b = (
  λ h. elim ((m a b).0 h) [
    | inl x ↦ (let p = (w a b).0 x in (p.0, record { vertex = p.1.vertex; known = Contains-append_left vs (v ∷ []) p.1.vertex p.1.known; id = p.1.id; link = p.1.link }, p.2))
    | inr p ↦ (p.1.0, record { vertex = v; known = Contains-push vs v; id = sym p.0; link = p.1.1 }, p.1.2)
  ],
  λ x. elim (Contains-push_cases vs v x.1.vertex x.1.known) [
    | inl i ↦ (m a b).1 (inl ((w a b).1 (x.0, record { vertex = x.1.vertex; known = i; id = x.1.id; link = x.1.link }, x.2)))
    | inr e ↦ (m a b).1 (inr (sym x.1.id ∙ ap (λ (y : Vertex). y.id) (sym e), (x.0, subst (λ (y : Vertex). Contains y.links x.0) (sym e) x.1.link, x.2)))
  ],
)

module _ (from : ℕ) (ids : List ℕ) (s : BTreeSet (ℕ × ℕ)) where
  pub row_none : AreRow from ids s [] []
  row_none h = (λ i. absurd (none_in h i), λ x. absurd (none_in x.0 x.1))

  pub row_skip : (ls : List RouterLink) (l : RouterLink) (hs : List Hop) → AreRow from ids s ls hs → ((h : Hop) → IsHopOf from ids s h l → ⊥) → AreRow from ids s (ls ++ l ∷ []) hs
  row_skip ls l hs r n h = (
    λ i. let p = (r h).0 i in (p.0, Contains-append_left ls (l ∷ []) p.0 p.1, p.2),
    λ x. elim (Contains-push_cases ls l x.0 x.1) [
      | inl i ↦ (r h).1 (x.0, i, x.2)
      | inr e ↦ absurd (n h (subst (λ (y : RouterLink). IsHopOf from ids s h y) (sym e) x.2))
    ],
  )

  -- one place for one id
  pub rising_unique : (i j : ℕ) → AreRising ids → i < length ids → j < length ids → get_or ids i 0 ≡ get_or ids j 0 → i ≡ j
  rising_unique i j up il jl e = elim (cases_order i j) [
    | inl q ↦ q
    | inr q ↦ elim q [
      | inl l ↦ absurd (let u = up i j l jl in omega arith)
      | inr l ↦ absurd (let u = up j i l il in omega arith)
    ]
  ]

  one_hop : (h k : Hop) (l : RouterLink) → AreRising ids → IsHopOf from ids s h l → IsHopOf from ids s k l → h ≡ k
  one_hop h k l up a b =
      let t : h.to ≡ k.to = rising_unique h.to k.to up a.within b.within (a.to ∙ sym b.to) in
      let p : h.port ≡ k.port = a.port ∙ sym b.port in
      let m : h.metric ≡ k.metric = a.metric ∙ sym b.metric in
      let f : ℕ → ℕ → ℕ → Hop = λ x y z. record { to = x; port = y; metric = z } in
      ap (λ x. f x h.port h.metric) t ∙ ap (λ y. f k.to y h.metric) p ∙ ap (λ z. f k.to k.port z) m

  pub row_push : (ls : List RouterLink) (l : RouterLink) (hs : List Hop) (k : Hop) → AreRising ids → AreRow from ids s ls hs → IsHopOf from ids s k l → AreRow from ids s (ls ++ l ∷ []) (hs ++ k ∷ [])
  row_push ls l hs k up r y h = (
    λ i. elim (Contains-push_cases hs k h i) [
      | inl o ↦ (let p = (r h).0 o in (p.0, Contains-append_left ls (l ∷ []) p.0 p.1, p.2))
      | inr e ↦ (l, Contains-push ls l, subst (λ (x : Hop). IsHopOf from ids s x l) e y)
    ],
    λ x. elim (Contains-push_cases ls l x.0 x.1) [
      | inl i ↦ Contains-append_left hs (k ∷ []) h ((r h).1 (x.0, i, x.2))
      | inr e ↦
          (let z = subst (λ (y : RouterLink). IsHopOf from ids s h y) (sym e) x.2 in
          subst (λ (q : Hop). Contains (hs ++ k ∷ []) q) (one_hop k h l up y z) (Contains-push hs k))
    ],
  )

pub rising_ids : (g : List Vertex) (d : Vertex) → AreInOrder g → AreRising (ids_of g)
rising_ids g d o i j ij jl =
    let len = ids_length g in
    let js : j < length g = omega arith in
    let jg : j < length g = omega arith in
    let ig : i < length g = omega arith in
    let a = ids_at g i d ig in
    let b = ids_at g j d jg in
    let c = o i j d ij js in
    omega arith

-- one more on both sides
pub zip_push : {A B : Type 0} (R : A → B → Type 0) (xs : List A) (ys : List B) (x : A) (y : B) → AllZip R xs ys → R x y → AllZip R (xs ++ x ∷ []) (ys ++ y ∷ [])
zip_push R [] [] x y a b = (b, tt)
zip_push R [] (z ∷ ys) x y a b = absurd a
zip_push R (z ∷ xs) [] x y a b = absurd a
zip_push R (z ∷ xs) (w ∷ ys) x y a b = (a.0, zip_push R xs ys x y a.1 b)

-- what a binary search among rising ids finds
pub found_at : (ids : List ℕ) (id : ℕ) (r : Result ℕ ℕ) (o : Option ℕ) → AreRising ids → IsBinarySearchResult (λ y. nat_cmp y id) ids r → o ≡ result_ok r
    → MatchOption o ((i : ℕ) → i < length ids → get_or ids i 0 ≢ id) (λ i. (i < length ids) × (get_or ids i 0 ≡ id))
found_at ids id r o up is e = subst (λ (x : Option ℕ). MatchOption x ((i : ℕ) → i < length ids → get_or ids i 0 ≢ id) (λ i. (i < length ids) × (get_or ids i 0 ≡ id))) (sym e) (of r (searched ids id r is not_falling))
  where
    not_falling : (i j : ℕ) → i ≤ j → j < length ids → get_or ids i 0 ≤ get_or ids j 0
    not_falling i j le lt =
        elim (cases_lt i j) [
          | inl below ↦ (let u = up i j below lt in omega arith)
          | inr above ↦ (let same : i ≡ j = omega arith in rw same (omega arith))
        ]

    of : (x : Result ℕ ℕ) → MatchResult x (λ i. (i < length ids) × (get_or ids i 0 ≡ id)) (λ i. (i ≤ length ids) × ((k : ℕ) → k < i → get_or ids k 0 < id) × ((k : ℕ) → i ≤ k → k < length ids → id < get_or ids k 0))
        → MatchOption (result_ok x) ((i : ℕ) → i < length ids → get_or ids i 0 ≢ id) (λ i. (i < length ids) × (get_or ids i 0 ≡ id))
    of (Ok i) m = m
    of (Err i) m = λ k lt same. elim (cases_lt k i) [
      | inl below ↦ (let u = m.1 k below in omega arith)
      | inr above ↦ (let u = m.2 k above lt in omega arith)
    ]
