-- The offers of one more link or vertex.
use Rattle.std.proofs.Common.{◌≡◌, ◌≢◌, ℕ, zero, suc, ◌+◌, ◌-◌, ◌^◌, ◌<◌, ◌≤◌, ◌==◌, Bool, true, false, cond, eqb, Option, Some, None, List, [], ◌∷◌, ◌++◌, refl, sym, ap, ◌∙◌, subst, inl, inr, arith, length, get_or}
use Rattle.std.specs.Prelude.{MatchOption, find}
use Rattle.std.specs.List.{Contains, range_with_len}
use Rattle.std.proofs.Math.Pow.{pow-lt, pow_mono}
use Rattle.std.proofs.lemmas.Bool.{cases_order, cases_lt, both_ways, eq-eqb, eqb-true}
use Rattle.std.proofs.lemmas.List.Elements.{Contains-append_left, Contains-push, Contains-push_cases}
use Rattle.ospf_wire.specs.declared.router_lsa.RouterLink.{RouterLink}
use Rattle.ospf_spf.specs.declared.graph.Vertex.{Vertex}
use Rattle.ospf_spf.specs.declared.route.Route.{Route}
use Rattle.dn_net.specs.Networks.{mask_len, mask_of}
use Rattle.ospf_spf.specs.Offers.{IsOffer, AreOffers, links_at, AreOffered}

-- ---- the length of a mask

abbrev IsFound : ℕ → ℕ → ℕ → Option ℕ → Type 0
IsFound m from n found = MatchOption found ((k : ℕ) → from ≤ k → k < from + n → m ≢ mask_of k) (λ k. (k < from + n) × (m ≡ mask_of k))

none_more : (m from n k : ℕ) → (mask_of from == m) ≡ false → ((j : ℕ) → from + 1 ≤ j → j < from + 1 + n → m ≢ mask_of j) → from ≤ k → k < from + suc n → m ≢ mask_of k
none_more m from n k t none low high same = elim (cases_order k from) [
  | inl here ↦ both_ways (mask_of from == m) t (eq-eqb (mask_of from) m (ap mask_of (sym here) ∙ sym same))
  | inr x ↦ elim x [
    | inl below ↦ omega (arith, low, below)
    | inr above ↦ none k (omega (arith, above)) (omega (arith, high)) same
  ]
]

found_later : (m from n : ℕ) (found : Option ℕ) → (mask_of from == m) ≡ false → IsFound m (from + 1) n found → IsFound m from (suc n) found
found_later m from n None t none = λ k low high. none_more m from n k t none low high
found_later m from n (Some k) t here = (omega (arith, here.0), here.1)

found_by : (b : Bool) (m from n : ℕ) (found : Option ℕ) → (mask_of from == m) ≡ b → IsFound m (from + 1) n found → IsFound m from (suc n) (cond b (Some from) found)
found_by true m from n found t later = (omega arith, sym (eqb-true (mask_of from) m t))
found_by false m from n found t later = found_later m from n found t later

found_from : (m n from : ℕ) → IsFound m from n (find (λ k. mask_of k == m) (range_with_len from n))
found_from m zero from = λ k low high. absurd (omega (arith, low, high))
found_from m (suc n) from = found_by (mask_of from == m) m from n (find (λ k. mask_of k == m) (range_with_len (from + 1) n)) refl (found_from m n (from + 1))

as_length : (m : ℕ) (found : Option ℕ) → IsFound m 0 33 found → MatchOption found ((n : ℕ) → n ≤ 32 → m ≢ mask_of n) (λ n. (n ≤ 32) × (m ≡ mask_of n))
as_length m None none = λ n le. none n (omega arith) (omega (arith, le))
as_length m (Some k) here = (omega (arith, here.0), here.1)

-- the length that is found is the one whose mask this is
pub length_found : (m : ℕ) (found : Option ℕ) → found ≡ mask_len m → MatchOption found ((n : ℕ) → n ≤ 32 → m ≢ mask_of n) (λ n. (n ≤ 32) × (m ≡ mask_of n))
unfolding mask_len
length_found m found e = as_length m found (subst (IsFound m 0 33) (sym e) (found_from m 33 0))

-- ---- offers

none_in : {X : Type 0} (x : X) → Contains [] x → ⊥
none_in x i = let k : i.0 < 0 = i.1 in omega arith

mask_apart : (a b : ℕ) → a < b → b ≤ 32 → mask_of a ≡ mask_of b → ⊥
mask_apart a b l h e =
    let k : 32 - b < 32 - a = omega arith in
    let p : 2 ^ (32 - b) < 2 ^ (32 - a) = pow-lt k in
    let m : 32 - a ≤ 32 = omega arith in
    let q : 2 ^ (32 - a) ≤ 2 ^ 32 = pow_mono m in
    omega arith

pub one_len : (a b : ℕ) → a ≤ 32 → b ≤ 32 → mask_of a ≡ mask_of b → a ≡ b
one_len a b ha hb e = elim (cases_order a b) [
  | inl q ↦ q
  | inr x ↦ elim x [
    | inl l ↦ absurd (mask_apart a b l hb e)
    | inr l ↦ absurd (mask_apart b a l ha (sym e))
  ]
]

one_offer : (cost : ℕ) (own : Bool) (via : ℕ) (l : RouterLink) (r s : Route) → IsOffer cost own via l r → IsOffer cost own via l s → r ≡ s
one_offer cost own via l r s a b =
    let p : r.prefix ≡ s.prefix = sym a.stub.address ∙ b.stub.address in
    let n : r.len ≡ s.len = one_len r.len s.len a.stub.within b.stub.within (sym a.stub.mask ∙ b.stub.mask) in
    let c : r.cost ≡ s.cost = a.price ∙ sym b.price in
    let o : r.own ≡ s.own = a.mine ∙ sym b.mine in
    let v : r.via ≡ s.via = a.ports ∙ sym b.ports in
    let f : ℕ → ℕ → ℕ → Bool → ℕ → Route = λ x y z u w. record { prefix = x; len = y; cost = z; own = u; via = w } in
    ap (λ x. f x r.len r.cost r.own r.via) p ∙ ap (λ x. f s.prefix x r.cost r.own r.via) n ∙ ap (λ x. f s.prefix s.len x r.own r.via) c ∙ ap (λ x. f s.prefix s.len s.cost x r.via) o ∙ ap (λ x. f s.prefix s.len s.cost s.own x) v

module _ (cost : ℕ) (own : Bool) (via : ℕ) (old : List Route) where
  pub offers_none : AreOffers cost own via [] old old
  offers_none r = (λ h. inl h, λ x. elim x [ inl h ↦ h | inr p ↦ absurd (none_in p.0 p.1) ])

  pub offers_skip : (ls : List RouterLink) (l : RouterLink) (os : List Route) → AreOffers cost own via ls old os → ((r : Route) → IsOffer cost own via l r → ⊥) → AreOffers cost own via (ls ++ l ∷ []) old os
  offers_skip ls l os a n r = (
    λ h. elim ((a r).0 h) [ inl x ↦ inl x | inr p ↦ inr (p.0, Contains-append_left ls (l ∷ []) p.0 p.1, p.2) ],
    λ x. elim x [
      | inl h ↦ (a r).1 (inl h)
      | inr p ↦
          elim (Contains-push_cases ls l p.0 p.1) [
            | inl i ↦ (a r).1 (inr (p.0, i, p.2))
            | inr e ↦ absurd (n r (subst (λ (y : RouterLink). IsOffer cost own via y r) (sym e) p.2))
          ]
    ],
  )

  pub offers_push : (ls : List RouterLink) (l : RouterLink) (os : List Route) (k : Route) → AreOffers cost own via ls old os → IsOffer cost own via l k → AreOffers cost own via (ls ++ l ∷ []) old (os ++ k ∷ [])
  offers_push ls l os k a y r = (
    λ h. elim (Contains-push_cases os k r h) [
      | inl x ↦ elim ((a r).0 x) [ inl z ↦ inl z | inr p ↦ inr (p.0, Contains-append_left ls (l ∷ []) p.0 p.1, p.2) ]
      | inr e ↦ inr (l, Contains-push ls l, subst (λ (z : Route). IsOffer cost own via l z) e y)
    ],
    λ x. elim x [
      | inl h ↦ Contains-append_left os (k ∷ []) r ((a r).1 (inl h))
      | inr p ↦
          elim (Contains-push_cases ls l p.0 p.1) [
            | inl i ↦ Contains-append_left os (k ∷ []) r ((a r).1 (inr (p.0, i, p.2)))
            | inr e ↦
                (let z = subst (λ (q : RouterLink). IsOffer cost own via q r) (sym e) p.2 in
                subst (λ (q : Route). Contains (os ++ k ∷ []) q) (one_offer cost own via l k r y z) (Contains-push os k))
          ]
    ],
  )

pub links_is : (g : List Vertex) (u : ℕ) (d : Vertex) → u < length g → links_at g u ≡ (get_or g u d).links
links_is [] u d l = absurd (omega arith)
links_is (v ∷ vs) zero d l = refl
links_is (v ∷ vs) (suc u) d l = links_is vs u d (let k : u < length vs = omega arith in k)

module _ (g : List Vertex) (root : ℕ) (L : ℕ → Option ℕ) (masks : List ℕ) where
  pub offered_none : AreOffered g root L masks 0 []
  offered_none r = (λ h. absurd (none_in r h), λ p. absurd (let k : p.0.at < 0 = p.1 in omega arith))

  pub offered_skip : (i : ℕ) (os : List Route) → AreOffered g root L masks i os → L i ≡ None → AreOffered g root L masks (i + 1) os
  offered_skip i os a n r = (
    λ h. let p = (a r).0 h in (p.0, (let k : p.0.at < i = p.1 in let z : p.0.at < i + 1 = omega arith in z)),
    λ p.
        let k : p.0.at < i + 1 = p.1 in
        elim (cases_lt p.0.at i) [
          | inl l ↦ (a r).1 (p.0, l)
          | inr l ↦ absurd (let e : p.0.at ≡ i = omega arith in let z : None ≡ Some p.0.cost = sym n ∙ ap L (sym e) ∙ p.0.label in cc)
        ],
  )

  pub offered_more : (i cost : ℕ) (own : Bool) (via : ℕ) (ls : List RouterLink) (os ps : List Route) → AreOffered g root L masks i os → L i ≡ Some cost → own ≡ eqb i root → via ≡ get_or masks i 0 → ls ≡ links_at g i → AreOffers cost own via ls os ps → AreOffered g root L masks (i + 1) ps
  offered_more i cost own via ls os ps a lab oe ve le m r = (
    λ h. elim ((m r).0 h) [
      | inl x ↦ (let p = (a r).0 x in (p.0, (let k : p.0.at < i = p.1 in let z : p.0.at < i + 1 = omega arith in z)))
      | inr p ↦ (
        record {
          at = i;
          cost = cost;
          link = p.0;
          label = lab;
          there = subst (λ (x : List RouterLink). Contains x p.0) le p.1;
          offer = record { stub = p.2.stub; price = p.2.price; mine = p.2.mine ∙ oe; ports = p.2.ports ∙ ve };
        },
        (let z : i < i + 1 = omega arith in z),
      )
    ],
    λ p.
        let k : p.0.at < i + 1 = p.1 in
        elim (cases_lt p.0.at i) [
          | inl l ↦ (m r).1 (inl ((a r).1 (p.0, l)))
          | inr l ↦
              (let e : p.0.at ≡ i = omega arith in
              let z : Some p.0.cost ≡ Some cost = sym p.0.label ∙ ap L e ∙ lab in
              let c : p.0.cost ≡ cost = cc in
              (m r).1 (inr (p.0.link, subst (λ (x : List RouterLink). Contains x p.0.link) (ap (λ x. links_at g x) e ∙ sym le) p.0.there, record { stub = p.0.offer.stub; price = p.0.offer.price ∙ ap (λ x. x + p.0.link.metric) c; mine = p.0.offer.mine ∙ ap (λ x. eqb x root) e ∙ sym oe; ports = p.0.offer.ports ∙ ap (λ x. get_or masks x 0) e ∙ sym ve })))
        ],
  )
