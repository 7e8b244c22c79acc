-- The ports of least walks, a row at a time.
use Rattle.std.proofs.Common.{◌≡◌, ℕ, zero, suc, ◌+◌, ◌<◌, ◌≤◌, ◌≢◌, ◌⊎◌, ◌↔◌, Bool, eqb, Option, Some, None, List, [], ◌∷◌, ◌++◌, refl, sym, ap, ◌∙◌, subst, inl, inr, arith, length, get_or}
use Rattle.std.specs.List.{Contains}
use Rattle.std.specs.Option.{unwrap_or}
use Rattle.std.specs.Global.{Vec}
use Rattle.std.specs.Int.{bit_at}
use Rattle.std.proofs.Common.{bit_or}
use Rattle.std.proofs.lemmas.Nat.Bits.{bit_at_or, bit_at-lt, bit_at-zero}
use Rattle.std.proofs.lemmas.Bool.{cases_eq, cases_lt, cases_Bool, eqb-true, eqb-false}
use Rattle.std.proofs.lemmas.List.Elements.{Contains-append_left, Contains-push, Contains-push_cases}
use Rattle.ospf_spf.specs.declared.graph.Hop.{Hop}
use Rattle.ospf_spf.specs.Search.{row, Onward, Walks, IsLeast, AreHops}
use Rattle.ospf_spf.specs.Ports.{HasPort, Carries, ArePassedOn, IsViaFrom, AreVia, AreViaFrom}

pub passed_none : (cost : ℕ) (at_root : Bool) (ports : ℕ) (L : ℕ → Option ℕ) (ms : List ℕ) → ArePassedOn [] cost at_root ports L ms ms
passed_none cost at_root ports L ms w q l = (λ h. inl h, λ s. elim s [ inl h ↦ h | inr a ↦ absurd (let k : a.1.0 < 0 = a.1.1 in omega arith) ])

-- a hop that adds nothing
pub passed_skip : (rs : List Hop) (h : Hop) (cost : ℕ) (at_root : Bool) (ports : ℕ) (L : ℕ → Option ℕ) (ms ns : List ℕ) → ArePassedOn rs cost at_root ports L ms ns → (L h.to ≡ Some (cost + h.metric) → ⊥) → ArePassedOn (rs ++ h ∷ []) cost at_root ports L ms ns
passed_skip rs h cost at_root ports L ms ns p no_label w q l = (
  λ x. elim ((p w q l).0 x) [
    | inl o ↦ inl o
    | inr a ↦ inr (a.0, Contains-append_left rs (h ∷ []) a.0 a.1, a.2, a.3, a.4)
  ],
  λ s. (p w q l).1 (elim s [
    | inl o ↦ inl o
    | inr a ↦
        elim (Contains-push_cases rs h a.0 a.1) [
          | inl i ↦ inr (a.0, i, a.2, a.3, a.4)
          | inr e ↦
              absurd (no_label (ap L (ap (λ (j : Hop). j.to) e ∙ a.2) ∙ a.3 ∙ ap (λ (j : Hop). Some (cost + j.metric)) (sym e)))
        ]
  ]),
)

-- a hop that adds its ports
pub passed_push : (rs : List Hop) (h : Hop) (cost : ℕ) (at_root : Bool) (ports : ℕ) (L : ℕ → Option ℕ) (ms ns os : List ℕ) → ArePassedOn rs cost at_root ports L ms ns → L h.to ≡ Some (cost + h.metric) → ((q : ℕ) → q < 16 → HasPort os h.to q ↔ (HasPort ns h.to q ⊎ Carries at_root ports h.port q)) → ((w : ℕ) → w ≢ h.to → get_or os w 0 ≡ get_or ns w 0) → ArePassedOn (rs ++ h ∷ []) cost at_root ports L ms os
passed_push rs h cost at_root ports L ms ns os p lab here others w q l = (
  λ x. elim (cases_eq w h.to) [
    | inl e ↦
        (let y : HasPort os h.to q = sym (ap (λ i. bit_at (get_or os i 0) q) e) ∙ x in
        elim ((here q l).0 y) [
          | inl n ↦
              (let z : HasPort ns w q = ap (λ i. bit_at (get_or ns i 0) q) e ∙ n in
              elim ((p w q l).0 z) [
                | inl o ↦ inl o
                | inr a ↦ inr (a.0, Contains-append_left rs (h ∷ []) a.0 a.1, a.2, a.3, a.4)
              ])
          | inr c ↦ inr (h, Contains-push rs h, sym e, ap L e ∙ lab, c)
        ])
    | inr ne ↦
        (let z : HasPort ns w q = sym (ap (λ i. bit_at i q) (others w ne)) ∙ x in
        elim ((p w q l).0 z) [
          | inl o ↦ inl o
          | inr a ↦ inr (a.0, Contains-append_left rs (h ∷ []) a.0 a.1, a.2, a.3, a.4)
        ])
  ],
  λ s.
      let old : HasPort ns w q → HasPort os w q = λ n.
      elim (cases_eq w h.to) [
        | inl e ↦ ap (λ i. bit_at (get_or os i 0) q) e ∙ (here q l).1 (inl (sym (ap (λ i. bit_at (get_or ns i 0) q) e) ∙ n))
        | inr ne ↦ ap (λ i. bit_at i q) (others w ne) ∙ n
      ] in
      elim s [
        | inl o ↦ old ((p w q l).1 (inl o))
        | inr a ↦
            elim (Contains-push_cases rs h a.0 a.1) [
              | inl i ↦ old ((p w q l).1 (inr (a.0, i, a.2, a.3, a.4)))
              | inr e ↦
                  (let t : w ≡ h.to = sym a.2 ∙ ap (λ (j : Hop). j.to) (sym e) in
                  let c : Carries at_root ports h.port q = subst (λ (j : Hop). Carries at_root ports j.port q) (sym e) a.4 in
                  ap (λ i. bit_at (get_or os i 0) q) t ∙ (here q l).1 (inr c))
            ]
      ],
)

-- a mask that got more bits
pub more_bits : (a b q : ℕ) → (bit_at (bit_or a b) q ≡ 1) ↔ ((bit_at a q ≡ 1) ⊎ (bit_at b q ≡ 1))
more_bits a b q =
    let e = bit_at_or a b q in
    let la = bit_at-lt a q in
    let lb = bit_at-lt b q in (
      λ h. elim (cases_eq (bit_at a q) 1) [
        | inl x ↦ inl x
        | inr ne ↦ inr (omega arith)
      ],
      λ s. elim s [
        | inl x ↦ omega arith
        | inr x ↦ omega arith
      ],
    )

-- an element at its place, whatever the default
same_place : (xs : List ℕ) (j x : ℕ) → j < length xs → get_or xs j x ≡ x → get_or xs j 0 ≡ x
same_place [] j x l e = absurd (omega arith)
same_place (y ∷ xs) zero x l e = e
same_place (y ∷ xs) (suc j) x l e = same_place xs j x (let k : j < length xs = omega arith in k) e

module _ (H : List (Vec Hop)) (root : ℕ) (L : ℕ → Option ℕ) (order : List ℕ) (n : ℕ) (s : IsLeast H root L order n) (hops : AreHops H n) where
  -- the last hop of a least walk comes from a vertex of less cost
  earlier : (k w c : ℕ) (f : Option ℕ) (o : Onward (Walks H root k) H w c f) → (b : ℕ) × (L o.at ≡ Some b) × (b ≤ o.before) × (b < c)
  earlier k w c f o =
      let p = s.least k o.at o.before o.first o.walk in
      let m : 0 < o.hop.metric = (hops o.at o.hop o.there).1 in
      let e : c ≡ o.before + o.hop.metric = o.cost in
      let l : p.0 ≤ o.before = p.2 in
      (p.0, p.1, p.2, omega arith)

  -- so it stands before the vertex in the order
  pub via_from : (i u cost q : ℕ) → i < length order → get_or order i 0 ≡ u → L u ≡ Some cost → u ≢ root → (k : ℕ) → Walks H root k u cost (Some (q + 1)) → IsViaFrom H root L order i u q
  via_from i u cost q il iu lu ur zero w = absurd (ur w.0)
  via_from i u cost q il iu lu ur (suc k) w =
      let p = earlier k u cost (Some (q + 1)) w in
      let at = s.listed w.at p.0 p.1 in
      let j = at.0 in
      let ja : get_or order j 0 ≡ w.at = same_place order j w.at at.1 at.2 in
      let lt : p.0 < cost = p.3 in
      let ji : j < i =
      elim (cases_lt j i) [
        | inl x ↦ x
        | inr x ↦
            absurd (elim (cases_eq j i) [
              | inl e ↦
                  (let z : Some p.0 ≡ Some cost = sym p.1 ∙ ap L (sym ja ∙ ap (λ y. get_or order y 0) e ∙ iu) ∙ lu in
                  let y : p.0 ≡ cost = cc in omega arith)
              | inr ne ↦ (let ij : i < j = omega arith in let r = s.rising i j cost p.0 ij at.1 (ap L iu ∙ lu) (ap L ja ∙ p.1) in omega arith)
            ])
      ] in
      (j, k, cost, w, ji, lu, sym ja)

  pub at_start : (c : ℕ) → L root ≡ Some c → c ≡ 0
  at_start c l =
      let p = s.least zero root 0 None (refl, refl, refl) in
      let z : Some p.0 ≡ Some c = sym p.1 ∙ l in
      let y : p.0 ≡ c = cc in
      let x : p.0 ≤ 0 = p.2 in
      omega arith

  -- the least walk to the root is the empty one
  root_first : (k c : ℕ) (f : Option ℕ) → Walks H root k root c f → L root ≡ Some c → f ≡ None
  root_first zero c f w l = w.2
  root_first (suc k) c f w l =
      let z = at_start c l in
      let m : 0 < w.hop.metric = (hops w.at w.hop w.there).1 in
      let e = w.cost in
      absurd (omega arith)

  first_some : (k u c : ℕ) (f : Option ℕ) → u ≢ root → Walks H root k u c f → (p : ℕ) × (f ≡ Some p)
  first_some zero u c f ne w = absurd (ne w.0)
  first_some (suc k) u c f ne w = (unwrap_or w.first w.hop.port, w.port)

  -- a least walk passes each vertex at its least cost
  exact_before : (k u w c cost before : ℕ) (f : Option ℕ) (h : Hop) → Walks H root k u before f → L u ≡ Some cost → Contains (row H u) h → h.to ≡ w → c ≡ before + h.metric → L w ≡ Some c → before ≡ cost
  exact_before k u w c cost before f h walk lu there to e lw =
      let p = s.least k u before f walk in
      let pz : Some p.0 ≡ Some cost = sym p.1 ∙ lu in
      let py : p.0 ≡ cost = cc in
      let pl : p.0 ≤ before = p.2 in
      let r = s.walk u cost lu in
      let q = s.least (suc r.0) w (cost + h.metric) (Some (unwrap_or r.1 h.port)) (record { at = u; before = cost; first = r.1; hop = h; walk = r.2; there = there; to = to; cost = refl; port = refl }) in
      let qz : Some q.0 ≡ Some c = sym q.1 ∙ lw in
      let qy : q.0 ≡ c = cc in
      let ql : q.0 ≤ cost + h.metric = q.2 in
      omega arith

  pub no_via : (ms : List ℕ) → ((w : ℕ) → get_or ms w 0 ≡ 0) → AreViaFrom H root L order 0 ms
  no_via ms z w q l =
      (λ h. absurd (let e : bit_at (get_or ms w 0) q ≡ 0 = ap (λ n. bit_at n q) (z w) ∙ bit_at-zero q in omega arith), λ v. absurd (let k : v.0 < 0 = v.4 in omega arith))

  -- one more vertex of the order
  pub via_step : (i u cost ports : ℕ) (at_root : Bool) (ms ns : List ℕ) → i < length order → get_or order i 0 ≡ u → L u ≡ Some cost → at_root ≡ eqb u root → ports ≡ get_or ms u 0 → AreViaFrom H root L order i ms → ArePassedOn (row H u) cost at_root ports L ms ns → AreViaFrom H root L order (i + 1) ns
  via_step i u cost ports at_root ms ns il iu lu ar pm up p w q l = (
    λ x. elim ((p w q l).0 x) [
      | inl o ↦ (let v = (up w q l).0 o in let a : v.0 < i = v.4 in (v.0, v.1, v.2, v.3, (let b : v.0 < i + 1 = omega arith in b), v.5, v.6))
      | inr a ↦
          elim (cases_Bool at_root) [
            | inl t ↦
                (let ur : u ≡ root = eqb-true u root (sym ar ∙ t) in
                let c0 : cost ≡ 0 = at_start cost (sym (ap L ur) ∙ lu) in
                let y : a.0.port ≡ q + 1 = subst (λ (b : Bool). Carries b ports a.0.port q) t a.4 in
                (i, 0, cost + a.0.metric, record { at = u; before = cost; first = None; hop = a.0; walk = (ur, c0, refl); there = a.1; to = a.2; cost = refl; port = ap (λ k. Some k) (sym y) }, (let b : i < i + 1 = omega arith in b), a.3, sym iu))
            | inr t ↦
                (let y : bit_at ports q ≡ 1 = subst (λ (b : Bool). Carries b ports a.0.port q) t a.4 in
                let v = (up u q l).0 (sym (ap (λ k. bit_at k q) pm) ∙ y) in
                let cz : Some v.2 ≡ Some cost = sym v.5 ∙ lu in
                let cy : v.2 ≡ cost = cc in
                (i, suc v.1, v.2 + a.0.metric, record { at = u; before = v.2; first = Some (q + 1); hop = a.0; walk = v.3; there = a.1; to = a.2; cost = refl; port = refl }, (let b : i < i + 1 = omega arith in b), a.3 ∙ ap (λ k. Some (k + a.0.metric)) (sym cy), sym iu))
          ]
    ],
    λ v.
        let o = v.3 in
        let at = v.6 in
        let lw = v.5 in
        let vj : v.0 < i + 1 = v.4 in
        elim (cases_lt v.0 i) [
          | inl x ↦ (p w q l).1 (inl ((up w q l).1 (v.0, v.1, v.2, v.3, x, v.5, v.6)))
          | inr x ↦
              (let ji : v.0 ≡ i = omega arith in
              let a : o.at ≡ u = at ∙ ap (λ y. get_or order y 0) ji ∙ iu in
              let walk : Walks H root v.1 u o.before o.first = subst (λ (y : ℕ). Walks H root v.1 y o.before o.first) a o.walk in
              let there : Contains (row H u) o.hop = subst (λ (y : ℕ). Contains (row H y) o.hop) a o.there in
              let b : o.before ≡ cost = exact_before v.1 u w v.2 cost o.before o.first o.hop walk lu there o.to o.cost lw in
              let lab : L w ≡ Some (cost + o.hop.metric) = lw ∙ ap (λ y. Some y) (o.cost ∙ ap (λ y. y + o.hop.metric) b) in
              let walk_c : Walks H root v.1 u cost o.first = subst (λ (y : ℕ). Walks H root v.1 u y o.first) b walk in
              let carries : Carries at_root ports o.hop.port q =
              elim (cases_Bool at_root) [
                | inl t ↦
                    (let ur : u ≡ root = eqb-true u root (sym ar ∙ t) in
                    let f : o.first ≡ None = root_first v.1 cost o.first (subst (λ (y : ℕ). Walks H root v.1 y cost o.first) ur walk_c) (sym (ap L ur) ∙ lu) in
                    let e : Some (q + 1) ≡ Some o.hop.port = o.port ∙ ap (λ y. Some (unwrap_or y o.hop.port)) f in
                    let e2 : q + 1 ≡ o.hop.port = cc in
                    subst (λ (y : Bool). Carries y ports o.hop.port q) (sym t) (sym e2))
                | inr t ↦
                    (let ur : u ≢ root = eqb-false u root (sym ar ∙ t) in
                    let f = first_some v.1 u cost o.first ur walk_c in
                    let e : Some (q + 1) ≡ Some f.0 = o.port ∙ ap (λ y. Some (unwrap_or y o.hop.port)) f.1 in
                    let wq : Walks H root v.1 u cost (Some (q + 1)) = subst (λ (y : Option ℕ). Walks H root v.1 u cost y) (f.1 ∙ sym e) walk_c in
                    let h : HasPort ms u q = (up u q l).1 (via_from i u cost q il iu lu ur v.1 wq) in
                    let y : bit_at ports q ≡ 1 = ap (λ k. bit_at k q) pm ∙ h in
                    subst (λ (z : Bool). Carries z ports o.hop.port q) (sym t) y)
              ] in
              (p w q l).1 (inr (o.hop, there, o.to, lab, carries)))
        ],
  )

  last_hop : (w q k c : ℕ) → L w ≡ Some c → Walks H root k w c (Some (q + 1)) → IsViaFrom H root L order (length order) w q
  last_hop w q zero c lw x = absurd (let z : Some (q + 1) ≡ None = x.2 in cc)
  last_hop w q (suc k) c lw x =
      let p = earlier k w c (Some (q + 1)) x in
      let at = s.listed x.at p.0 p.1 in
      (at.0, k, c, x, at.1, lw, sym (same_place order at.0 x.at at.1 at.2))

  pub all_via : (ms : List ℕ) → AreViaFrom H root L order (length order) ms → AreVia H root L ms
  all_via ms up w q l =
      (λ h. let v = (up w q l).0 h in (suc v.1, v.2, v.5, v.3), λ v. (up w q l).1 (last_hop w q v.0 v.1 v.2 v.3))
