-- There is one list of routes.
use Rattle.std.proofs.Common.{◌≡◌, ℕ, zero, suc, ◌+◌, ◌^◌, ◌<◌, ◌≤◌, ◌⊎◌, ◌↔◌, Bool, true, false, List, [], ◌∷◌, refl, sym, ap, ◌∙◌, subst, inl, inr, arith, length}
use Rattle.std.specs.List.{Contains, All}
use Rattle.std.specs.Int.{bit_at}
use Rattle.std.proofs.lemmas.Bool.{cases_eq}
use Rattle.std.proofs.lemmas.Nat.Bits.{bit_at-lt, same_from_bits_below}
use Rattle.std.proofs.lemmas.List.Elements.{All-contains}
use Rattle.ospf_spf.specs.declared.route.Route.{Route}
use Rattle.ospf_spf.specs.declared.graph.Vertex.{Vertex}
use Rattle.ospf_spf.specs.Walks.{Edge}
use Rattle.ospf_spf.specs.Routes.{Gives, IsRoute, AreRoutes, IsBefore, AreAscending}

one_flag : (a b : Bool) (P : Type 0) → (a ≡ true) ↔ P → (b ≡ true) ↔ P → a ≡ b
one_flag true b P f g = sym (g.1 (f.0 refl))
one_flag false true P f g = f.1 (g.0 refl)
one_flag false false P f g = refl

one_bit : (m n : ℕ) (P : Type 0) → m < 2 → n < 2 → (m ≡ 1) ↔ P → (n ≡ 1) ↔ P → m ≡ n
one_bit m n P lm ln f g = elim (cases_eq m 1) [
  | inl e ↦ (let k : n ≡ 1 = g.1 (f.0 e) in omega arith)
  | inr e ↦ elim (cases_eq n 1) [
    | inl k ↦ (let z : m ≡ 1 = f.1 (g.0 k) in omega arith)
    | inr k ↦ omega arith
  ]
]

module _ (g : List Vertex) (root : ℕ) where
  one_cost : (r s : Route) → IsRoute g root r → IsRoute g root s → r.prefix ≡ s.prefix → r.len ≡ s.len → r.cost ≡ s.cost
  one_cost r s a b p l =
      let w = a.walk in
      let v = b.walk in
      let x : s.cost ≤ r.cost = b.least w.0 r.cost (subst (λ (n : ℕ). Gives g root w.0 s.prefix n r.cost) l (subst (λ (n : ℕ). Gives g root w.0 n r.len r.cost) p w.1)) in
      let y : r.cost ≤ s.cost = a.least v.0 s.cost (subst (λ (n : ℕ). Gives g root v.0 r.prefix n s.cost) (sym l) (subst (λ (n : ℕ). Gives g root v.0 n s.len s.cost) (sym p) v.1)) in
      omega arith

  -- routes to one prefix are the same
  one_route : (r s : Route) → IsRoute g root r → IsRoute g root s → r.via < 2 ^ 16 → s.via < 2 ^ 16 → r.prefix ≡ s.prefix → r.len ≡ s.len → r ≡ s
  one_route r s a b rv sv p l =
      let c = one_cost r s a b p l in
      let at : ℕ → ℕ → ℕ → Type 0 = λ x y z. Gives g root [] x y z in
      let go : (x y z : ℕ) → r.prefix ≡ x → r.len ≡ y → r.cost ≡ z → (r.own ≡ true) ↔ Gives g root [] x y z = λ x y z e f h.
      subst (λ (n : ℕ). (r.own ≡ true) ↔ Gives g root [] x y n) h (subst (λ (n : ℕ). (r.own ≡ true) ↔ Gives g root [] x n r.cost) f (subst (λ (n : ℕ). (r.own ≡ true) ↔ Gives g root [] n r.len r.cost) e a.own)) in
      let o : r.own ≡ s.own = one_flag r.own s.own (Gives g root [] s.prefix s.len s.cost) (go s.prefix s.len s.cost p l c) b.own in
      let Via : ℕ → ℕ → ℕ → ℕ → Type 0 = λ x y z q. (e : Edge) × (es : List Edge) × Gives g root (e ∷ es) x y z × (e.link.data ≡ q + 1) in
      let v : r.via ≡ s.via =
      same_from_bits_below 16 r.via s.via rv sv
      (λ q ql.
      one_bit (bit_at r.via q) (bit_at s.via q) (Via s.prefix s.len s.cost q) (bit_at-lt r.via q) (bit_at-lt s.via q)
      (subst (λ (n : ℕ). (bit_at r.via q ≡ 1) ↔ Via s.prefix s.len n q) c (subst (λ (n : ℕ). (bit_at r.via q ≡ 1) ↔ Via s.prefix n r.cost q) l (subst (λ (n : ℕ). (bit_at r.via q ≡ 1) ↔ Via n r.len r.cost q) p (a.via q ql))))
      (b.via q ql)) in
      let f : ℕ → ℕ → ℕ → Bool → ℕ → Route = λ x y z u w. record { prefix = x; len = y; cost = z; own = u; via = w } in
      ap (λ x. f x r.len r.cost r.own r.via) p ∙ ap (λ x. f s.prefix x r.cost r.own r.via) l ∙ ap (λ x. f s.prefix s.len x r.own r.via) c ∙ ap (λ x. f s.prefix s.len s.cost x r.via) o ∙ ap (λ x. f s.prefix s.len s.cost s.own x) v

-- before is an order
not_before : (r s : Route) → IsBefore r s → IsBefore s r → ⊥
not_before r s a b = elim a [
  | inl x ↦ elim b [ inl y ↦ omega arith | inr y ↦ (let k = y.0 in omega arith) ]
  | inr x ↦ elim b [ inl y ↦ (let k = x.0 in omega arith) | inr y ↦ (let k = x.1 in let l = y.1 in omega arith) ]
]

not_itself : (r : Route) → IsBefore r r → ⊥
not_itself r a = not_before r r a a

pub tail_in : (r x : Route) (rs : List Route) → Contains (r ∷ rs) x → (r ≡ x) ⊎ Contains rs x
tail_in r x rs (zero, l, e) = inl e
tail_in r x rs (suc k, l, e) = inr (k, (let z : k < length rs = omega arith in z), e)

pub in_tail : (r x : Route) (rs : List Route) → Contains rs x → Contains (r ∷ rs) x
in_tail r x rs i = (suc i.0, (let l : i.0 < length rs = i.1 in let z : suc i.0 < length (r ∷ rs) = omega arith in z), i.2)

before_tail : (r x : Route) (rs : List Route) → AreAscending (r ∷ rs) → Contains rs x → IsBefore r x
before_tail r x rs o i =
    let l : i.0 < length rs = i.1 in
    subst (λ (y : Route). IsBefore r y) i.2 (o 0 (suc i.0) x (omega arith) (omega arith))

ascending_tail : (r : Route) (rs : List Route) → AreAscending (r ∷ rs) → AreAscending rs
ascending_tail r rs o i j d ij jl = o (suc i) (suc j) d (omega arith) (omega arith)

-- ascending lists with the same elements are the same
same_lists : (rs ss : List Route) → AreAscending rs → AreAscending ss → ((x : Route) → Contains rs x → Contains ss x) → ((x : Route) → Contains ss x → Contains rs x) → rs ≡ ss
same_lists [] [] a b f g = refl
same_lists [] (s ∷ ss) a b f g = absurd (let i = g s (0, omega arith, refl) in let k : i.0 < 0 = i.1 in omega arith)
same_lists (r ∷ rs) [] a b f g = absurd (let i = f r (0, omega arith, refl) in let k : i.0 < 0 = i.1 in omega arith)
same_lists (r ∷ rs) (s ∷ ss) a b f g =
    let e : r ≡ s =
    elim (tail_in s r ss (f r (0, omega arith, refl))) [
      | inl q ↦ sym q
      | inr i ↦ elim (tail_in r s rs (g s (0, omega arith, refl))) [
        | inl q ↦ q
        | inr j ↦ absurd (not_before r s (before_tail r s rs a j) (before_tail s r ss b i))
      ]
    ] in
    let ih =
    same_lists rs ss (ascending_tail r rs a) (ascending_tail s ss b)
    (λ x i. elim (tail_in s x ss (f x (in_tail r x rs i))) [
      | inl q ↦ absurd (not_itself r (subst (λ (y : Route). IsBefore r y) (sym (e ∙ q)) (before_tail r x rs a i)))
      | inr j ↦ j
    ])
    (λ x i. elim (tail_in r x rs (g x (in_tail s x ss i))) [
      | inl q ↦ absurd (not_itself s (subst (λ (y : Route). IsBefore s y) (sym (sym e ∙ q)) (before_tail s x ss b i)))
      | inr j ↦ j
    ]) in
    ap (λ (y : Route). y ∷ rs) e ∙ ap (λ (ys : List Route). s ∷ ys) ih

same_members : (g : List Vertex) (root : ℕ) (rs ss : List Route) → AreRoutes g root rs → AreRoutes g root ss → All (λ r. r.via < 2 ^ 16) rs → All (λ r. r.via < 2 ^ 16) ss → (x : Route) → Contains rs x → Contains ss x
same_members g root rs ss a b rv sv x i =
    let y = All-contains (IsRoute g root) rs x a.each i in
    let w = y.walk in
    let s = b.all w.0 x.prefix x.len x.cost w.1 in
    let z = All-contains (IsRoute g root) ss s.0 b.each s.1 in
    let e = one_route g root s.0 x z y (All-contains (λ (r : Route). r.via < 2 ^ 16) ss s.0 sv s.1) (All-contains (λ (r : Route). r.via < 2 ^ 16) rs x rv i) s.2 s.3 in
    subst (λ (q : Route). Contains ss q) e s.1

pub one_list : (g : List Vertex) (root : ℕ) (rs ss : List Route) → AreRoutes g root rs → AreRoutes g root ss → All (λ r. r.via < 2 ^ 16) rs → All (λ r. r.via < 2 ^ 16) ss → rs ≡ ss
one_list g root rs ss a b rv sv = same_lists rs ss a.order b.order (same_members g root rs ss a b rv sv) (same_members g root ss rs b a sv rv)
