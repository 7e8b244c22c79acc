-- The best of the offers, with one more.
use Rattle.std.proofs.Common.{◌≡◌, ℕ, ◌<◌, ◌⊎◌, true, cond, ◌||◌, bit_or, Option, Some, None, List, [], ◌∷◌, ◌++◌, refl, sym, ap, ◌∙◌, subst, inl, inr, arith, length, get_or}
use Rattle.std.specs.List.{Contains}
use Rattle.std.specs.Int.{bit_at}
use Rattle.std.specs.Ordering.{is_eq, nat_cmp, ordering_then}
use Rattle.std.specs.declared.cmp.Ordering.{Ordering}
use Rattle.std.specs.declared.cmp.Ordering.TheVariants.{Less, Equal, Greater}
use Rattle.std.specs.BTreeMap.{BTreeMap, get, Updates, IsOrdered, values, keys}
use Rattle.std.specs.Map.{lookup}
use Rattle.std.proofs.lemmas.Cmp.{ranked}
use Rattle.std.proofs.lemmas.List.{get_or-map, length-map}
use Rattle.std.proofs.lemmas.Map.Keys.{Less-from_sorted}
use Rattle.std.proofs.lemmas.Map.Views.{btree_map_get_iff}
use Rattle.std.proofs.lemmas.Map.Lookups.{exact_unsigned, exact_pairs, CmpEqualImpliesEq}
use Rattle.std.proofs.lemmas.Bool.{cases_order, cases_Bool, both_ways, or_cases, or_left, or_right}
use Rattle.std.proofs.lemmas.List.Elements.{Contains-append_left, Contains-push, Contains-push_cases, Contains-get_or}
use Rattle.ospf_spf.specs.declared.route.Route.{Route}
use Rattle.ospf_spf.specs.Search.{pair_cmp}
use Rattle.ospf_spf.specs.Offers.{IsSame, IsMerged, IsBest, AreGathered}
use Rattle.ospf_spf.proofs.Frontier.{tied, one_pair, pair_total}
use Rattle.ospf_spf.proofs.Passing.{more_bits}

none_in : {X : Type 0} (x : X) → Contains [] x → ⊥
none_in x i = let k : i.0 < 0 = i.1 in omega arith

-- an offer of another prefix changes nothing
merged_other : (os : List Route) (n r : Route) → IsMerged os r → (IsSame n r → ⊥) → IsMerged (os ++ n ∷ []) r
merged_other os n r m ne = record {
  cost = (m.cost.0, Contains-append_left os (n ∷ []) m.cost.0 m.cost.1, m.cost.2, m.cost.3);
  least = λ o i s. elim (Contains-push_cases os n o i) [
    | inl x ↦ m.least o x s
    | inr e ↦ absurd (ne (subst (λ (y : Route). IsSame y r) (sym e) s))
  ];
  own = (
    λ h. let p = m.own.0 h in (p.0, Contains-append_left os (n ∷ []) p.0 p.1, p.2, p.3, p.4),
    λ p. elim (Contains-push_cases os n p.0 p.1) [
      | inl x ↦ m.own.1 (p.0, x, p.2, p.3, p.4)
      | inr e ↦ absurd (ne (subst (λ (y : Route). IsSame y r) (sym e) p.2))
    ],
  );
  via = λ q l. (
    λ h. let p = (m.via q l).0 h in (p.0, Contains-append_left os (n ∷ []) p.0 p.1, p.2, p.3, p.4),
    λ p. elim (Contains-push_cases os n p.0 p.1) [
      | inl x ↦ (m.via q l).1 (p.0, x, p.2, p.3, p.4)
      | inr e ↦ absurd (ne (subst (λ (y : Route). IsSame y r) (sym e) p.2))
    ],
  );
}

-- the offer is the only one at its cost and prefix
merged_alone : (os : List Route) (n : Route) → ((o : Route) → Contains os o → IsSame o n → n.cost < o.cost) → IsMerged (os ++ n ∷ []) n
merged_alone os n dear = record {
  cost = (n, Contains-push os n, (refl, refl), refl);
  least = λ o i s. elim (Contains-push_cases os n o i) [
    | inl x ↦ (let d = dear o x s in omega arith)
    | inr e ↦ (let c : n.cost ≡ o.cost = ap (λ (y : Route). y.cost) e in omega arith)
  ];
  own = (
    λ h. (n, Contains-push os n, (refl, refl), refl, h),
    λ p. elim (Contains-push_cases os n p.0 p.1) [
      | inl x ↦ absurd (let d = dear p.0 x p.2 in let e : p.0.cost ≡ n.cost = p.3 in omega arith)
      | inr e ↦ ap (λ (y : Route). y.own) e ∙ p.4
    ],
  );
  via = λ q l. (
    λ h. (n, Contains-push os n, (refl, refl), refl, h),
    λ p. elim (Contains-push_cases os n p.0 p.1) [
      | inl x ↦ absurd (let d = dear p.0 x p.2 in let e : p.0.cost ≡ n.cost = p.3 in omega arith)
      | inr e ↦ ap (λ (y : Route). bit_at y.via q) e ∙ p.4
    ],
  );
}

-- the offer is dearer
merged_dearer : (os : List Route) (n r : Route) → IsMerged os r → r.cost < n.cost → IsMerged (os ++ n ∷ []) r
merged_dearer os n r m d = record {
  cost = (m.cost.0, Contains-append_left os (n ∷ []) m.cost.0 m.cost.1, m.cost.2, m.cost.3);
  least = λ o i s. elim (Contains-push_cases os n o i) [
    | inl x ↦ m.least o x s
    | inr e ↦ (let c : n.cost ≡ o.cost = ap (λ (y : Route). y.cost) e in omega arith)
  ];
  own = (
    λ h. let p = m.own.0 h in (p.0, Contains-append_left os (n ∷ []) p.0 p.1, p.2, p.3, p.4),
    λ p. elim (Contains-push_cases os n p.0 p.1) [
      | inl x ↦ m.own.1 (p.0, x, p.2, p.3, p.4)
      | inr e ↦ absurd (let c : n.cost ≡ p.0.cost = ap (λ (y : Route). y.cost) e in let f : p.0.cost ≡ r.cost = p.3 in omega arith)
    ],
  );
  via = λ q l. (
    λ h. let p = (m.via q l).0 h in (p.0, Contains-append_left os (n ∷ []) p.0 p.1, p.2, p.3, p.4),
    λ p. elim (Contains-push_cases os n p.0 p.1) [
      | inl x ↦ (m.via q l).1 (p.0, x, p.2, p.3, p.4)
      | inr e ↦ absurd (let c : n.cost ≡ p.0.cost = ap (λ (y : Route). y.cost) e in let f : p.0.cost ≡ r.cost = p.3 in omega arith)
    ],
  );
}

abbrev pub both : Route → Route → Route
both o n = record { prefix = o.prefix; len = o.len; cost = o.cost; own = o.own || n.own; via = bit_or o.via n.via }

-- the offer is of the same cost
merged_both : (os : List Route) (n r : Route) → IsMerged os r → IsSame n r → r.cost ≡ n.cost → IsMerged (os ++ n ∷ []) (both r n)
merged_both os n r m s d = record {
  cost = (m.cost.0, Contains-append_left os (n ∷ []) m.cost.0 m.cost.1, m.cost.2, m.cost.3);
  least = λ o i t. elim (Contains-push_cases os n o i) [
    | inl x ↦ m.least o x t
    | inr e ↦ (let c : n.cost ≡ o.cost = ap (λ (y : Route). y.cost) e in omega arith)
  ];
  own = (
    λ h. elim (or_cases r.own n.own h) [
      | inl x ↦ (let p = m.own.0 x in (p.0, Contains-append_left os (n ∷ []) p.0 p.1, p.2, p.3, p.4))
      | inr x ↦ (n, Contains-push os n, s, sym d, x)
    ],
    λ p. elim (Contains-push_cases os n p.0 p.1) [
      | inl x ↦ or_left r.own n.own (m.own.1 (p.0, x, p.2, p.3, p.4))
      | inr e ↦ or_right r.own n.own (ap (λ (y : Route). y.own) e ∙ p.4)
    ],
  );
  via = λ q l.
      let b = more_bits r.via n.via q in (
        λ h. elim (b.0 h) [
          | inl x ↦ (let p = (m.via q l).0 x in (p.0, Contains-append_left os (n ∷ []) p.0 p.1, p.2, p.3, p.4))
          | inr x ↦ (n, Contains-push os n, s, sym d, x)
        ],
        λ p. elim (Contains-push_cases os n p.0 p.1) [
          | inl x ↦ b.1 (inl ((m.via q l).1 (p.0, x, p.2, p.3, p.4)))
          | inr e ↦ b.1 (inr (ap (λ (y : Route). bit_at y.via q) e ∙ p.4))
        ],
      );
}

pair_path : (a b c d : ℕ) → a ≡ c → b ≡ d → ◌≡◌ {A = ℕ × ℕ} (a, b) (c, d)
pair_path a b c d e f = let g : ℕ → ℕ → ℕ × ℕ = λ x y. (x, y) in ap (λ x. g x b) e ∙ ap (λ y. g c y) f

-- what the map gets for the prefix of an offer
pub merged_old : (os : List Route) (n r k : Route) → IsMerged os r → IsSame n r → (n.cost < r.cost → k ≡ n) → (r.cost < n.cost → k ≡ r) → (r.cost ≡ n.cost → k ≡ both r n) → IsMerged (os ++ n ∷ []) k
merged_old os n r k m s c d b = elim (cases_order n.cost r.cost) [
  | inl e ↦ subst (λ (x : Route). IsMerged (os ++ n ∷ []) x) (sym (b (sym e))) (merged_both os n r m s (sym e))
  | inr x ↦ elim x [
    | inl y ↦ subst (λ (z : Route). IsMerged (os ++ n ∷ []) z) (sym (c y)) (merged_alone os n (λ o i t. let l = m.least o i (t.0 ∙ s.0, t.1 ∙ s.1) in omega arith))
    | inr y ↦ subst (λ (z : Route). IsMerged (os ++ n ∷ []) z) (sym (d y)) (merged_dearer os n r m y)
  ]
]

pub merged_new : (os : List Route) (n : Route) → ((o : Route) → Contains os o → o.prefix ≡ n.prefix → o.len ≡ n.len → ⊥) → IsMerged (os ++ n ∷ []) n
merged_new os n none = merged_alone os n (λ o i s. absurd (none o i s.0 s.1))

-- the map after the offer
pub best_more : (os : List Route) (n k : Route) (m t : BTreeMap (ℕ × ℕ) Route) → IsBest os m → IsMerged (os ++ n ∷ []) k → IsSame k n → Updates pair_cmp m t (n.prefix, n.len) (Some k) → IsBest (os ++ n ∷ []) t
best_more os n k m t b g s u = record {
  known = λ p l r h.
      elim (cases_Bool (is_eq (pair_cmp (n.prefix, n.len) (p, l)))) [
        | inl e ↦
            (let q = one_pair (n.prefix, n.len) (p, l) e in
            let z : Some k ≡ Some r = sym (u.0 (p, l) ∙ ap (λ x. cond x (Some k) (get pair_cmp m (p, l))) e) ∙ h in
            let y : k ≡ r = cc in
            subst (λ (x : Route). (x.prefix ≡ p) × (x.len ≡ l) × IsMerged (os ++ n ∷ []) x) y
            (s.0 ∙ ap (λ (x : ℕ × ℕ). x.0) q, s.1 ∙ ap (λ (x : ℕ × ℕ). x.1) q, g))
        | inr e ↦
            (let z = b.known p l r (sym (u.2 (p, l) e) ∙ h) in
            (z.0, z.1, merged_other os n r z.2 (λ i. both_ways _ e (subst (λ (x : ℕ × ℕ). is_eq (pair_cmp (n.prefix, n.len) x) ≡ true) (pair_path n.prefix n.len p l (i.0 ∙ z.0) (i.1 ∙ z.1)) (tied n.prefix n.len)))))
      ];
  none = λ p l h o i op ol.
      elim (cases_Bool (is_eq (pair_cmp (n.prefix, n.len) (p, l)))) [
        | inl e ↦ (let z : Some k ≡ None = sym (u.0 (p, l) ∙ ap (λ x. cond x (Some k) (get pair_cmp m (p, l))) e) ∙ h in cc)
        | inr e ↦
            elim (Contains-push_cases os n o i) [
              | inl x ↦ b.none p l (sym (u.2 (p, l) e) ∙ h) o x op ol
              | inr q ↦ both_ways _ e (subst (λ (x : ℕ × ℕ). is_eq (pair_cmp (n.prefix, n.len) x) ≡ true) (pair_path n.prefix n.len p l (ap (λ (x : Route). x.prefix) q ∙ op) (ap (λ (x : Route). x.len) q ∙ ol)) (tied n.prefix n.len))
            ]
      ];
}

pub best_none : (m : BTreeMap (ℕ × ℕ) Route) → m.entries ≡ [] → IsBest [] m
best_none m e = record {
  known = λ p l r h. absurd (let z : get pair_cmp m (p, l) ≡ None = ap (λ (es : List ((ℕ × ℕ) × Route)). lookup (λ k. is_eq (pair_cmp (p, l) k)) es) e in let y : None ≡ Some r = sym z ∙ h in cc);
  none = λ p l h o i. absurd (none_in o i);
}

pub then_less : (o p : Ordering) → ordering_then o p ≡ Less → (o ≡ Less) ⊎ ((o ≡ Equal) × (p ≡ Less))
then_less Less p h = inl refl
then_less Equal p h = inr (refl, h)
then_less Greater p h = cc

pub cmp_less : (a b : ℕ) → nat_cmp a b ≡ Less → a < b
cmp_less a b h = ranked a b Less (sym h)

pair_less : (a b c d : ℕ) → pair_cmp (a, b) (c, d) ≡ Less → (a < c) ⊎ ((a ≡ c) × (b < d))
pair_less a b c d h = elim (then_less (nat_cmp a c) (nat_cmp b d) h) [
  | inl e ↦ inl (cmp_less a c e)
  | inr e ↦ inr (exact_unsigned a c e.0, cmp_less b d e.1)
]

pub by_option : {X : Type 0} {A : Type 0} (x : Option X) → (x ≡ None → A) → ((v : X) → x ≡ Some v → A) → A
by_option None f g = f refl
by_option (Some v) f g = g v refl

exact_pair : CmpEqualImpliesEq pair_cmp
exact_pair = exact_pairs nat_cmp nat_cmp exact_unsigned exact_unsigned

module _ (os : List Route) (m : BTreeMap (ℕ × ℕ) Route) (b : IsBest os m) (o : IsOrdered pair_cmp m) where
  value_at : (i : ℕ) (d : Route) → i < length m.entries → get_or (values m) i d ≡ (get_or m.entries i ((0, 0), d)).1
  value_at i d l = get_or-map (λ (e : (ℕ × ℕ) × Route). e.1) m.entries i ((0, 0), d) d l

  key_at : (i : ℕ) (d : Route) → i < length m.entries → get_or (keys m) i (0, 0) ≡ (get_or m.entries i ((0, 0), d)).0
  key_at i d l = get_or-map (λ (e : (ℕ × ℕ) × Route). e.0) m.entries i ((0, 0), d) (0, 0) l

  known_at : (i : ℕ) (d : Route) → i < length m.entries → (get_or (values m) i d).prefix ≡ (get_or (keys m) i (0, 0)).0 × (get_or (values m) i d).len ≡ (get_or (keys m) i (0, 0)).1 × IsMerged os (get_or (values m) i d)
  known_at i d l =
      let e : (ℕ × ℕ) × Route = get_or m.entries i ((0, 0), d) in
      let c : Contains m.entries (e.0, e.1) = Contains-get_or m.entries i ((0, 0), d) l in
      let g : get pair_cmp m e.0 ≡ Some e.1 = (btree_map_get_iff pair_total exact_pair m o e.0 e.1).1 c in
      let k = b.known e.0.0 e.0.1 e.1 g in
      let v = value_at i d l in
      let q = key_at i d l in
      (ap (λ (r : Route). r.prefix) v ∙ k.0 ∙ sym (ap (λ (p : ℕ × ℕ). p.0) q), ap (λ (r : Route). r.len) v ∙ k.1 ∙ sym (ap (λ (p : ℕ × ℕ). p.1) q), subst (λ (r : Route). IsMerged os r) (sym v) k.2)

  entries_length : length (values m) ≡ length m.entries
  entries_length = length-map m.entries (λ (e : (ℕ × ℕ) × Route). e.1)

  keys_length : length (keys m) ≡ length m.entries
  keys_length = length-map m.entries (λ (e : (ℕ × ℕ) × Route). e.0)

  pub gathered : AreGathered os (values m)
  gathered = record {
    each = λ i d l. (known_at i d (let n = entries_length in let k : i < length m.entries = omega arith in k)).2;
    all = λ x i.
        by_option (get pair_cmp m (x.prefix, x.len)) (λ h. absurd (b.none x.prefix x.len h x i refl refl))
        (λ r h.
        let k = b.known x.prefix x.len r h in
        let c = (btree_map_get_iff pair_total exact_pair m o (x.prefix, x.len) r).0 h in
        let v : get_or (values m) c.0 r ≡ r = get_or-map (λ (e : (ℕ × ℕ) × Route). e.1) m.entries c.0 ((x.prefix, x.len), r) r c.1 ∙ ap (λ (e : (ℕ × ℕ) × Route). e.1) c.2 in
        (r, (c.0, (let n = entries_length in let a : c.0 < length m.entries = c.1 in let z : c.0 < length (values m) = omega arith in z), v), (sym k.0, sym k.1)));
    order = λ i j d ij jl.
        let n = entries_length in
        let kn = keys_length in
        let je : j < length m.entries = omega arith in
        let ie : i < length m.entries = omega arith in
        let jk : j < length (keys m) = omega arith in
        let less = Less-from_sorted pair_cmp (keys m) i j (0, 0) o ij jk in
        let a = known_at i d ie in
        let c = known_at j d je in
        elim (pair_less (get_or (keys m) i (0, 0)).0 (get_or (keys m) i (0, 0)).1 (get_or (keys m) j (0, 0)).0 (get_or (keys m) j (0, 0)).1 less) [
          | inl x ↦ inl (let p = a.0 in let q = c.0 in omega arith)
          | inr x ↦ inr (a.0 ∙ x.0 ∙ sym c.0, (let p = a.1 in let q = c.1 in let y = x.1 in omega arith))
        ];
  }

-- the merged offer is of the same prefix
pub same_old : (n r k : Route) → IsSame r n → (n.cost < r.cost → k ≡ n) → (r.cost < n.cost → k ≡ r) → (r.cost ≡ n.cost → k ≡ both r n) → IsSame k n
same_old n r k s c d b = elim (cases_order n.cost r.cost) [
  | inl e ↦ (ap (λ (x : Route). x.prefix) (b (sym e)) ∙ s.0, ap (λ (x : Route). x.len) (b (sym e)) ∙ s.1)
  | inr x ↦ elim x [
    | inl y ↦ (ap (λ (x : Route). x.prefix) (c y), ap (λ (x : Route). x.len) (c y))
    | inr y ↦ (ap (λ (x : Route). x.prefix) (d y) ∙ s.0, ap (λ (x : Route). x.len) (d y) ∙ s.1)
  ]
]
