-- The hops of a row, one more.
use Rattle.std.proofs.Common.{◌≡◌, ℕ, ◌+◌, ◌<◌, ◌≤◌, ◌≢◌, ◌⊎◌, Bool, Option, Some, None, List, [], ◌∷◌, ◌++◌, sym, ap, ◌∙◌, inl, inr, arith, min}
use Rattle.std.proofs.lemmas.Bool.{cases_eq, cases_lt}
use Rattle.std.proofs.lemmas.List.Elements.{Contains-append_left, Contains-push, Contains-push_cases}
use Rattle.ospf_spf.specs.declared.graph.Hop.{Hop}
use Rattle.ospf_spf.specs.Search.{lesser_cost, Relaxed, AreSettled}

pub lowered_new : (o : Option ℕ) (n : ℕ) → lesser_cost o n ≤ n
lowered_new None n = omega arith
lowered_new (Some o) n = omega arith

pub lowered_old : (o : Option ℕ) (n b : ℕ) → o ≡ Some b → lesser_cost o n ≤ b
lowered_old None n b h = cc
lowered_old (Some o) n b h = let e : o ≡ b = cc in omega arith

pub lowered_cases : (o : Option ℕ) (n c : ℕ) → Some (lesser_cost o n) ≡ Some c → (o ≡ Some c) ⊎ (c ≡ n)
lowered_cases None n c h = let e : n ≡ c = cc in inr (sym e)
lowered_cases (Some o) n c h =
    let e : min o n ≡ c = cc in
    elim (cases_lt n o) [
      | inl l ↦ inr (omega arith)
      | inr l ↦ (let q : o ≡ c = omega arith in inl (ap (λ k. Some k) q))
    ]

-- a cost that there was is there, or a lower one
pub lowered_label : (M N : ℕ → Option ℕ) (t n : ℕ) → N t ≡ Some (lesser_cost (M t) n) → ((v : ℕ) → v ≢ t → N v ≡ M v) → (w b : ℕ) → M w ≡ Some b → (a : ℕ) × (N w ≡ Some a) × (a ≤ b)
lowered_label M N t n nt ns w b h =
    elim (cases_eq w t) [
      | inl e ↦ (lesser_cost (M t) n, ap N e ∙ nt, lowered_old (M t) n b (sym (ap M e) ∙ h))
      | inr ne ↦ (b, ns w ne ∙ h, omega arith)
    ]

pub relaxed_none : (cost : ℕ) (L : ℕ → Option ℕ) → Relaxed [] cost L L
relaxed_none cost L = record {
  origin = λ w c h. inl h;
  lower_cost = λ w c h. (c, h, omega arith);
  reach = λ h i. absurd (let k : i.0 < 0 = i.1 in omega arith);
}

pub relaxed_push : (rs : List Hop) (h : Hop) (cost : ℕ) (L M N : ℕ → Option ℕ) → Relaxed rs cost L M → N h.to ≡ Some (lesser_cost (M h.to) (cost + h.metric)) → ((v : ℕ) → v ≢ h.to → N v ≡ M v) → Relaxed (rs ++ h ∷ []) cost L N
relaxed_push rs h cost L M N x nt ns =
    let new : (w c : ℕ) → N w ≡ Some c → (M w ≡ Some c) ⊎ ((h.to ≡ w) × (c ≡ cost + h.metric)) = λ w c k.
    elim (cases_eq w h.to) [
      | inl e ↦ elim (lowered_cases (M h.to) (cost + h.metric) c (sym nt ∙ sym (ap N e) ∙ k)) [
        | inl o ↦ inl (ap M e ∙ o)
        | inr n ↦ inr (sym e, n)
      ]
      | inr ne ↦ inl (sym (ns w ne) ∙ k)
    ] in
    let down = lowered_label M N h.to (cost + h.metric) nt ns in
    record {
      origin = λ w c k. elim (new w c k) [
        | inl o ↦ elim (x.origin w c o) [
          | inl p ↦ inl p
          | inr p ↦ inr (p.0, Contains-append_left rs (h ∷ []) p.0 p.1, p.2, p.3)
        ]
        | inr p ↦ inr (h, Contains-push rs h, p.0, p.1)
      ];
      lower_cost = λ w c k. (let p = x.lower_cost w c k in let q = down w p.0 p.1 in let s : p.0 ≤ c = p.2 in let r : q.0 ≤ p.0 = q.2 in (q.0, q.1, omega arith));
      reach = λ i k. elim (Contains-push_cases rs h i k) [
        | inl o ↦ (let p = x.reach i o in let q = down i.to p.0 p.1 in let s : p.0 ≤ cost + i.metric = p.2 in let r : q.0 ≤ p.0 = q.2 in (q.0, q.1, omega arith))
        | inr e ↦
            (lesser_cost (M h.to) (cost + h.metric), ap (λ (j : Hop). N j.to) (sym e) ∙ nt, (let l = lowered_new (M h.to) (cost + h.metric) in let m : h.metric ≡ i.metric = ap (λ (j : Hop). j.metric) e in omega arith))
      ];
    }

-- what is settled stays settled, at a cost that is no greater
pub settled_still : (L M : ℕ → Option ℕ) (D : ℕ → Bool) (t n k : ℕ) → AreSettled L D k → M t ≡ Some (lesser_cost (L t) n) → ((v : ℕ) → v ≢ t → M v ≡ L v) → AreSettled M D k
settled_still L M D t n k a mt ms v d =
    let p = a v d in
    let q = lowered_label L M t n mt ms v p.0 p.1 in
    let r : p.0 ≤ k = p.2 in
    let s : q.0 ≤ p.0 = q.2 in
    (q.0, q.1, omega arith)
