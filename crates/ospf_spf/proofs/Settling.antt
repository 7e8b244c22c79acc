-- One more vertex is settled.
use Rattle.std.proofs.Common.{◌≡◌, ℕ, zero, suc, ◌+◌, ◌*◌, ◌<◌, ◌≤◌, ◌≢◌, Bool, true, false, Option, Some, List, [], ◌∷◌, ◌++◌, refl, sym, ap, ◌∙◌, subst, inl, inr, arith, length, get_or, length-append}
use Rattle.std.specs.List.{Contains}
use Rattle.std.specs.Option.{unwrap_or}
use Rattle.std.specs.Global.{Vec}
use Rattle.std.proofs.lemmas.Bool.{cases_eq, cases_lt, both_ways}
use Rattle.std.proofs.lemmas.List.Elements.{Contains-append_left, Contains-push, Contains-push_cases, Contains-get_or}
use Rattle.std.proofs.lemmas.List.{get_or_append_left}
use Rattle.std.proofs.Math.Seq.{get_or-append_seam}
use Rattle.ospf_spf.specs.declared.graph.Hop.{Hop}
use Rattle.ospf_spf.specs.Search.{row, Walks, IsReached, Relaxed, IsExact, IsSearch, IsLeast, AreHops}

module _ (H : List (Vec Hop)) (root : ℕ) (L : ℕ → Option ℕ) (D E : ℕ → Bool) (F : ℕ → ℕ → Bool) (order : List ℕ) (count n v cost : ℕ) where
  -- what is known as v is settled
  pub record IsTurn : Type 0 where
    pub search : IsSearch H root L D order count n
    pub exact : IsExact L D F
    pub here : F cost v ≡ true
    pub least : (c w : ℕ) → F c w ≡ true → cost ≤ c
    pub now : E v ≡ true
    pub others : (w : ℕ) → w ≢ v → E w ≡ D w
    pub room : count < n
    pub hops : AreHops H n

  module _ (s : IsTurn) where
    pub old_label : L v ≡ Some cost
    old_label = s.exact.cost cost v s.here

    pub old_flag : D v ≡ false
    old_flag = s.exact.todo cost v s.here

    -- a settled vertex has at most this cost
    at_most : (u a : ℕ) → E u ≡ true → L u ≡ Some a → a ≤ cost
    at_most u a e l = elim (cases_eq u v) [
      | inl q ↦ (let z : Some a ≡ Some cost = sym l ∙ ap L q ∙ old_label in let y : a ≡ cost = cc in omega arith)
      | inr ne ↦ s.search.below u v a cost (sym (s.others u ne) ∙ e) old_flag l old_label
    ]

    had : (u : ℕ) → E u ≡ true → (a : ℕ) × (L u ≡ Some a) × (a + 65535 ≤ 65535 * n)
    had u e = elim (cases_eq u v) [
      | inl q ↦ (let sm = s.search.small v cost old_label in let rm = s.room in (cost, ap L q ∙ old_label, omega arith))
      | inr ne ↦ s.search.settled u (sym (s.others u ne) ∙ e)
    ]

    pub settled_by : (w : ℕ) → E w ≡ true → (c : ℕ) × (L w ≡ Some c) × (c ≤ cost)
    settled_by w e = let p = had w e in (p.0, p.1, at_most w p.0 e p.1)

    pub fits : cost + 65535 ≤ 65535 * n
    fits = (let sm = s.search.small v cost old_label in let rm = s.room in omega arith)

    module _ (M : ℕ → Option ℕ) (rel : Relaxed (row H v) cost L M) where
      -- its cost stays
      kept : (u a : ℕ) → E u ≡ true → L u ≡ Some a → M u ≡ Some a
      kept u a e l =
          let low = at_most u a e l in
          let p = rel.lower_cost u a l in
          let r : p.0 ≤ a = p.2 in
          elim (rel.origin u p.0 p.1) [
            | inl o ↦ (let z : Some p.0 ≡ Some a = sym o ∙ l in p.1 ∙ z)
            | inr o ↦ (let q : p.0 ≡ cost + o.0.metric = o.3 in let z : p.0 ≡ a = omega arith in p.1 ∙ ap (λ k. Some k) z)
          ]

      -- its cost was this before
      was : (u a : ℕ) → E u ≡ true → M u ≡ Some a → L u ≡ Some a
      was u a e m =
          let p = had u e in
          let k = kept u p.0 e p.1 in
          let z : Some p.0 ≡ Some a = sym k ∙ m in
          p.1 ∙ z

      walk_now : (w c : ℕ) → M w ≡ Some c → IsReached H root w c
      walk_now w c m = elim (rel.origin w c m) [
        | inl o ↦ s.search.walk w c o
        | inr o ↦
            (let r = s.search.walk v cost old_label in
            (suc r.0, Some (unwrap_or r.1 o.0.port), record { at = v; before = cost; first = r.1; hop = o.0; walk = r.2; there = o.1; to = o.2; cost = o.3; port = refl }))
      ]

      start_now : M root ≡ Some 0
      start_now =
          let p = rel.lower_cost root 0 s.search.start in
          let r : p.0 ≤ 0 = p.2 in
          let z : p.0 ≡ 0 = omega arith in
          p.1 ∙ ap (λ k. Some k) z

      below_now : (u w a b : ℕ) → E u ≡ true → E w ≡ false → M u ≡ Some a → M w ≡ Some b → a ≤ b
      below_now u w a b e f mu mw =
          let low = at_most u a e (was u a e mu) in
          let ne : w ≢ v = λ q. both_ways (E w) f (ap E q ∙ s.now) in
          elim (rel.origin w b mw) [
            | inl o ↦ (let z = s.least b w (s.exact.waits b w (sym (s.others w ne) ∙ f) o) in omega arith)
            | inr o ↦ (let q : b ≡ cost + o.0.metric = o.3 in omega arith)
          ]

      small_now : (w c : ℕ) → M w ≡ Some c → c ≤ 65535 * (count + 1)
      small_now w c m = elim (rel.origin w c m) [
        | inl o ↦ (let z = s.search.small w c o in omega arith)
        | inr o ↦
            (let z = s.search.small v cost old_label in
            let q : c ≡ cost + o.0.metric = o.3 in
            let y : o.0.metric ≤ 65535 = (s.hops v o.0 o.1).2 in
            omega arith)
      ]

      relaxed_now : (u c : ℕ) (h : Hop) → E u ≡ true → M u ≡ Some c → Contains (row H u) h → (b : ℕ) × (M h.to ≡ Some b) × (b ≤ c + h.metric)
      relaxed_now u c h e m i =
          let l = was u c e m in
          elim (cases_eq u v) [
            | inl q ↦
                (let z : Some c ≡ Some cost = sym l ∙ ap L q ∙ old_label in
                let y : c ≡ cost = cc in
                let p = rel.reach h (subst (λ (x : ℕ). Contains (row H x) h) q i) in
                let r : p.0 ≤ cost + h.metric = p.2 in
                (p.0, p.1, omega arith))
            | inr ne ↦
                (let o = s.search.relaxed u c h (sym (s.others u ne) ∙ e) l i in
                let p = rel.lower_cost h.to o.0 o.1 in
                let q : o.0 ≤ c + h.metric = o.2 in
                let r : p.0 ≤ o.0 = p.2 in
                (p.0, p.1, omega arith))
          ]

      flag_kept : (w : ℕ) → D w ≡ true → E w ≡ true
      flag_kept w d = elim (cases_eq w v) [
        | inl q ↦ ap E q ∙ s.now
        | inr ne ↦ s.others w ne ∙ d
      ]

      listed_now : (w : ℕ) → E w ≡ true → Contains (order ++ v ∷ []) w
      listed_now w e = elim (cases_eq w v) [
        | inl q ↦ subst (λ (x : ℕ). Contains (order ++ v ∷ []) x) (sym q) (Contains-push order v)
        | inr ne ↦ Contains-append_left order (v ∷ []) w (s.search.listed w (sym (s.others w ne) ∙ e))
      ]

      only_now : (w : ℕ) → Contains (order ++ v ∷ []) w → E w ≡ true
      only_now w i = elim (Contains-push_cases order v w i) [
        | inl o ↦ flag_kept w (s.search.only w o)
        | inr q ↦ ap E (sym q) ∙ s.now
      ]

      rising_now : (i j a b : ℕ) → i < j → j < length (order ++ v ∷ []) → M (get_or (order ++ v ∷ []) i 0) ≡ Some a → M (get_or (order ++ v ∷ []) j 0) ≡ Some b → a ≤ b
      rising_now i j a b ij jl ma mb =
          let len = length-append order (v ∷ []) in
          let il : i < length order = omega arith in
          let ei : get_or (order ++ v ∷ []) i 0 ≡ get_or order i 0 = get_or_append_left order (v ∷ []) 0 i il in
          let di : E (get_or order i 0) ≡ true = flag_kept (get_or order i 0) (s.search.only (get_or order i 0) (Contains-get_or order i 0 il)) in
          let la : L (get_or order i 0) ≡ Some a = was (get_or order i 0) a di (sym (ap M ei) ∙ ma) in
          elim (cases_lt j (length order)) [
            | inl jo ↦
                (let ej : get_or (order ++ v ∷ []) j 0 ≡ get_or order j 0 = get_or_append_left order (v ∷ []) 0 j jo in
                let dj : E (get_or order j 0) ≡ true = flag_kept (get_or order j 0) (s.search.only (get_or order j 0) (Contains-get_or order j 0 jo)) in
                s.search.rising i j a b ij jo la (was (get_or order j 0) b dj (sym (ap M ej) ∙ mb)))
            | inr jo ↦
                (let jq : j ≡ length order = omega arith in
                let ej : get_or (order ++ v ∷ []) j 0 ≡ v = ap (λ x. get_or (order ++ v ∷ []) x 0) jq ∙ get_or-append_seam order v [] 0 in
                let mv : M v ≡ Some cost = kept v cost s.now old_label in
                let z : Some b ≡ Some cost = sym mb ∙ ap M ej ∙ mv in
                let y : b ≡ cost = cc in
                let low = at_most (get_or order i 0) a di la in
                omega arith)
          ]

      pub step : IsSearch H root M E (order ++ v ∷ []) (count + 1) n
      step = record {
        walk = walk_now;
        start = start_now;
        settled = λ u e. (let p = had u e in (p.0, kept u p.0 e p.1, p.2));
        below = below_now;
        small = small_now;
        relaxed = relaxed_now;
        listed = listed_now;
        only = only_now;
        rising = rising_now;
      }

-- where nothing waits, the costs are the least
module _ (H : List (Vec Hop)) (root : ℕ) (L : ℕ → Option ℕ) (D : ℕ → Bool) (order : List ℕ) (count n : ℕ) (s : IsSearch H root L D order count n) (all : (v c : ℕ) → L v ≡ Some c → D v ≡ true) where
  pub least_walk : (k v c : ℕ) (f : Option ℕ) → Walks H root k v c f → (b : ℕ) × (L v ≡ Some b) × (b ≤ c)
  least_walk zero v c f w = (0, ap L w.0 ∙ s.start, omega arith)
  least_walk (suc k) v c f w =
      let p = least_walk k w.at w.before w.first w.walk in
      let q = s.relaxed w.at p.0 w.hop (all w.at p.0 p.1) p.1 w.there in
      let a : p.0 ≤ w.before = p.2 in
      let b : q.0 ≤ p.0 + w.hop.metric = q.2 in
      let d = w.cost in
      (q.0, ap L (sym w.to) ∙ q.1, omega arith)

  pub found : IsLeast H root L order n
  found = record {
    walk = s.walk;
    least = least_walk;
    small = λ v c l. (let p = s.settled v (all v c l) in let z : Some p.0 ≡ Some c = sym p.1 ∙ l in let y : p.0 ≡ c = cc in let x : p.0 + 65535 ≤ 65535 * n = p.2 in omega arith);
    listed = λ v c l. s.listed v (all v c l);
    only = λ v i. (let p = s.settled v (s.only v i) in (p.0, p.1));
    rising = s.rising;
  }
