-- The rows at a router are its lockstep list.
use Rattle.std.proofs.Common.{◌≡◌, ℕ, zero, suc, ◌<◌, ◌≤◌, true, false, eqb, List, [], ◌++◌, refl, sym, ap, ◌∙◌, subst, arith, append-nil}
use Rattle.std.specs.List.{filter, AllByRecursion}
use Rattle.std.proofs.lemmas.Bool.{eqb-true, eqb-false, ne_eqb, eq-eqb}
use Rattle.std.proofs.lemmas.List.Sorted.{IsPermutation-refl}
use Rattle.dn_model.specs.declared.feed.External.{External}
use Rattle.dn_model.specs.Order.{event_cmp, event_total, sorted}
use Rattle.dn_model.specs.Network.{Network, Family, injected, is_at, joined, routers, sent, sent_to}
use Rattle.dn_model.specs.Settled.{IsTimed, IsFeedOf, due, lockstep, rows}
use Rattle.dn_model.specs.SoFar.{by_router}
use Rattle.dn_lists.proofs.Lists.{by_test, all_weaker, all_append, filter_none, filter_all}
use Rattle.dn_lists.proofs.Sorting.{all_in_order, in_order_is}
use Rattle.dn_model.proofs.EventOrder.{event_same}
use Rattle.dn_model.proofs.Waves.{sort, filter_sort, lockstep_is, lockstep_fine}
use Rattle.dn_model.proofs.Rows.{joined_filter, passing}
use Rattle.dn_model.proofs.Causes.{all_joined_below}
use Rattle.dn_model.proofs.Steps.{injected_at}

-- of lists that are empty but for one, there is only that one
joined_of : (n : ℕ) (f : Family) (r : ℕ) → ((s : ℕ) → s < n → (s ≡ r → ⊥) → f s ≡ []) → (r < n → joined n f ≡ f r) × (n ≤ r → joined n f ≡ [])
unfolding joined
joined_of zero f r h = (λ l. absurd (omega (arith, l)), λ l. refl)
joined_of (suc n) f r h =
    let ih = joined_of n f r (λ s l ne. h s (omega (arith, l)) ne) in (
      λ l.
          by_test (eqb n r)
          (λ g.
          let same = eqb-true n r g in
          let none = ih.1 (omega (arith, same)) in
          (λ i. none i ++ f n) ∙ ap f same)
          (λ g.
          let ne = eqb-false n r g in
          let rest = ih.0 (omega (arith, l, ne)) in
          (λ i. rest i ++ h n (omega arith) ne i) ∙ append-nil (f r)),
      λ l.
          let none = ih.1 (omega (arith, l)) in
          (λ i. none i ++ h n (omega arith) (λ e. omega (arith, l, e)) i),
    )

module _ {S : Type 0} (net : Network S) (feed : List External) where
  due_at : (f : Family) (r : ℕ) → AllByRecursion (λ e. e.router ≡ r) (due net feed f r)
  unfolding due sent_to is_at
  due_at f r =
      all_append (λ e. e.router ≡ r) (injected net.header.groups feed r) (sent_to net f r) (injected_at net net.header.groups feed r)
      (all_joined_below (λ e. e.router ≡ r) (routers net) (λ s. filter (is_at r) (sent net s (f s)))
      (λ s l. all_weaker (λ e. is_at r e ≡ true) (λ e. e.router ≡ r) (filter (is_at r) (sent net s (f s))) (λ e h. eqb-true e.router r h) (passing (is_at r) (sent net s (f s)))))

  module _ (timed : IsTimed net.header) (fed : IsFeedOf net.header feed) where
    -- each lockstep list is of its router
    pub lockstep_at : (r : ℕ) → r < routers net → AllByRecursion (λ e. e.router ≡ r) (lockstep net feed r)
    lockstep_at r l =
        subst (AllByRecursion (λ e. e.router ≡ r)) (sym (lockstep_is net feed timed fed r l))
        (all_in_order event_cmp (λ e. e.router ≡ r) (due net feed (lockstep net feed) r) (due_at (lockstep net feed) r))

    pub rows_at : (r : ℕ) → r < routers net → by_router (rows net feed) r ≡ lockstep net feed r
    unfolding rows sorted is_at
    rows_at r l =
        filter_sort (is_at r) (joined (routers net) (lockstep net feed))
        ∙ ap (λ es. sort es)
        (joined_filter (is_at r) (routers net) (lockstep net feed)
        ∙ (joined_of (routers net) (λ s. filter (is_at r) (lockstep net feed s)) r
        (λ s k ne. filter_none (is_at r) (lockstep net feed s) (all_weaker (λ e. e.router ≡ s) (λ e. is_at r e ≡ false) (lockstep net feed s) (λ e h. ne_eqb e.router r (λ x. ne (sym h ∙ x))) (lockstep_at s k)))).0 l
        ∙ filter_all (is_at r) (lockstep net feed r) (all_weaker (λ e. e.router ≡ r) (λ e. is_at r e ≡ true) (lockstep net feed r) (λ e h. eq-eqb e.router r h) (lockstep_at r l)))
        ∙ sym (in_order_is event_cmp event_total event_same (lockstep net feed r) (lockstep net feed r) (IsPermutation-refl (lockstep net feed r)) (lockstep_fine net feed timed fed r l).1)
