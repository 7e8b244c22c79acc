-- Families with the same histories are settled together.
use Rattle.std.proofs.Common.{◌≡◌, ℕ, ◌<◌, List, ◌++◌, sym, ap, subst}
use Rattle.std.specs.List.{filter}
use Rattle.std.specs.List.Sorted.{IsPermutation, IsSorted}
use Rattle.dn_model.specs.declared.key.Key.{Key}
use Rattle.dn_model.specs.declared.event.Event.{Event}
use Rattle.dn_model.specs.declared.feed.External.{External}
use Rattle.dn_model.specs.Order.{event_cmp}
use Rattle.dn_model.specs.Network.{Network, Family, injected, is_at, routers, sent, sent_to}
use Rattle.dn_model.specs.Settled.{AreSame, IsPrefixOf, IsSettled, IsSettledBelow, below, due}
use Rattle.dn_model.proofs.Rows.{joined_same}

module _ {S : Type 0} (net : Network S) (feed : List External) (f g : Family) (same : AreSame net feed f g) where
  sent_same : (r : ℕ) → sent_to net f r ≡ sent_to net g r
  unfolding sent_to
  sent_same r = joined_same (routers net) (λ s. filter (is_at r) (sent net s (f s))) (λ s. filter (is_at r) (sent net s (g s))) (λ s l. ap (λ es. filter (is_at r) (sent net s es)) (same s l))

  due_same : (r : ℕ) → due net feed f r ≡ due net feed g r
  unfolding due
  due_same r = ap (λ es. injected net.header.groups feed r ++ es) (sent_same r)

  pub settled_same : IsSettled net feed g → IsSettled net feed f
  settled_same a = record {
    sorted = λ r l. subst (IsSorted event_cmp) (sym (same r l)) (a.sorted r l);
    complete = λ r l. subst (λ es. IsPermutation es (f r)) (sym (due_same r)) (subst (IsPermutation (due net feed g r)) (sym (same r l)) (a.complete r l));
  }

module _ {S : Type 0} (net : Network S) (feed : List External) (f g : Family) (same : AreSame net feed f g) where
  pub settled_below_same : (bound : Key) → IsSettledBelow net feed bound g → IsSettledBelow net feed bound f
  settled_below_same bound a =
      let dues : (r : ℕ) → due net feed (λ s. below bound (f s)) r ≡ due net feed (λ s. below bound (g s)) r =
      λ r. due_same net feed (λ s. below bound (f s)) (λ s. below bound (g s)) (λ s l. ap (below bound) (same s l)) r in
      record {
        sorted = λ r l. subst (λ es. IsSorted event_cmp (below bound es)) (sym (same r l)) (a.sorted r l);
        prefix = λ r l. subst (λ es. IsPrefixOf (below bound es) es) (sym (same r l)) (a.prefix r l);
        complete = λ r l. subst (λ es. IsPermutation (below bound es) (below bound (f r))) (sym (dues r)) (subst (λ es. IsPermutation (below bound (due net feed (λ s. below bound (g s)) r)) (below bound es)) (sym (same r l)) (a.complete r l));
      }
