-- What stands in the lists of routers.
use Rattle.std.proofs.Common.{◌≡◌, ℕ, ◌<◌, true, ltb, List, [], ◌∷◌, ◌++◌, ap, ◌∙◌}
use Rattle.std.specs.List.{filter, AllByRecursion}
use Rattle.std.specs.List.Sorted.{IsPermutation}
use Rattle.std.proofs.lemmas.Bool.{lt-ltb}
use Rattle.dn_guest.specs.declared.node.Node.{Node}
use Rattle.dn_guest.specs.Node.{node_after, node_sent}
use Rattle.dn_model.specs.declared.event.Event.{Event}
use Rattle.dn_model.specs.Order.{event_cmp, event_total}
use Rattle.dn_model.specs.Network.{Network, Family, emitted, is_at, joined, routers, opening_node, sent_from, sent, sent_to}
use Rattle.dn_model.specs.SoFar.{by_router}
use Rattle.dn_lists.proofs.Lists.{all_weaker, all_append, all_filter, filter_all}
use Rattle.dn_lists.proofs.Sorting.{count, permutation_from_counts}
use Rattle.dn_model.proofs.EventOrder.{event_same}
use Rattle.dn_model.proofs.Causes.{all_joined_below}
use Rattle.dn_model.proofs.Committed.{emitted_from}
use Rattle.dn_model.proofs.Rows.{count_by_router}

abbrev IsMessage : Event → Type 0
IsMessage e = e.key.class ≡ 2

module _ {S : Type 0} (net : Network S) where
  messages_from : (node : Node S) (es : List Event) → AllByRecursion IsMessage (sent_from net node es)
  unfolding sent_from
  messages_from node [] = tt
  messages_from node (e ∷ es) =
      let out = emitted net.header e (node_sent net.guests node e.input) in
      all_append IsMessage out (sent_from net (node_after net.guests node e.input) es)
      (all_weaker (λ w. (w.key.class ≡ 2) × (w.key.origin ≡ e.router)) IsMessage out (λ w h. h.0) (emitted_from net.header e (node_sent net.guests node e.input)))
      (messages_from (node_after net.guests node e.input) es)

  pub messages_to : (f : Family) (r : ℕ) → AllByRecursion IsMessage (sent_to net f r)
  unfolding sent_to sent
  messages_to f r =
      all_joined_below IsMessage (routers net) (λ s. filter (is_at r) (sent net s (f s)))
      (λ s l. all_filter IsMessage (is_at r) (sent net s (f s)) (messages_from (opening_node net s) (f s)))

-- a list of events at the first n routers is, up to order, its parts router by router
pub part_by_part : (n : ℕ) (es : List Event) → AllByRecursion (λ e. e.router < n) es → IsPermutation (joined n (by_router es)) es
part_by_part n es a =
    permutation_from_counts event_cmp event_total event_same (joined n (by_router es)) es
    (λ p.
    count_by_router p n es
    ∙ ap (count p) (filter_all (λ e. ltb e.router n) es (all_weaker (λ e. e.router < n) (λ e. ltb e.router n ≡ true) es (λ e h. lt-ltb e.router n h) a)))
