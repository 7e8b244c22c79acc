-- What code above needs of the definitions: the horizon as a least key, replays that go on, and a done list in two parts.
use Rattle.std.proofs.Common.{◌≡◌, ℕ, List, [], ◌∷◌, ◌++◌, refl, ap, ◌∙◌}
use Rattle.std.specs.Ordering.{ordering_then}
use Rattle.std.specs.declared.cmp.Ordering.TheVariants.{Equal}
use Rattle.dn_guest.specs.Node.{node_after}
use Rattle.dn_guest.specs.declared.input.Input.TheVariants.{Tick}
use Rattle.dn_guest.specs.InputOrder.{input_cmp}
use Rattle.dn_guest.specs.declared.node.Node.{Node}
use Rattle.dn_model.specs.declared.key.Key.{Key}
use Rattle.dn_model.specs.declared.event.Event.{Event}
use Rattle.dn_model.specs.Order.{key_cmp, event_cmp, key_total}
use Rattle.dn_model.specs.Network.{Network, opening_node, state_from, state}
use Rattle.dn_lists.proofs.Sorting.{turn, equal_from}
use Rattle.dn_model.proofs.EventOrder.{event_same, event_cmp_is}
use Rattle.dn_world.specs.World.{Part}
use Rattle.dn_world.specs.Steps.{kept, taken_off, is_wrong}
use Rattle.dn_world.specs.Runs.{IsPast}
use Rattle.dn_world.proofs.Parts.{until_since}

-- ---- keys

abbrev at_key : Key → Event
at_key k = record { key = k; router = 0; input = Tick 0 }

-- two keys, neither before the other, are one
pub key_same : (a b : Key) → IsPast a b → IsPast b a → a ≡ b
unfolding input_cmp
key_same a b h g =
    let equal : key_cmp a b ≡ Equal = equal_from (key_cmp a b) (turn key_cmp key_total b a ∙ h) g in
    let events : event_cmp (at_key a) (at_key b) ≡ Equal = event_cmp_is (at_key a) (at_key b) ∙ ap (λ o. ordering_then (ordering_then o Equal) Equal) equal in
    ap (λ e. e.key) (event_same (at_key a) (at_key b) events)

-- ---- replays

module _ {S : Type 0} (net : Network S) where
  from_append : (node : Node S) (xs ys : List Event) → state_from net node (xs ++ ys) ≡ state_from net (state_from net node xs) ys
  unfolding state_from
  from_append node [] ys = refl
  from_append node (x ∷ xs) ys = from_append (node_after net.guests node x.input) xs ys

  pub state_append : (r : ℕ) (xs ys : List Event) → state net r (xs ++ ys) ≡ state_from net (state net r xs) ys
  unfolding state
  state_append r xs ys = from_append (opening_node net r) xs ys

  one_more : (node : Node S) (e : Event) → state_from net node (e ∷ []) ≡ node_after net.guests node e.input
  unfolding state_from
  one_more node e = refl

  pub state_more : (r : ℕ) (xs : List Event) (e : Event) → state net r (xs ++ e ∷ []) ≡ node_after net.guests (state net r xs) e.input
  state_more r xs e = state_append r xs (e ∷ []) ∙ one_more (state net r xs) e

  pub done_in_two : (p : Part) → kept net p ++ taken_off net p ≡ p.done
  done_in_two p = until_since (is_wrong p) p.done
