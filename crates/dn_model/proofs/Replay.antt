-- What a replay sends up to some point comes from the entries up to that point.
use Rattle.std.proofs.Common.{◌≡◌, ℕ, zero, suc, ◌<◌, Bool, true, false, List, [], ◌∷◌, ◌++◌, refl, sym, ap, ◌∙◌, arith}
use Rattle.std.proofs.lemmas.Bool.{both_ways}
use Rattle.std.specs.List.{filter, AllByRecursion}
use Rattle.dn_guest.specs.declared.node.Sent.{Sent}
use Rattle.dn_guest.specs.declared.node.Node.{Node}
use Rattle.dn_model.specs.declared.event.Event.{Event}
use Rattle.dn_model.specs.declared.feed.External.{External}
use Rattle.dn_guest.specs.Node.{node_after, node_sent}
use Rattle.dn_model.specs.Network.{Network, Family, emitted, injected, is_at, joined, routers, sent_from, sent, sent_to, opening_node}
use Rattle.dn_model.specs.Settled.{due}
use Rattle.dn_lists.proofs.Lists.{by_test, Falls, no_more, all_weaker, filter_append, filter_none, filter_comm}

-- each event that passes w has a cause that passes q
abbrev pub Carries : {S : Type 0} → Network S → (W : Event → Type 0) (q w : Event → Bool) → Type 0
Carries net W q w =
    (e : Event) (sents : List Sent) → W e → AllByRecursion (λ x. w x ≡ true → q e ≡ true) (emitted net.header e sents)

yes_filter : (q : Event → Bool) (e : Event) (es : List Event) → q e ≡ true → filter q (e ∷ es) ≡ e ∷ filter q es
yes_filter q e es h = simp h

module _ {S : Type 0} (net : Network S) (W : Event → Type 0) (q w : Event → Bool) (carries : Carries net W q w) where
  nothing_emitted : (e : Event) (sents : List Sent) → W e → q e ≡ false → filter w (emitted net.header e sents) ≡ []
  nothing_emitted e sents a h =
      filter_none w (emitted net.header e sents)
      (all_weaker (λ x. w x ≡ true → q e ≡ true) (λ x. w x ≡ false) (emitted net.header e sents)
      (λ x f. by_test (w x) (λ g. absurd (both_ways (q e) h (f g))) (λ g. g)) (carries e sents a))

  nothing_sent : (node : Node S) (es : List Event) → AllByRecursion W es → AllByRecursion (λ e. q e ≡ false) es → filter w (sent_from net node es) ≡ []
  unfolding sent_from
  nothing_sent node [] a h = refl
  nothing_sent node (e ∷ es) a h =
      let first = emitted net.header e (node_sent net.guests node e.input) in
      let next = node_after net.guests node e.input in
      filter_append w first (sent_from net next es)
      ∙ ap (λ l. l ++ filter w (sent_from net next es)) (nothing_emitted e (node_sent net.guests node e.input) a.0 h.0)
      ∙ nothing_sent next es a.1 h.1

  pub sent_until : (node : Node S) (es : List Event) → AllByRecursion W es → Falls q es → filter w (sent_from net node es) ≡ filter w (sent_from net node (filter q es))
  unfolding sent_from
  sent_until node [] a f = refl
  sent_until node (e ∷ es) a f =
      by_test (q e)
      (λ h.
      let first = emitted net.header e (node_sent net.guests node e.input) in
      let next = node_after net.guests node e.input in
      filter_append w first (sent_from net next es)
      ∙ ap (λ l. filter w first ++ l) (sent_until next es a.1 f.1)
      ∙ sym (filter_append w first (sent_from net next (filter q es)))
      ∙ ap (λ l. filter w (sent_from net node l)) (sym (yes_filter q e es h)))
      (λ h.
      let out = no_more q e es h f.0 in
      nothing_sent node (e ∷ es) a (h, out)
      ∙ ap (λ l. filter w (sent_from net node l)) (sym (filter_none q (e ∷ es) (h, out))))

same_joined : (w : Event → Bool) (n : ℕ) (f g : Family) → ((s : ℕ) → s < n → filter w (f s) ≡ filter w (g s)) → filter w (joined n f) ≡ filter w (joined n g)
unfolding joined
same_joined w zero f g h = refl
same_joined w (suc n) f g h =
    filter_append w (joined n f) (f n)
    ∙ (λ i. same_joined w n f g (λ s l. h s (omega arith)) i ++ h n (omega arith) i)
    ∙ sym (filter_append w (joined n g) (g n))

module _ {S : Type 0} (net : Network S) (feed : List External) (W : Event → Type 0) (q w : Event → Bool) (carries : Carries net W q w) where
  -- what is due up to a point hangs on the histories up to that point
  pub same_due : (f g : Family) → ((s : ℕ) → s < routers net → AllByRecursion W (f s) × Falls q (f s)) → ((s : ℕ) → s < routers net → AllByRecursion W (g s) × Falls q (g s)) → ((s : ℕ) → s < routers net → filter q (f s) ≡ filter q (g s)) → (r : ℕ) → filter w (due net feed f r) ≡ filter w (due net feed g r)
  unfolding due sent_to sent
  same_due f g a b h r =
      filter_append w (injected net.header.groups feed r) (sent_to net f r)
      ∙ ap (λ l. filter w (injected net.header.groups feed r) ++ l)
      (same_joined w (routers net) (λ s. filter (is_at r) (sent net s (f s))) (λ s. filter (is_at r) (sent net s (g s))) each)
      ∙ sym (filter_append w (injected net.header.groups feed r) (sent_to net g r))
    where
      each : (s : ℕ) → s < routers net → filter w (filter (is_at r) (sent net s (f s))) ≡ filter w (filter (is_at r) (sent net s (g s)))
      each s l =
          filter_comm w (is_at r) (sent net s (f s))
          ∙ ap (filter (is_at r))
          (sent_until net W q w carries (opening_node net s) (f s) (a s l).0 (a s l).1
          ∙ ap (λ es. filter w (sent_from net (opening_node net s) es)) (h s l)
          ∙ sym (sent_until net W q w carries (opening_node net s) (g s) (b s l).0 (b s l).1))
          ∙ filter_comm (is_at r) w (sent net s (g s))
