-- The parts of one step, put together.
use Rattle.std.proofs.Common.{◌≡◌, ℕ, ◌<◌, List, ◌∷◌, ◌++◌, length, get_or, refl, sym, ap, ◌∙◌, subst}
use Rattle.std.specs.Prelude.{slice_get, slice_set}
use Rattle.std.specs.List.{remove}
use Rattle.std.specs.List.Sorted.{IsPermutation}
use Rattle.std.proofs.lemmas.List.Sorted.{IsPermutation-trans, IsPermutation-remove}
use Rattle.std.proofs.lemmas.Option.{slice_get_read}
use Rattle.dn_guest.specs.declared.node.Node.{Node}
use Rattle.dn_guest.specs.declared.node.Sent.{Sent}
use Rattle.dn_guest.specs.Meaning.{Meaning}
use Rattle.dn_guest.specs.Node.{node_after, node_sent}
use Rattle.dn_model.specs.declared.event.Event.{Event}
use Rattle.dn_model.specs.declared.timing.Timing.{Timing}
use Rattle.dn_model.specs.declared.link.End.{End}
use Rattle.dn_model.specs.Cases.{Heading, timing_of}
use Rattle.dn_model.specs.Links.{ends}
use Rattle.dn_model.specs.Network.{emitted_by, emitted}
use Rattle.dn_lists.proofs.Lists.{all_append, all_permutation}
use Rattle.dn_lockstep.specs.Least.{IsUpTo}
use Rattle.dn_lockstep.specs.Steps.{AreInside, IsHandled}

-- what waits is at routers of the network, and so is the first of it
pub first_inside : (count : ℕ) (waiting rest : List Event) (e : Event) → IsPermutation waiting (e ∷ rest) → AreInside count waiting → e.router < count
first_inside count waiting rest e moves inside = (all_permutation (λ w. w.router < count) waiting (e ∷ rest) moves inside).0

pub router_inside : (count : ℕ) (waiting : List Event) (e : Event) (at : ℕ) → at < length waiting → e ≡ get_or waiting at e → AreInside count waiting → e.router < count
router_inside count waiting e at within is inside = first_inside count waiting (remove waiting at) e (IsPermutation-remove waiting at e within is) inside

module _ {S : Type 0} (guests : Meaning S) (header : Heading) (nodes : List (Node S)) where
  pub handled_from : (waiting rest sent_in done : List Event) (e : Event) (i : ℕ) (node new : Node S) (sents : List Sent) (t : Timing) (far : List End) → IsPermutation waiting (e ∷ rest) → IsUpTo e rest → i ≡ e.router → i < length nodes → node ≡ get_or nodes i node → new ≡ node_after guests (get_or nodes i node) e.input → sents ≡ node_sent guests (get_or nodes i node) e.input → t ≡ timing_of header → far ≡ ends header.links e.router → IsPermutation (rest ++ emitted_by t far e sents) sent_in → IsPermutation sent_in done → IsHandled guests header nodes waiting e (slice_set nodes i new) done
  unfolding emitted
  handled_from waiting rest sent_in done e i node new sents t far moves first at within had after sents_are timing far_are added refilled =
      let after_is : new ≡ node_after guests node e.input = after ∙ ap (λ (n : Node S). node_after guests n e.input) (sym had) in
      let sents_is : sents ≡ node_sent guests node e.input = sents_are ∙ ap (λ (n : Node S). node_sent guests n e.input) (sym had) in
      let out : emitted_by t far e sents ≡ emitted_by (timing_of header) (ends header.links e.router) e (node_sent guests node e.input) =
      λ j. emitted_by (timing j) (far_are j) e (sents_is j) in
      record {
        rest = rest;
        node = node;
        among = moves;
        first = first;
        had = ap (slice_get nodes) (sym at) ∙ slice_get_read nodes (length nodes) i node refl within had;
        took = λ j. slice_set nodes (at j) (after_is j);
        added = subst (λ (es : List Event). IsPermutation (rest ++ es) done) out (IsPermutation-trans (rest ++ emitted_by t far e sents) sent_in done added refilled);
      }

  -- what waits after a step is at routers of the network too
  pub handled_inside : ((cause : Event) (sents : List Sent) → AreInside (length header.routers) (emitted header cause sents)) → (waiting done : List Event) (e : Event) (nodes_after : List (Node S)) → AreInside (length header.routers) waiting → IsHandled guests header nodes waiting e nodes_after done → AreInside (length header.routers) done
  handled_inside emits waiting done e nodes_after inside h =
      let n = length header.routers in
      let P : Event → Type 0 = λ w. w.router < n in
      let out = emitted header e (node_sent guests h.node e.input) in
      all_permutation P (h.rest ++ out) done h.added
      (all_append P h.rest out (all_permutation P waiting (e ∷ h.rest) h.among inside).1 (emits e (node_sent guests h.node e.input)))
