-- One step of a run whose waiting events stand in a plain list, and all that is injected, group by group.
use Rattle.std.proofs.Common.{◌≡◌, ℕ, zero, suc, ◌+◌, ◌-◌, ◌<◌, ◌≤◌, true, false, List, [], ◌∷◌, ◌++◌, length, take, get_or, refl, sym, ap, ◌∙◌, subst, arith}
use Rattle.std.specs.Prelude.{slice_get, slice_set}
use Rattle.std.specs.List.{remove}
use Rattle.std.specs.List.Sorted.{IsPermutation}
use Rattle.std.proofs.lemmas.Bool.{false≢true}
use Rattle.std.proofs.lemmas.List.{take_more, take_all}
use Rattle.std.proofs.lemmas.List.Sorted.{IsPermutation-refl, IsPermutation-remove}
use Rattle.std.proofs.lemmas.Option.{slice_get_read}
use Rattle.std.specs.declared.cmp.Ordering.{Ordering}
use Rattle.std.specs.declared.cmp.Ordering.TheVariants.{Less, Equal, Greater}
use Rattle.std.specs.Ordering.{is_lt, is_gt}
use Rattle.std.specs.Cmp.{upto, tied_itself}
use Rattle.dn_guest.specs.declared.node.Node.{Node}
use Rattle.dn_guest.specs.declared.node.Sent.{Sent}
use Rattle.dn_guest.specs.Meaning.{Meaning}
use Rattle.dn_guest.specs.Node.{node_after, node_sent}
use Rattle.dn_model.specs.declared.event.Event.{Event}
use Rattle.dn_model.specs.Cases.{Heading}
use Rattle.dn_model.specs.Order.{event_cmp, event_total}
use Rattle.dn_model.specs.Network.{emitted}
use Rattle.dn_lists.proofs.Lists.{all_append, all_permutation, all_weaker}
use Rattle.dn_lists.proofs.Sorting.{turn}
use Rattle.dn_lockstep.specs.Agendas.{group_ticks, later_ticks}
use Rattle.dn_lockstep.specs.Least.{IsUpTo}
use Rattle.dn_lockstep.specs.Steps.{IsHandled}

-- ---- the place of the least

-- the event at this place is up to the first n
abbrev pub IsUpToFirst : List Event → ℕ → ℕ → Type 0
IsUpToFirst events n place = (d : Event) → IsUpTo (get_or events place d) (take n events)

lt-not_gt : (r : Ordering) → is_lt r ≡ true → is_gt r ≡ false
lt-not_gt Less h = refl
lt-not_gt Equal h = refl
lt-not_gt Greater h = absurd (false≢true h)

module _ (events : List Event) (n place : ℕ) (x y : Event) (within : n < length events) (here : x ≡ get_or events n x) (there : place < length events) (had : y ≡ get_or events place y) where
  other : (d : Event) → y ≡ get_or events place d
  other d = had ∙ any_default events place y d there
    where
      any_default : (xs : List Event) (i : ℕ) (c d : Event) → i < length xs → get_or xs i c ≡ get_or xs i d
      any_default [] i c d l = absurd (omega arith)
      any_default (x ∷ xs) zero c d l = refl
      any_default (x ∷ xs) (suc i) c d l = any_default xs i c d (omega arith)

  first_more : take (n + 1) events ≡ take n events ++ x ∷ []
  first_more = take_more events n x within ∙ ap (λ z. take n events ++ z ∷ []) (sym here)

  pub new_place : is_lt (event_cmp x y) ≡ true → IsUpToFirst events n place → IsUpToFirst events (n + 1) n
  new_place before so = λ d.
      let le = lt-not_gt (event_cmp x y) before in
      let old : IsUpTo y (take n events) = subst (λ (e : Event). IsUpTo e (take n events)) (sym (other y)) (so y) in
      let own : IsUpTo x (take (n + 1) events) =
      subst (IsUpTo x) (sym first_more)
      (all_append (λ w. is_gt (event_cmp x w) ≡ false) (take n events) (x ∷ [])
      (all_weaker (λ w. is_gt (event_cmp y w) ≡ false) (λ w. is_gt (event_cmp x w) ≡ false) (take n events) (λ w h. upto event_total x y w le h) old)
      (ap is_gt (tied_itself event_total x), tt)) in
      subst (λ (e : Event). IsUpTo e (take (n + 1) events)) (here ∙ any_default events n x d within) own
    where
      any_default : (xs : List Event) (i : ℕ) (c d : Event) → i < length xs → get_or xs i c ≡ get_or xs i d
      any_default [] i c d l = absurd (omega arith)
      any_default (x ∷ xs) zero c d l = refl
      any_default (x ∷ xs) (suc i) c d l = any_default xs i c d (omega arith)

  pub same_place : is_lt (event_cmp x y) ≡ false → IsUpToFirst events n place → IsUpToFirst events (n + 1) place
  same_place after so = λ d.
      subst (λ (e : Event). IsUpTo e (take (n + 1) events)) (other d)
      (subst (IsUpTo y) (sym first_more)
      (all_append (λ w. is_gt (event_cmp y w) ≡ false) (take n events) (x ∷ [])
      (subst (λ (e : Event). IsUpTo e (take n events)) (sym (other y)) (so y)) (turn event_cmp event_total x y ∙ after, tt)))

pub all_places : (events : List Event) (n place : ℕ) → length events ≤ n → IsUpToFirst events n place → (d : Event) → IsUpTo (get_or events place d) events
all_places events n place all so d = subst (IsUpTo (get_or events place d)) (take_all n events all) (so d)

-- ---- one step

module _ {S : Type 0} (guests : Meaning S) (header : Heading) (nodes : List (Node S)) where
  pub handled_plainly : (waiting done : List Event) (e : Event) (at i : ℕ) (node new : Node S) (sents : List Sent) → at < length waiting → e ≡ get_or waiting at e → IsUpTo e waiting → i ≡ e.router → i < length nodes → node ≡ get_or nodes i node → new ≡ node_after guests (get_or nodes i node) e.input → sents ≡ node_sent guests (get_or nodes i node) e.input → done ≡ remove waiting at ++ emitted header e sents → IsHandled guests header nodes waiting e (slice_set nodes i new) done
  handled_plainly waiting done e at i node new sents inside is up_to router within had after sents_are done_is =
      let after_is : new ≡ node_after guests node e.input = after ∙ ap (λ (n : Node S). node_after guests n e.input) (sym had) in
      let sents_is : sents ≡ node_sent guests node e.input = sents_are ∙ ap (λ (n : Node S). node_sent guests n e.input) (sym had) in
      let moves = IsPermutation-remove waiting at e inside is in
      record {
        rest = remove waiting at;
        node = node;
        among = moves;
        first = (all_permutation (λ w. is_gt (event_cmp e w) ≡ false) waiting (e ∷ remove waiting at) moves up_to).1;
        had = ap (slice_get nodes) (sym router) ∙ slice_get_read nodes (length nodes) i node refl within had;
        took = λ j. slice_set nodes (router j) (after_is j);
        added = subst (IsPermutation (remove waiting at ++ emitted header e (node_sent guests node e.input))) (sym (done_is ∙ ap (λ (s : List Sent). remove waiting at ++ emitted header e s) sents_is)) (IsPermutation-refl (remove waiting at ++ emitted header e (node_sent guests node e.input)));
      }

-- ---- the ticks of one group more

pub next_ticks : (group groups n : ℕ) → group < groups → later_ticks group (groups - group) n ≡ group_ticks group n ++ later_ticks (group + 1) (groups - (group + 1)) n
unfolding later_ticks
next_ticks group groups n l =
    let e : groups - group ≡ suc (groups - (group + 1)) = omega (arith, l) in
    let s : suc group ≡ group + 1 = omega arith in
    ap (λ k. later_ticks group k n) e ∙ ap (λ g. group_ticks group n ++ later_ticks g (groups - (group + 1)) n) s

pub no_later_ticks : (group groups n : ℕ) → groups ≤ group → later_ticks group (groups - group) n ≡ []
unfolding later_ticks
no_later_ticks group groups n l = let e : groups - group ≡ 0 = omega (arith, l) in ap (λ k. later_ticks group k n) e
