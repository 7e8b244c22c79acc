-- The least of some events, and the order of events decided by its first parts.
use Rattle.std.proofs.Common.{◌≡◌, ℕ, ◌+◌, ◌<◌, ◌≤◌, true, false, Some, List, [], ◌∷◌, ◌++◌, length, take, get_or, refl, sym, ◌∙◌, ap, subst}
use Rattle.std.specs.Prelude.{slice_get}
use Rattle.std.specs.List.{remove}
use Rattle.std.specs.List.Sorted.{IsPermutation}
use Rattle.std.proofs.lemmas.Bool.{false≢true}
use Rattle.std.proofs.lemmas.Option.{slice_get_read, slice_get_within, get_or_from_slice_get}
use Rattle.std.proofs.lemmas.List.{take_more, take_all, map-append}
use Rattle.std.proofs.lemmas.List.Sorted.{length_permutation, IsPermutation-map, IsPermutation-remove}
use Rattle.std.specs.Ordering.{ordering_then, nat_cmp, is_lt, is_gt}
use Rattle.std.specs.Cmp.{upto, tied_itself}
use Rattle.std.specs.declared.cmp.Ordering.{Ordering}
use Rattle.std.specs.declared.cmp.Ordering.TheVariants.{Less, Equal, Greater}
use Rattle.dn_guest.specs.InputOrder.{input_cmp, input_numbers}
use Rattle.std.specs.Cmp.Lexicographic.{slice_cmp}
use Rattle.dn_model.specs.declared.event.Event.{Event}
use Rattle.dn_model.specs.Order.{key_cmp, event_cmp, event_total}
use Rattle.dn_lists.proofs.Lists.{all_weaker, all_append, all_permutation}
use Rattle.dn_lists.specs.InOrder.{in_order}
use Rattle.dn_lists.proofs.Sorting.{Rises, turn, permutation_in_order, rises_in_order}
use Rattle.dn_lockstep.specs.declared.queued.Queued.{Queued}
use Rattle.dn_lockstep.specs.Least.{IsUpTo, IsLeast}
use Rattle.dn_lockstep.specs.Queues.{queued_events}
use Rattle.dn_lockstep.proofs.Places.{no_items}

pub moved_events : (xs ys : List Queued) → IsPermutation xs ys → IsPermutation (queued_events xs) (queued_events ys)
moved_events xs ys h = IsPermutation-map (λ q. q.event) xs ys h

-- where some events wait, one of them is the least
pub some_least : (events : List Event) → (events ≡ [] → ⊥) → (e : Event) × IsLeast e events
some_least events some = first (in_order event_cmp events) (permutation_in_order event_cmp events) (rises_in_order event_cmp event_total events)
  where
    first : (sorted : List Event) → IsPermutation events sorted → Rises event_cmp sorted → (e : Event) × IsLeast e events
    first [] moves rises = absurd (some (no_items events (sym (length_permutation events [] moves))))
    first (x ∷ xs) moves rises = (x, record { rest = xs; among = moves; first = rises.0 })

-- the order of events by its parts
abbrev pub ByParts : Type 0
ByParts = (x y : Event) → event_cmp x y ≡ ordering_then (ordering_then (key_cmp x.key y.key) (nat_cmp x.router y.router)) (input_cmp x.input y.input)

-- where the keys differ, they decide
pub keys_decide : ByParts → (x y : Event) → (key_cmp x.key y.key ≡ Equal → ⊥) → key_cmp x.key y.key ≡ event_cmp x y
keys_decide parts x y differ = decide (key_cmp x.key y.key) refl
  where
    decide : (r : Ordering) → key_cmp x.key y.key ≡ r → key_cmp x.key y.key ≡ event_cmp x y
    decide Less e = e ∙ ap (λ k. ordering_then (ordering_then k (nat_cmp x.router y.router)) (input_cmp x.input y.input)) (sym e) ∙ sym (parts x y)
    decide Equal e = absurd (differ e)
    decide Greater e = e ∙ ap (λ k. ordering_then (ordering_then k (nat_cmp x.router y.router)) (input_cmp x.input y.input)) (sym e) ∙ sym (parts x y)

then_decides : (r rest : Ordering) → (r ≡ Equal → ⊥) → r ≡ ordering_then r rest
then_decides Less rest differ = refl
then_decides Equal rest differ = absurd (differ refl)
then_decides Greater rest differ = refl

-- where the groups differ, they decide
pub groups_decide : (x y : Event) → (nat_cmp x.key.group y.key.group ≡ Equal → ⊥) → nat_cmp x.key.group y.key.group ≡ event_cmp x y
unfolding event_cmp
groups_decide x y differ = then_decides (nat_cmp x.key.group y.key.group) _ differ

-- in one group the sums decide, where they differ
pub sums_decide : (x y : Event) → nat_cmp x.key.group y.key.group ≡ Equal → (nat_cmp x.key.sum y.key.sum ≡ Equal → ⊥) → nat_cmp x.key.sum y.key.sum ≡ event_cmp x y
unfolding event_cmp
sums_decide x y same differ =
    let rest : Ordering = ordering_then (nat_cmp x.key.sum y.key.sum) (slice_cmp nat_cmp (x.key.class ∷ x.key.tie ∷ x.key.origin ∷ x.key.seq ∷ x.router ∷ input_numbers x.input) (y.key.class ∷ y.key.tie ∷ y.key.origin ∷ y.key.seq ∷ y.router ∷ input_numbers y.input)) in
    then_decides (nat_cmp x.key.sum y.key.sum) _ differ ∙ ap (λ r. ordering_then r rest) (sym same)

-- ---- the least of some, found one after another

-- among the first n of these, which q is one of, none stands before q
abbrev pub IsLeastSoFar : List Queued → ℕ → Queued → Type 0
IsLeastSoFar items n q = ((i : ℕ) × (slice_get items i ≡ Some q)) × IsUpTo q.event (queued_events (take n items))

events_more : (items : List Queued) (n : ℕ) (x : Queued) → n < length items → x ≡ get_or items n x → queued_events (take (n + 1) items) ≡ queued_events (take n items) ++ x.event ∷ []
events_more items n x l is =
    let cut : take (n + 1) items ≡ take n items ++ x ∷ [] = take_more items n x l ∙ ap (λ y. take n items ++ y ∷ []) (sym is) in
    ap queued_events cut ∙ map-append (λ (q : Queued). q.event) (take n items) (x ∷ [])

-- the next one stands before the least so far
pub new_least : (items : List Queued) (n : ℕ) (x q : Queued) → n < length items → x ≡ get_or items n x → is_lt (event_cmp x.event q.event) ≡ true → IsLeastSoFar items n q → IsLeastSoFar items (n + 1) x
new_least items n x q l is before so =
    let le : is_gt (event_cmp x.event q.event) ≡ false = lt_not_gt (event_cmp x.event q.event) before in (
      (n, slice_get_read items (length items) n x refl l is),
      subst (IsUpTo x.event) (sym (events_more items n x l is))
          (all_append (λ w. is_gt (event_cmp x.event w) ≡ false) (queued_events (take n items)) (x.event ∷ [])
          (all_weaker (λ w. is_gt (event_cmp q.event w) ≡ false) (λ w. is_gt (event_cmp x.event w) ≡ false) (queued_events (take n items)) (λ w h. upto event_total x.event q.event w le h) so.1)
          (ap is_gt (tied_itself event_total x.event), tt)),
    )
  where
    lt_not_gt : (r : Ordering) → is_lt r ≡ true → is_gt r ≡ false
    lt_not_gt Less h = refl
    lt_not_gt Equal h = refl
    lt_not_gt Greater h = absurd (false≢true h)

-- it does not
pub same_least : (items : List Queued) (n : ℕ) (x q : Queued) → n < length items → x ≡ get_or items n x → is_lt (event_cmp x.event q.event) ≡ false → IsLeastSoFar items n q → IsLeastSoFar items (n + 1) q
same_least items n x q l is after so = (
  so.0,
  subst (IsUpTo q.event) (sym (events_more items n x l is))
      (all_append (λ w. is_gt (event_cmp q.event w) ≡ false) (queued_events (take n items)) (x.event ∷ []) so.1 (turn event_cmp event_total x.event q.event ∙ after, tt)),
)

-- after all of them
pub least_found : (items : List Queued) (n : ℕ) (q : Queued) → length items ≤ n → IsLeastSoFar items n q → IsLeast q.event (queued_events items)
least_found items n q all so =
    let i = so.0.0 in
    let within = slice_get_within items i q so.0.1 in
    let is : q ≡ get_or items i q = sym (get_or_from_slice_get items i q q so.0.1) in
    let moves : IsPermutation (queued_events items) (q.event ∷ queued_events (remove items i)) = moved_events items (q ∷ remove items i) (IsPermutation-remove items i q within is) in
    let up_to : IsUpTo q.event (queued_events items) = subst (λ (xs : List Queued). IsUpTo q.event (queued_events xs)) (take_all n items all) so.1 in
    record {
      rest = queued_events (remove items i);
      among = moves;
      first = (all_permutation (λ w. is_gt (event_cmp q.event w) ≡ false) (queued_events items) (q.event ∷ queued_events (remove items i)) moves up_to).1;
    }
