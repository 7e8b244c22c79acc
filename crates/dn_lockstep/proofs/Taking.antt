-- A queue: the first events fall, and none of the later ones stands before one of them.
use Rattle.std.proofs.Common.{◌≡◌, ℕ, suc, ◌<◌, ◌-◌, true, false, Some, List, [], ◌∷◌, ◌++◌, length, refl, sym, ap, ◌∙◌, subst, arith}
use Rattle.std.specs.Prelude.{slice_get, nat_lt}
use Rattle.std.specs.List.{AllByRecursion}
use Rattle.std.specs.List.Sorted.{IsPermutation, IsSorted}
use Rattle.std.proofs.lemmas.Bool.{false≢true, lt-ltb}
use Rattle.std.proofs.lemmas.List.{map-append}
use Rattle.std.proofs.lemmas.List.Elements.{All-from_recursion, recursion_from_All}
use Rattle.std.proofs.lemmas.List.Sorted.{All-permutation, IsPermutation-sym, IsPermutation-trans, IsPermutation-middle, IsPermutation-to_front, IsPermutation-map, IsPermutation-append_left, IsPermutation-append_right}
use Rattle.std.specs.declared.cmp.Ordering.{Ordering}
use Rattle.std.specs.declared.cmp.Ordering.TheVariants.{Less, Equal, Greater}
use Rattle.std.specs.Ordering.{is_lt, is_gt}
use Rattle.std.specs.Cmp.{upto}
use Rattle.dn_model.specs.declared.event.Event.{Event}
use Rattle.dn_model.specs.Order.{event_cmp, event_total}
use Rattle.dn_lists.proofs.Lists.{Pairs, all_append, all_permutation, all_weaker}
use Rattle.dn_lists.proofs.Sorting.{turn, rises_from_sorted, sorted_from_rises}
use Rattle.dn_lockstep.specs.declared.queued.Queued.{Queued}
use Rattle.dn_lockstep.specs.Least.{IsUpTo, IsLeast}
use Rattle.dn_lockstep.specs.Agendas.{count_before}
use Rattle.dn_lockstep.specs.Queues.{later_cmp, later_total, queued_events, is_before_first, IsQueue}
use Rattle.dn_lockstep.proofs.Groups.{begun_by, first_begun}

-- ---- lists of queued events

pub events_append : (xs ys : List Queued) → queued_events (xs ++ ys) ≡ queued_events xs ++ queued_events ys
events_append xs ys = map-append (λ (q : Queued). q.event) xs ys

pub events_moved : (xs ys : List Queued) → IsPermutation xs ys → IsPermutation (queued_events xs) (queued_events ys)
events_moved xs ys h = IsPermutation-map (λ q. q.event) xs ys h

all_moved : (P : Queued → Type 0) (xs ys : List Queued) → IsPermutation xs ys → AllByRecursion P xs → AllByRecursion P ys
all_moved P xs ys h a = recursion_from_All P ys (All-permutation P xs ys h (All-from_recursion P xs a))

all_events : (P : Event → Type 0) (items : List Queued) → AllByRecursion (λ q. P q.event) items → AllByRecursion P (queued_events items)
all_events P [] a = tt
all_events P (x ∷ xs) a = (a.0, all_events P xs a.1)

module _ {X : Type 0} where
  -- a list that isn't empty, with its last element apart
  last_apart : (xs : List X) (y : X) → slice_get xs (length xs - 1) ≡ Some y → (front : List X) × (xs ≡ front ++ y ∷ [])
  last_apart [] y is = absurd cc
  last_apart (x ∷ []) y is = ([], (λ i. same_one i ∷ []))
    where
      same_one : x ≡ y
      same_one = cc
  last_apart (x ∷ z ∷ zs) y is =
      let e : length (x ∷ z ∷ zs) - 1 ≡ suc (length (z ∷ zs) - 1) = omega arith in
      let there : slice_get (z ∷ zs) (length (z ∷ zs) - 1) ≡ Some y = sym (ap (slice_get (x ∷ z ∷ zs)) e) ∙ is in
      let ih = last_apart (z ∷ zs) y there in
      (x ∷ ih.0, ap (λ l. x ∷ l) {y = ih.0 ++ y ∷ []} ih.1)

  pairs_front : (R : X → X → Type 0) (xs : List X) (y : X) → Pairs R (xs ++ y ∷ []) → AllByRecursion (λ x. R x y) xs × Pairs R xs
  pairs_front R [] y p = (tt, tt)
  pairs_front R (x ∷ xs) y p =
      let ih = pairs_front R xs y p.1 in
      let parts = all_parts (R x) xs (y ∷ []) p.0 in
      ((parts.1.0, ih.0), (parts.0, ih.1))
    where
      all_parts : (P : X → Type 0) (xs ys : List X) → AllByRecursion P (xs ++ ys) → AllByRecursion P xs × AllByRecursion P ys
      all_parts P [] ys a = (tt, a)
      all_parts P (x ∷ xs) ys a = let ih = all_parts P xs ys a.1 in ((a.0, ih.0), ih.1)

-- ---- the last of those that fall

-- the event is up to all others, and what is left is a queue
pub record IsTaken (e : Event) (rest : List Queued) (later : List Event) : Type 0 where
  pub first : IsUpTo e (queued_events rest ++ later)
  pub left : IsQueue rest later

pub taken_last : (front : List Queued) (q : Queued) (later : List Event) → IsQueue (front ++ q ∷ []) later → IsTaken q.event front later
taken_last front q later so =
    let parts = pairs_front (λ x y. is_gt (later_cmp x y) ≡ false) front q (rises_from_sorted later_cmp later_total (front ++ q ∷ []) so.falls) in
    let last = (all_back (λ x. IsUpTo x.event later) front (q ∷ []) so.up_to) in
    record {
      first = all_append (λ w. is_gt (event_cmp q.event w) ≡ false) (queued_events front) later (all_events (λ w. is_gt (event_cmp q.event w) ≡ false) front parts.0) last.1.0;
      left = record { falls = sorted_from_rises later_cmp later_total front parts.1; up_to = last.0 };
    }
  where
    all_back : (P : Queued → Type 0) (xs ys : List Queued) → AllByRecursion P (xs ++ ys) → AllByRecursion P xs × AllByRecursion P ys
    all_back P [] ys a = (tt, a)
    all_back P (x ∷ xs) ys a = let ih = all_back P xs ys a.1 in ((a.0, ih.0), ih.1)

pub last_moved : (front : List Queued) (q : Queued) (later : List Event) → IsPermutation (queued_events (front ++ q ∷ []) ++ later) (q.event ∷ (queued_events front ++ later))
last_moved front q later =
    subst (λ (es : List Event). IsPermutation (es ++ later) (q.event ∷ (queued_events front ++ later))) (sym (events_append front (q ∷ [])))
    (IsPermutation-append_left later (queued_events front ++ q.event ∷ []) (q.event ∷ queued_events front) (IsPermutation-to_front (queued_events front) q.event))

pub least_last : (first : List Queued) (q : Queued) (later : List Event) → IsQueue first later → slice_get first (length first - 1) ≡ Some q → IsLeast q.event (queued_events first ++ later)
least_last first q later so is =
    let parts = last_apart first q is in
    let front = parts.0 in
    subst (λ (items : List Queued). IsLeast q.event (queued_events items ++ later)) (sym parts.1) (record {
      rest = queued_events front ++ later;
      among = last_moved front q later;
      first = (taken_last front q later (subst (λ (items : List Queued). IsQueue items later) parts.1 so)).first;
    })

-- an event of an earlier group is there exactly where the least is one
pub least_before : (e : Event) (group : ℕ) (events : List Event) → IsLeast e events → (nat_lt e.key.group group ≡ true → 0 < count_before group events) × (0 < count_before group events → nat_lt e.key.group group ≡ true)
least_before e group events least =
    (λ h. begun_by e group events least h, λ l. lt-ltb e.key.group group (first_begun e group events least.rest least.among least.first l))

-- where there is a first event, the queue isn't empty
pub not_empty : (first : List Queued) (later : List Event) (P : Type 0) → 0 < length first → queued_events first ++ later ≡ [] → P
not_empty [] later P l none = absurd (omega arith)
not_empty (x ∷ xs) later P l none = absurd cc

-- ---- the events of the next moment come first

pub next_first : (taken sorted : List Queued) (later : List Event) → AllByRecursion (λ q. IsUpTo q.event later) taken → IsPermutation taken sorted → IsSorted later_cmp sorted → IsQueue sorted later
next_first taken sorted later up_to moves falls = record { falls = falls; up_to = all_moved (λ q. IsUpTo q.event later) taken sorted moves up_to }

-- ---- one event more

is_lt-not_gt : (r : Ordering) → is_lt r ≡ true → is_gt r ≡ false
is_lt-not_gt Less h = refl
is_lt-not_gt Equal h = refl
is_lt-not_gt Greater h = absurd (false≢true h)

up_to_new : (x e : Event) (later more : List Event) → is_gt (event_cmp x e) ≡ false → IsUpTo x later → IsPermutation (e ∷ later) more → IsUpTo x more
up_to_new x e later more h u moves = all_permutation (λ w. is_gt (event_cmp x w) ≡ false) (e ∷ later) more moves (h, u)

-- it stands before none of the first: it goes to the later ones
pub later_more : (e : Event) (first : List Queued) (later more : List Event) → IsQueue first later → is_before_first e first ≡ false → IsPermutation (e ∷ later) more → IsQueue first more
later_more e [] later more so after moves = record { falls = so.falls; up_to = tt }
later_more e (x ∷ xs) later more so after moves =
    let rises = rises_from_sorted later_cmp later_total (x ∷ xs) so.falls in
    let head : is_gt (event_cmp x.event e) ≡ false = turn event_cmp event_total e x.event ∙ after in
    record {
      falls = so.falls;
      up_to = (
        up_to_new x.event e later more head so.up_to.0 moves,
        each xs rises.0 so.up_to.1,
      );
    }
  where
    each : (ys : List Queued) → AllByRecursion (λ y. is_gt (later_cmp x y) ≡ false) ys → AllByRecursion (λ q. IsUpTo q.event later) ys → AllByRecursion (λ q. IsUpTo q.event more) ys
    each [] r u = tt
    each (y ∷ ys) r u =
        (up_to_new y.event e later more (upto event_total y.event x.event e r.0 (turn event_cmp event_total e x.event ∙ after)) u.0 moves, each ys r.1 u.1)

pub later_moved : (e : Event) (first : List Queued) (later more : List Event) → IsPermutation (e ∷ later) more → IsPermutation (e ∷ (queued_events first ++ later)) (queued_events first ++ more)
later_moved e first later more moves =
    let es = queued_events first in
    IsPermutation-trans (e ∷ (es ++ later)) (es ++ e ∷ later) (es ++ more)
    (IsPermutation-sym (es ++ e ∷ later) (e ∷ (es ++ later)) (IsPermutation-middle es e later))
    (IsPermutation-append_right es (e ∷ later) more moves)

-- it stands before the first of the first: they are put in order with it
pub first_more : (e : Event) (first sorted : List Queued) (later : List Event) → IsQueue first later → is_before_first e first ≡ true → IsPermutation (first ++ record { event = e } ∷ []) sorted → IsSorted later_cmp sorted → IsQueue sorted later
first_more e [] sorted later so before moves falls = absurd (false≢true before)
first_more e (x ∷ xs) sorted later so before moves falls =
    let le = is_lt-not_gt (event_cmp e x.event) before in
    let own : IsUpTo e later = all_weaker (λ w. is_gt (event_cmp x.event w) ≡ false) (λ w. is_gt (event_cmp e w) ≡ false) later (λ w h. upto event_total e x.event w le h) so.up_to.0 in
    next_first ((x ∷ xs) ++ record { event = e } ∷ []) sorted later (all_append (λ q. IsUpTo q.event later) (x ∷ xs) (record { event = e } ∷ []) so.up_to (own, tt)) moves falls

pub first_moved : (e : Event) (first sorted : List Queued) (later : List Event) → IsPermutation (first ++ record { event = e } ∷ []) sorted → IsPermutation (e ∷ (queued_events first ++ later)) (queued_events sorted ++ later)
first_moved e first sorted later moves =
    IsPermutation-append_left later (e ∷ queued_events first) (queued_events sorted)
    (events_moved (record { event = e } ∷ first) sorted
    (IsPermutation-trans (record { event = e } ∷ first) (first ++ record { event = e } ∷ []) sorted
    (IsPermutation-sym (first ++ record { event = e } ∷ []) (record { event = e } ∷ first) (IsPermutation-to_front first (record { event = e }))) moves))
