-- Events in buckets by their moments: one event more, and the first bucket.
use Rattle.std.proofs.Common.{◌≡◌, ℕ, ◌+◌, ◌<◌, ◌≤◌, true, false, Some, None, List, [], ◌∷◌, ◌++◌, length, length-append, refl, sym, ap, ◌∙◌, subst, arith, append_assoc}
use Rattle.std.specs.Prelude.{◌==◌, nat_lt, slice_get}
use Rattle.std.specs.Map.{keys_of, values_of, lookup, set_value}
use Rattle.std.specs.BTreeMap.{insert_entry, is_at}
use Rattle.std.specs.List.{AllByRecursion, flat_map}
use Rattle.std.specs.List.Sorted.{IsPermutation}
use Rattle.std.proofs.lemmas.List.Sorted.{IsPermutation-refl, IsPermutation-sym, IsPermutation-trans, IsPermutation-middle, IsPermutation-append_left, IsPermutation-append_right}
use Rattle.std.proofs.lemmas.Map.Keys.{sorted_head, sorted_tail, le_from_not_gt}
use Rattle.std.proofs.lemmas.Map.Lookups.{exact_unsigned}
use Rattle.std.proofs.lemmas.Option.{none-some, same_Some}
use Rattle.std.proofs.lemmas.Bool.{ltb-true, lt-ltb}
use Rattle.std.specs.declared.cmp.Ordering.{Ordering}
use Rattle.std.specs.declared.cmp.Ordering.TheVariants.{Less, Equal, Greater}
use Rattle.std.specs.Ordering.{nat_cmp, ordering_then, match_ordering, is_eq, is_gt}
use Rattle.dn_model.specs.declared.event.Event.{Event}
use Rattle.dn_guest.specs.declared.input.Input.TheVariants.{Tick}
use Rattle.dn_model.specs.Order.{event_cmp}
use Rattle.dn_model.specs.Network.{is_at as is_at_router}
use Rattle.dn_model.specs.SoFar.{by_router}
use Rattle.dn_lists.proofs.Lists.{all_append, all_permutation, all_weaker, by_test, filter_append}
use Rattle.dn_lists.proofs.Sorting.{count}
use Rattle.dn_lockstep.specs.declared.later.Moment.{Moment}
use Rattle.dn_lockstep.specs.declared.queued.Queued.{Queued}
use Rattle.dn_lockstep.specs.Agendas.{count_before}
use Rattle.dn_lockstep.specs.Least.{IsUpTo, IsLeast}
use Rattle.dn_lockstep.specs.Running.{messages}
use Rattle.dn_lockstep.specs.Queues.{queued_events}
use Rattle.dn_lockstep.specs.Buckets.{moment_cmp, moment_of, in_buckets, IsBucket, AreBuckets}
use Rattle.dn_lockstep.proofs.Groups.{before_of}

-- ---- moments

then_less : (a b rest : Ordering) → ordering_then a b ≡ Less → is_gt (ordering_then a (ordering_then b rest)) ≡ false
then_less Less b rest h = refl
then_less Equal Less rest h = refl
then_less Equal Equal rest h = absurd cc
then_less Equal Greater rest h = absurd cc
then_less Greater b rest h = absurd cc

-- an event of an earlier moment stands before the other
pub earlier_moment : (x y : Event) → moment_cmp (moment_of x) (moment_of y) ≡ Less → is_gt (event_cmp x y) ≡ false
unfolding event_cmp
earlier_moment x y h = then_less (nat_cmp x.key.group y.key.group) (nat_cmp x.key.sum y.key.sum) _ h

then_equal : (x y : Ordering) → ordering_then x y ≡ Equal → (x ≡ Equal) × (y ≡ Equal)
then_equal Less y e = absurd cc
then_equal Equal y e = (refl, e)
then_equal Greater y e = absurd cc

moment_made : ℕ → ℕ → Moment
moment_made g s = record { group = g; sum = s }

-- the order tells all moments apart
pub exact_moments : (a b : Moment) → moment_cmp a b ≡ Equal → a ≡ b
unfolding moment_made
exact_moments a b e =
    let both = then_equal (nat_cmp a.group b.group) (nat_cmp a.sum b.sum) e in
    ap (λ (g : ℕ). moment_made g a.sum) (exact_unsigned a.group b.group both.0) ∙ ap (λ (s : ℕ). moment_made b.group s) (exact_unsigned a.sum b.sum both.1)

is_eq-true : (o : Ordering) → is_eq o ≡ true → o ≡ Equal
is_eq-true Less e = absurd cc
is_eq-true Equal e = refl
is_eq-true Greater e = absurd cc

-- ---- one event more

-- an event among the first of two lists, or among the second
first_more : (e : Event) (xs rest : List Event) → IsPermutation (e ∷ (xs ++ rest)) ((xs ++ e ∷ []) ++ rest)
first_more e xs rest =
    subst (IsPermutation (e ∷ (xs ++ rest))) (sym (append_assoc xs (e ∷ []) rest))
    (IsPermutation-sym (xs ++ e ∷ rest) (e ∷ (xs ++ rest)) (IsPermutation-middle xs e rest))

second_more : (e : Event) (xs rest more : List Event) → IsPermutation (e ∷ rest) more → IsPermutation (e ∷ (xs ++ rest)) (xs ++ more)
second_more e xs rest more h =
    IsPermutation-trans (e ∷ (xs ++ rest)) (xs ++ e ∷ rest) (xs ++ more)
    (IsPermutation-sym (xs ++ e ∷ rest) (e ∷ (xs ++ rest)) (IsPermutation-middle xs e rest))
    (IsPermutation-append_right xs (e ∷ rest) more h)

module _ (m : Moment) (e : Event) where
  -- in the bucket that is there
  pub set_more : (bs : List (Moment × List Event)) (v : List Event) → lookup (is_at (moment_cmp m)) bs ≡ Some v → IsPermutation (e ∷ in_buckets bs) (in_buckets (set_value (is_at (moment_cmp m)) bs (v ++ e ∷ [])))
  set_more [] v found = absurd cc
  set_more (b ∷ bs) v found =
      by_test (is_at (moment_cmp m) b.0)
      (λ h.
      let here : Some b.1 ≡ Some v = rw h at found in
      let same : b.1 ≡ v = same_Some b.1 v here in
      rw (h, sym same) (first_more e b.1 (in_buckets bs)))
      (λ h.
      let there : lookup (is_at (moment_cmp m)) bs ≡ Some v = rw h at found in
      rw h (second_more e b.1 (in_buckets bs) (in_buckets (set_value (is_at (moment_cmp m)) bs (v ++ e ∷ []))) (set_more bs v there)))

  pub set_buckets : (bs : List (Moment × List Event)) (v : List Event) → moment_of e ≡ m → lookup (is_at (moment_cmp m)) bs ≡ Some v → AllByRecursion IsBucket bs → AllByRecursion IsBucket (set_value (is_at (moment_cmp m)) bs (v ++ e ∷ []))
  set_buckets [] v at found are = absurd cc
  set_buckets (b ∷ bs) v at found are =
      by_test (is_at (moment_cmp m) b.0)
      (λ h.
      let here : Some b.1 ≡ Some v = rw h at found in
      let same : b.1 ≡ v = same_Some b.1 v here in
      let key : m ≡ b.0 = exact_moments m b.0 (is_eq-true (moment_cmp m b.0) h) in
      let one : IsBucket (b.0, b.1 ++ e ∷ []) = (let n = length-append b.1 (e ∷ []) in omega (arith, n), all_append (λ w. moment_of w ≡ b.0) b.1 (e ∷ []) are.0.1 (at ∙ key, tt)) in
      rw (h, sym same) (one, are.1))
      (λ h.
      let there : lookup (is_at (moment_cmp m)) bs ≡ Some v = rw h at found in
      rw h (are.0, set_buckets bs v at there are.1))

  -- in a bucket of its own
  insert_by : (o : Ordering) (b : Moment × List Event) (bs rest : List (Moment × List Event)) → (o ≡ Equal → ⊥) → IsPermutation (e ∷ in_buckets bs) (in_buckets rest)
      → IsPermutation (e ∷ (b.1 ++ in_buckets bs)) (in_buckets (match_ordering o ((m, e ∷ []) ∷ b ∷ bs) ((b.0, e ∷ []) ∷ bs) (b ∷ rest)))
  insert_by Less b bs rest apart h = IsPermutation-refl (e ∷ (b.1 ++ in_buckets bs))
  insert_by Equal b bs rest apart h = absurd (apart refl)
  insert_by Greater b bs rest apart h = second_more e b.1 (in_buckets bs) (in_buckets rest) h

  buckets_by : (o : Ordering) (b : Moment × List Event) (bs rest : List (Moment × List Event)) → (o ≡ Equal → ⊥) → moment_of e ≡ m → IsBucket b → AllByRecursion IsBucket bs → AllByRecursion IsBucket rest
      → AllByRecursion IsBucket (match_ordering o ((m, e ∷ []) ∷ b ∷ bs) ((b.0, e ∷ []) ∷ bs) (b ∷ rest))
  buckets_by Less b bs rest apart at one are more = ((omega arith, (at, tt)), (one, are))
  buckets_by Equal b bs rest apart at one are more = absurd (apart refl)
  buckets_by Greater b bs rest apart at one are more = (one, more)

  not_equal : (b : Moment × List Event) (bs : List (Moment × List Event)) → lookup (is_at (moment_cmp m)) (b ∷ bs) ≡ None → moment_cmp m b.0 ≡ Equal → ⊥
  not_equal b bs none same =
      let h : is_at (moment_cmp m) b.0 ≡ true = ap is_eq same in
      let here : Some b.1 ≡ None = rw h at none in
      none-some b.1 (sym here)

  none_there : (b : Moment × List Event) (bs : List (Moment × List Event)) → lookup (is_at (moment_cmp m)) (b ∷ bs) ≡ None → lookup (is_at (moment_cmp m)) bs ≡ None
  none_there b bs none =
      by_test (is_at (moment_cmp m) b.0)
      (λ h. absurd (not_equal b bs none (is_eq-true (moment_cmp m b.0) h)))
      (λ h. let there : lookup (is_at (moment_cmp m)) bs ≡ None = rw h at none in there)

  pub insert_more : (bs : List (Moment × List Event)) → lookup (is_at (moment_cmp m)) bs ≡ None → IsPermutation (e ∷ in_buckets bs) (in_buckets (insert_entry moment_cmp bs m (e ∷ [])))
  insert_more [] none = IsPermutation-refl (e ∷ [])
  insert_more (b ∷ bs) none =
      insert_by (moment_cmp m b.0) b bs (insert_entry moment_cmp bs m (e ∷ [])) (not_equal b bs none) (insert_more bs (none_there b bs none))

  pub insert_buckets : (bs : List (Moment × List Event)) → moment_of e ≡ m → lookup (is_at (moment_cmp m)) bs ≡ None → AllByRecursion IsBucket bs → AllByRecursion IsBucket (insert_entry moment_cmp bs m (e ∷ []))
  insert_buckets [] at none are = ((omega arith, (at, tt)), tt)
  insert_buckets (b ∷ bs) at none are =
      buckets_by (moment_cmp m b.0) b bs (insert_entry moment_cmp bs m (e ∷ [])) (not_equal b bs none) at are.0 are.1 (insert_buckets bs at (none_there b bs none) are.1)

-- ---- the first bucket

earlier_of : (m k : Moment) → moment_cmp m k ≡ Less → (e w : Event) → moment_of e ≡ m → moment_of w ≡ k → is_gt (event_cmp e w) ≡ false
earlier_of m k less e w at there = earlier_moment e w ((λ i. moment_cmp (at i) (there i)) ∙ less)

-- what holds of any two events of the first moment and of a later one holds of an event of the first moment and each later one
later_each : (R : Event → Event → Type 0) (m : Moment) → ((e w : Event) (k : Moment) → moment_cmp m k ≡ Less → moment_of e ≡ m → moment_of w ≡ k → R e w)
    → (bs : List (Moment × List Event)) → AllByRecursion (λ k. moment_cmp m k ≡ Less) (keys_of bs) → AllByRecursion IsBucket bs → (e : Event) → moment_of e ≡ m → AllByRecursion (R e) (in_buckets bs)
later_each R m h [] above each e at = tt
later_each R m h (b ∷ bs) above each e at =
    all_append (R e) b.1 (in_buckets bs)
    (all_weaker (λ w. moment_of w ≡ b.0) (R e) b.1 (λ w there. h e w b.0 above.0 at there) each.0.1)
    (later_each R m h bs above.1 each.1 e at)

-- an event of the first moment is up to all events of the others
pub up_to_later : (m : Moment) (v : List Event) (bs : List (Moment × List Event)) → AreBuckets ((m, v) ∷ bs) → (e : Event) → moment_of e ≡ m → IsUpTo e (in_buckets bs)
up_to_later m v bs are e at =
    later_each (λ e w. is_gt (event_cmp e w) ≡ false) m (λ e w k less here there. earlier_of m k less e w here there) bs (sorted_head moment_cmp m (keys_of bs) are.rise) are.each.1 e at

each_queued : (P : Event → Type 0) (items : List Queued) → AllByRecursion P (queued_events items) → AllByRecursion (λ q. P q.event) items
each_queued P [] a = tt
each_queued P (x ∷ xs) a = (a.0, each_queued P xs a.1)

pub first_up_to : (es : List (Moment × List Event)) (m : Moment) (items : List Queued) (bs : List (Moment × List Event)) → AreBuckets es → es ≡ (m, queued_events items) ∷ bs → AllByRecursion (λ q. IsUpTo q.event (in_buckets bs)) items
first_up_to es m items bs are is =
    let here : AreBuckets ((m, queued_events items) ∷ bs) = subst AreBuckets is are in
    each_queued (λ e. IsUpTo e (in_buckets bs)) items
    (all_weaker (λ w. moment_of w ≡ m) (λ e. IsUpTo e (in_buckets bs)) (queued_events items) (λ e at. up_to_later m (queued_events items) bs here e at) here.each.0.1)

pub without_first : (m : Moment) (v : List Event) (bs : List (Moment × List Event)) → AreBuckets ((m, v) ∷ bs) → AreBuckets bs
without_first m v bs are = record { rise = sorted_tail moment_cmp m (keys_of bs) are.rise; each = are.each.1 }

-- the least of the first bucket is the least of all
pub least_in_buckets : (m : Moment) (v : List Event) (es : List (Moment × List Event)) → AreBuckets es → slice_get es 0 ≡ Some (m, v) → (e : Event) → IsLeast e v → IsLeast e (in_buckets es)
least_in_buckets m v [] are is e least = absurd cc
least_in_buckets m v (b ∷ bs) are is e least =
    let same : b ≡ (m, v) = same_Some b (m, v) is in
    let here : AreBuckets ((m, v) ∷ bs) = subst (λ (x : Moment × List Event). AreBuckets (x ∷ bs)) same are in
    let at = (all_permutation (λ w. moment_of w ≡ m) v (e ∷ least.rest) least.among here.each.0.1).0 in
    subst (λ (x : Moment × List Event). IsLeast e (x.1 ++ in_buckets bs)) (sym same) (record {
      rest = least.rest ++ in_buckets bs;
      among = IsPermutation-append_left (in_buckets bs) v (e ∷ least.rest) least.among;
      first = all_append (λ w. is_gt (event_cmp e w) ≡ false) least.rest (in_buckets bs) least.first (up_to_later m v bs here e at);
    })

-- no bucket is empty
pub bucket_first : (m : Moment) (v : List Event) (es : List (Moment × List Event)) → AreBuckets es → slice_get es 0 ≡ Some (m, v) → v ≡ [] → ⊥
bucket_first m v [] are is none = absurd cc
bucket_first m v (b ∷ bs) are is none =
    let same : b ≡ (m, v) = same_Some b (m, v) is in
    let l : 0 < length b.1 = are.each.0.0 in
    let n : length b.1 ≡ 0 = ap (λ (x : Moment × List Event). length x.1) same ∙ ap length none in
    omega (arith, l, n)

nothing : (xs ys : List Event) (P : Type 0) → 0 < length xs → xs ++ ys ≡ [] → P
nothing [] ys P l e = absurd (omega arith)
nothing (x ∷ xs) ys P l e = absurd cc

-- with no event there is no bucket
pub no_bucket : (es : List (Moment × List Event)) → AreBuckets es → in_buckets es ≡ [] → length es ≡ 0
no_bucket [] are none = refl
no_bucket (b ∷ bs) are none = nothing b.1 (in_buckets bs) (length (b ∷ bs) ≡ 0) are.each.0.0 none

pub no_events : (es : List (Moment × List Event)) → length es ≡ 0 → in_buckets es ≡ []
no_events [] none = refl
no_events (b ∷ bs) none = absurd (omega arith)

-- ---- groups

groups_of : (a b rest : Ordering) → ordering_then a b ≡ Less → is_gt a ≡ false
groups_of Less b rest h = refl
groups_of Equal b rest h = refl
groups_of Greater b rest h = absurd cc

no_earlier_group : (m k : Moment) → moment_cmp m k ≡ Less → (w : Event) → moment_of w ≡ k → m.group ≤ w.key.group
no_earlier_group m k less w there =
    let g : k.group ≡ w.key.group = ap (λ (x : Moment). x.group) (sym there) in
    let le = le_from_not_gt m.group k.group (groups_of (nat_cmp m.group k.group) (nat_cmp m.sum k.sum) Equal less) in
    omega (arith, le, g)

low_before : (low group : ℕ) (xs : List Event) → AllByRecursion (λ w. low ≤ w.key.group) xs → 0 < count (λ w. nat_lt w.key.group group) xs → low < group
low_before low group [] a l = absurd (omega arith)
low_before low group (x ∷ xs) a l =
    by_test (nat_lt x.key.group group)
    (λ h. let lt = ltb-true x.key.group group h in let le = a.0 in omega (arith, lt, le))
    (λ h. low_before low group xs a.1 (let z : count (λ w. nat_lt w.key.group group) (x ∷ xs) ≡ count (λ w. nat_lt w.key.group group) xs = simp h (omega arith) in omega (arith, z, l)))

some_before : (m : Moment) (group : ℕ) (xs ys : List Event) → 0 < length xs → AllByRecursion (λ w. moment_of w ≡ m) xs → m.group < group → 0 < count (λ w. nat_lt w.key.group group) (xs ++ ys)
some_before m group [] ys l at lt = absurd (omega arith)
some_before m group (x ∷ xs) ys l at lt =
    let g : x.key.group ≡ m.group = ap (λ (k : Moment). k.group) at.0 in
    let h : nat_lt x.key.group group ≡ true = lt-ltb x.key.group group (omega (arith, g, lt)) in
    let one : count (λ w. nat_lt w.key.group group) (x ∷ (xs ++ ys)) ≡ 1 + count (λ w. nat_lt w.key.group group) (xs ++ ys) = simp h refl in
    omega (arith, one)

-- an event of an earlier group is there exactly where the first moment is of an earlier group
pub first_before : (m : Moment) (v : List Event) (group : ℕ) (es : List (Moment × List Event)) → AreBuckets es → slice_get es 0 ≡ Some (m, v) → (m.group < group → 0 < count_before group (in_buckets es)) × (0 < count_before group (in_buckets es) → m.group < group)
first_before m v group [] are is = absurd cc
first_before m v group (b ∷ bs) are is =
    let same : b ≡ (m, v) = same_Some b (m, v) is in
    let here : AreBuckets ((m, v) ∷ bs) = subst (λ (x : Moment × List Event). AreBuckets (x ∷ bs)) same are in
    let counted : count (λ w. nat_lt w.key.group group) (v ++ in_buckets bs) ≡ count_before group (b.1 ++ in_buckets bs) =
    before_of group (v ++ in_buckets bs) ∙ ap (λ (x : Moment × List Event). count_before group (x.1 ++ in_buckets bs)) (sym same) in
    let own = all_weaker (λ w. moment_of w ≡ m) (λ w. m.group ≤ w.key.group) v (λ w at. let g : w.key.group ≡ m.group = ap (λ (k : Moment). k.group) at in omega (arith, g)) here.each.0.1 in (
      λ lt. let l = some_before m group v (in_buckets bs) here.each.0.0 here.each.0.1 lt in omega (arith, counted, l),
      λ l.
          low_before m.group group (v ++ in_buckets bs)
          (all_append (λ w. m.group ≤ w.key.group) v (in_buckets bs) own (from_group m v bs here))
          (omega (arith, counted, l)),
    )
  where
    from_group : (m : Moment) (v : List Event) (bs : List (Moment × List Event)) → AreBuckets ((m, v) ∷ bs) → AllByRecursion (λ w. m.group ≤ w.key.group) (in_buckets bs)
    from_group m v bs are =
        let e : Event = record { key = record { group = m.group; sum = m.sum; class = 0; tie = 0; origin = 0; seq = 0 }; router = 0; input = Tick 0 } in
        later_each (λ e w. m.group ≤ w.key.group) m (λ e w k less here there. no_earlier_group m k less w there) bs (sorted_head moment_cmp m (keys_of bs) are.rise) are.each.1 e refl

-- ---- messages, bucket by bucket

pub messages_in_buckets : (r : ℕ) (es : List (Moment × List Event)) → flat_map (λ v. messages (by_router v r)) (values_of es) ≡ messages (by_router (in_buckets es) r)
messages_in_buckets r [] = refl
messages_in_buckets r (b ∷ bs) =
    ap (λ l. messages (by_router b.1 r) ++ l) (messages_in_buckets r bs)
    ∙ sym (filter_append (λ e. e.key.class == 2) (by_router b.1 r) (by_router (in_buckets bs) r))
    ∙ ap messages (sym (filter_append (is_at_router r) b.1 (in_buckets bs)))
