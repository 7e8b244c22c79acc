-- What holds of a router's parts holds after each call.
use Rattle.std.proofs.Common.{◌≡◌, ℕ, ◌<◌, ◌≤◌, Bool, true, false, List, [], ◌∷◌, ◌++◌, length, refl, sym, ap, ◌∙◌, subst, arith}
use Rattle.std.specs.List.{AllByRecursion, list_any}
use Rattle.std.specs.List.Sorted.{IsSorted}
use Rattle.std.proofs.lemmas.Bool.{false≢true}
use Rattle.dn_guest.specs.declared.node.Node.{Node}
use Rattle.dn_guest.specs.Meaning.{Meaning}
use Rattle.dn_lists.proofs.Lists.{by_test, all_weaker, all_both, all_append}
use Rattle.dn_lists.proofs.Sorting.{count_none, rises_from_sorted, sorted_from_rises}
use Rattle.dn_model.specs.declared.event.Event.{Event}
use Rattle.dn_model.specs.declared.key.Key.{Key}
use Rattle.dn_model.specs.Order.{event_cmp, event_total, sorted}
use Rattle.dn_model.specs.Settled.{below}
use Rattle.dn_world.specs.World.{Part, no_part, is_same, stands, cancelled, with_todo, with_void, is_before_last, is_behind}
use Rattle.dn_world.specs.Steps.{arrived, until, since, is_wrong}
use Rattle.dn_world.specs.Runs.{IsPast, IsTidy}
use Rattle.dn_world.proofs.Parts.{all_unmatched, all_since, all_until, until_since, waits_todo, waits_void}
use Rattle.dn_world.proofs.Tidy.{todo_tidy, void_tidy}
use Rattle.dn_ckpt.specs.Shelves.{kept_from}
use Rattle.dn_router.specs.Replays.{nodes_over}
use Rattle.dn_model.specs.declared.link.End.{End}
use Rattle.dn_model.specs.declared.timing.Timing.{Timing}
use Rattle.dn_router.specs.Routers.{Speculation}
use Rattle.dn_router.specs.Sound.{IsSound, MayWait, marked_in}
use Rattle.dn_router.proofs.Rising.{sorted_push, sorted_until, taken_past, below_past, below_short, none_handled}

-- a part by its lists
abbrev pub beside : List Event → Part → Part
beside done q = record q { done = done }

pub arrived_beside : (plus : Bool) (e : Event) (done : List Event) (q : Part) → arrived (record { plus = plus; event = e }) (beside done q) ≡ beside done (arrived (record { plus = plus; event = e }) q)
unfolding arrived with_todo with_void cancelled
arrived_beside true e done q = refl
arrived_beside false e done q = refl

pub todo_beside : (es done : List Event) (q : Part) → with_todo es (beside done q) ≡ beside done (with_todo es q)
unfolding with_todo cancelled
todo_beside es done q = refl

pub arrived_done : (plus : Bool) (e : Event) (p : Part) → (arrived (record { plus = plus; event = e }) p).done ≡ p.done
unfolding arrived with_todo with_void cancelled
arrived_done true e p = refl
arrived_done false e p = refl

arrived_tidy : (plus : Bool) (e : Event) (p : Part) → IsTidy p → IsTidy (arrived (record { plus = plus; event = e }) p)
unfolding arrived
arrived_tidy true e p t = todo_tidy (e ∷ []) p t
arrived_tidy false e p t = void_tidy e p t

arrived_waits : (P : Event → Type 0) (plus : Bool) (e : Event) (p : Part) → P e → AllByRecursion P p.todo → AllByRecursion P p.voids → AllByRecursion P (arrived (record { plus = plus; event = e }) p).todo × AllByRecursion P (arrived (record { plus = plus; event = e }) p).voids
unfolding arrived
arrived_waits P true e p h a b = waits_todo P (e ∷ []) p (h, tt) (a, b)
arrived_waits P false e p h a b = waits_void P e p h (a, b)

-- ---- handling

stands_push : (v e : Event) (es : List Event) → is_same v e ≡ false → stands v (es ++ e ∷ []) ≡ stands v es
unfolding stands
stands_push v e [] h = simp h
stands_push v e (x ∷ xs) h = let ih = stands_push v e xs h in by_test (is_same v x) (λ g. simp g) (λ g. simp g ih)

first_apart : (v e : Event) (es : List Event) → stands v (e ∷ es) ≡ false → is_same v e ≡ false
unfolding stands
first_apart v e es h = by_test (is_same v e) (λ g. absurd (let bad : true ≡ false = (simp g at h) in cc)) (λ g. g)

rest_apart : (v e : Event) (es : List Event) → stands v (e ∷ es) ≡ false → stands v es ≡ false
unfolding stands
rest_apart v e es h = by_test (is_same v e) (λ g. absurd (let bad : true ≡ false = (simp g at h) in cc)) (λ g. (simp g at h))

-- handling marks none of voids
marks_stay : (e : Event) (done vs : List Event) → AllByRecursion (λ v. is_same v e ≡ false) vs → marked_in (done ++ e ∷ []) vs ≡ marked_in done vs
marks_stay e done [] a = refl
marks_stay e done (v ∷ vs) a =
    let one = stands_push v e done a.0 in
    let ih = marks_stay e done vs a.1 in
    by_test (stands v done)
    (λ g. let k : stands v (done ++ e ∷ []) ≡ true = one ∙ g in simp (g, k) (omega (arith, ih)))
    (λ g. let k : stands v (done ++ e ∷ []) ≡ false = one ∙ g in simp (g, k) (omega (arith, ih)))

pub not_before : (p : Part) (e : Event) (es : List Event) → p.todo ≡ e ∷ es → is_behind p ≡ false → is_before_last p.done e ≡ false
unfolding is_behind
not_before p e es is h =
    by_test (is_before_last p.done e)
    (λ g.
    let any : list_any (is_before_last p.done) p.todo ≡ true = ap (list_any (is_before_last p.done)) is ∙ simp g in
    absurd (false≢true (sym (let bad : true ≡ false = (simp any at h) in bad))))
    (λ g. g)

sorted_rest : (e : Event) (es : List Event) → IsSorted event_cmp (e ∷ es) → IsSorted event_cmp es
sorted_rest e es s = sorted_from_rises event_cmp event_total es (rises_from_sorted event_cmp event_total (e ∷ es) s).1

first_of : (P : Event → Type 0) (todo es : List Event) (e : Event) → todo ≡ e ∷ es → AllByRecursion P todo → P e × AllByRecursion P es
first_of P todo es e is a = subst (AllByRecursion P) is a

module _ {S : Type 0} (guests : Meaning S) (number period : ℕ) (opening : Node S) where
  pub sound_new : 0 < period → (bound : Key) → IsSound guests number period opening no_part (nodes_over guests 0 opening []) 0 0 bound
  unfolding below nodes_over
  sound_new t bound = record {
    timed = t;
    tidy = record { todo = λ k d a b. absurd (omega (arith, b)); voids = λ k d a b. absurd (omega (arith, b)); apart = tt };
    sorted = λ k d a b. absurd (omega (arith, b));
    own = tt;
    todo = tt;
    voids = tt;
    kept = refl;
    wrong = refl;
    committed = refl;
  }

  pub sound_arrived : (plus : Bool) (e : Event) (p : Part) (shelf : List (ℕ × Node S)) (w c : ℕ) (bound : Key) → IsSound guests number period opening p shelf w c bound → MayWait number bound e → IsSound guests number period opening (arrived (record { plus = plus; event = e }) p) shelf (marked_in p.done (arrived (record { plus = plus; event = e }) p).voids) c bound
  sound_arrived plus e p shelf w c bound s h =
      let waits = arrived_waits (MayWait number bound) plus e p h s.todo s.voids in
      let done = sym (arrived_done plus e p) in
      record {
        timed = s.timed;
        tidy = arrived_tidy plus e p s.tidy;
        sorted = subst (IsSorted event_cmp) done s.sorted;
        own = subst (AllByRecursion (λ x. x.router ≡ number)) done s.own;
        todo = waits.0;
        voids = waits.1;
        kept = s.kept ∙ ap (λ d. kept_from c (nodes_over guests 0 opening d)) done;
        wrong = ap (λ d. marked_in d (arrived (record { plus = plus; event = e }) p).voids) done;
        committed = s.committed ∙ ap (λ d. length (below bound d)) done;
      }

  pub sound_handled : (p : Part) (e : Event) (es : List Event) (shelf : List (ℕ × Node S)) (w c : ℕ) (bound : Key) → IsSound guests number period opening p shelf w c bound → p.todo ≡ e ∷ es → is_behind p ≡ false → IsSound guests number period opening (record p { done = p.done ++ e ∷ []; todo = es }) (kept_from c (nodes_over guests 0 opening (p.done ++ e ∷ []))) w c bound
  sound_handled p e es shelf w c bound s is h =
      let one = first_of (MayWait number bound) p.todo es e is s.todo in
      let apart = subst (λ l. AllByRecursion (λ v. stands v l ≡ false) p.voids) is s.tidy.apart in
      let others = all_weaker (λ v. stands v (e ∷ es) ≡ false) (λ v. is_same v e ≡ false) p.voids (λ v k. first_apart v e es k) apart in
      record {
        timed = s.timed;
        tidy = record {
          todo = sorted_rest e es (subst (IsSorted event_cmp) is s.tidy.todo);
          voids = s.tidy.voids;
          apart = all_weaker (λ v. stands v (e ∷ es) ≡ false) (λ v. stands v es ≡ false) p.voids (λ v k. rest_apart v e es k) apart;
        };
        sorted = sorted_push p.done e s.sorted (not_before p e es is h);
        own = all_append (λ x. x.router ≡ number) p.done (e ∷ []) s.own (one.0.0, tt);
        todo = one.1;
        voids = s.voids;
        kept = refl;
        wrong = s.wrong ∙ sym (marks_stay e p.done p.voids others);
        committed = s.committed ∙ ap length (sym (below_past bound p.done (e ∷ []) (one.0.1, tt)));
      }

  -- ---- taking back

  off_past : (p : Part) (shelf : List (ℕ × Node S)) (w c : ℕ) (bound : Key) → IsSound guests number period opening p shelf w c bound → AllByRecursion (λ x. IsPast bound x.key) (since (is_wrong p) p.done)
  off_past p shelf w c bound s =
      let past_todo = all_weaker (MayWait number bound) (λ x. IsPast bound x.key) p.todo (λ x k. k.1) s.todo in
      let past_voids = all_weaker (MayWait number bound) (λ x. IsPast bound x.key) p.voids (λ x k. k.1) s.voids in
      taken_past bound p s.sorted past_todo past_voids

  -- no committed entry is taken off
  stay_committed : (p : Part) (shelf : List (ℕ × Node S)) (w c : ℕ) (bound : Key) → IsSound guests number period opening p shelf w c bound → c ≡ length (below bound (until (is_wrong p) p.done))
  stay_committed p shelf w c bound s =
      s.committed
      ∙ ap (λ d. length (below bound d)) (sym (until_since (is_wrong p) p.done))
      ∙ ap length (below_past bound (until (is_wrong p) p.done) (since (is_wrong p) p.done) (off_past p shelf w c bound s))

  -- so a node is kept for the entries that stay
  pub stay_reached : (p : Part) (shelf : List (ℕ × Node S)) (w c : ℕ) (bound : Key) → IsSound guests number period opening p shelf w c bound → c ≤ length (until (is_wrong p) p.done)
  stay_reached p shelf w c bound s =
      let counted = stay_committed p shelf w c bound s in
      let short = below_short bound (until (is_wrong p) p.done) in
      omega (arith, counted, short)

  pub sound_rolled : (p : Part) (came lost : List Event) (shelf : List (ℕ × Node S)) (w c : ℕ) (bound : Key) → IsSound guests number period opening p shelf w c bound → since (is_wrong p) p.done ≡ came ++ lost → IsSound guests number period opening (with_todo came (beside (until (is_wrong p) p.done) p)) (kept_from c (nodes_over guests 0 opening (until (is_wrong p) p.done))) 0 c bound
  unfolding with_todo cancelled
  sound_rolled p came lost shelf w c bound s is =
      let stay = until (is_wrong p) p.done in
      let off = since (is_wrong p) p.done in
      let past = off_past p shelf w c bound s in
      let own_off = all_since (λ x. x.router ≡ number) (is_wrong p) p.done s.own in
      let may = all_both (λ x. x.router ≡ number) (λ x. IsPast bound x.key) off own_off past in
      let may_came = front_of (MayWait number bound) came lost (subst (AllByRecursion (MayWait number bound)) is may) in
      let waits = waits_todo (MayWait number bound) came (beside stay p) may_came (s.todo, s.voids) in
      record {
        timed = s.timed;
        tidy = todo_tidy came (beside stay p) (record { todo = s.tidy.todo; voids = s.tidy.voids; apart = s.tidy.apart });
        sorted = sorted_until (is_wrong p) p.done s.sorted;
        own = all_until (λ x. x.router ≡ number) (is_wrong p) p.done s.own;
        todo = waits.0;
        voids = waits.1;
        kept = refl;
        wrong = sym (count_none (λ v. stands v stay) (with_todo came (beside stay p)).voids (all_unmatched (λ v. stands v stay ≡ false) (sorted (came ++ p.todo)) p.voids (none_handled p)));
        committed = stay_committed p shelf w c bound s;
      }
    where
      front_of : (P : Event → Type 0) (xs ys : List Event) → AllByRecursion P (xs ++ ys) → AllByRecursion P xs
      front_of P [] ys a = tt
      front_of P (x ∷ xs) ys a = (a.0, front_of P xs ys a.1)

  -- ---- committing

  pub sound_committed : (p : Part) (shelf : List (ℕ × Node S)) (w c : ℕ) (bound key : Key) → IsSound guests number period opening p shelf w c bound → AllByRecursion (λ e. IsPast key e.key) (p.todo ++ p.voids) → IsSound guests number period opening p (kept_from (length (below key p.done)) (nodes_over guests 0 opening p.done)) w (length (below key p.done)) key
  sound_committed p shelf w c bound key s a =
      let both = split_all (λ e. IsPast key e.key) p.todo p.voids a in
      record {
        timed = s.timed;
        tidy = s.tidy;
        sorted = s.sorted;
        own = s.own;
        todo = moved p.todo s.todo both.0;
        voids = moved p.voids s.voids both.1;
        kept = refl;
        wrong = s.wrong;
        committed = refl;
      }
    where
      split_all : (P : Event → Type 0) (xs ys : List Event) → AllByRecursion P (xs ++ ys) → AllByRecursion P xs × AllByRecursion P ys
      split_all P [] ys a = (tt, a)
      split_all P (x ∷ xs) ys a = let r = split_all P xs ys a.1 in ((a.0, r.0), r.1)

      moved : (es : List Event) → AllByRecursion (MayWait number bound) es → AllByRecursion (λ e. IsPast key e.key) es → AllByRecursion (MayWait number key) es
      moved [] a b = tt
      moved (e ∷ es) a b = ((a.0.0, b.0), moved es a.1 b.1)

-- a node is kept for all entries
pub done_reached : {S : Type 0} {guests : Meaning S} {number period : ℕ} {opening : Node S} {p : Part} {shelf : List (ℕ × Node S)} {w c : ℕ} {bound : Key} → IsSound guests number period opening p shelf w c bound → c ≤ length p.done
done_reached {p = p} {bound = bound} s =
    let counted = s.committed in
    let short = below_short bound p.done in
    omega (arith, counted, short)

-- ---- a router by its parts

abbrev pub seen : {S : Type 0} → ℕ → List End → Timing → Node S → Part → ℕ → Key → Speculation S
seen number ends timing opening part committed bound =
    record { number = number; ends = ends; timing = timing; opening = opening; part = part; committed = committed; bound = bound }
