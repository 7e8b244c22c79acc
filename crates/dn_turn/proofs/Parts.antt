-- Splits, joins, looks after a join, and the end keep the rule of the turn.
use Rattle.std.proofs.Common.{◌≡◌, ◌≢◌, ◌⊎◌, ℕ, zero, suc, ◌+◌, ◌≤◌, List, [], ◌∷◌, ◌++◌, length, leb, get_or, set, Bool, true, false, true≢false, not, ◌&&◌, ◌||◌, Option, Some, None, refl, sym, ap, ◌∙◌, subst, cond, inl, inr, ⊎_elim, arith, leb-true, leb-false}
use mathlib.Core.Option as core
use mathlib.Core.Option.{some-ne-none, some-injective}
use Rattle.dn_model.specs.Settled.{IsPrefixOf}
use lib.ListN.{get_elem?}
use lib.Seq.{set-get_or}
use Rattle.atomic_table.specs.Table.{State, Me, step, keeps, Allows, Splits, Joins, Final, Seen}
use Rattle.atomic_table.proofs.Lists.{set_here, set_else, at_longer, at_last}
use Rattle.dn_model.specs.Cases.{Heading}
use Rattle.dn_world.specs.declared.entry.Entry.{Entry}
use Rattle.dn_world.specs.Logs.{fed}
use Rattle.dn_turn.specs.declared.view.View.{View}
use Rattle.atomic_table.specs.Seated.{TableId}
use Rattle.dn_turn.specs.Places.{longer}
use Rattle.dn_turn.specs.Seat.{SeatView, seat_view}
use Rattle.dn_turn.specs.Rule.{feeding, Fits, one_if, live_count, HasFeeder, HasHolder, Turned, left_view, right_view, both_views, spent_view, settled_view, Settled}
use Rattle.dn_turn.proofs.Prefixes.{prefix_self, prefix_shorter}
use Rattle.dn_turn.proofs.Keeps.{count_set, count_same, one_view, at_least, IsSameRole, first_stays, feeder_kept, feeder_stays, each_set, none-some, some_same, by_test, count_there, alone}

off : false ≡ true → ⊥
off e = true≢false (sym e)

-- of two beginnings of one list the longer begins it, and each begins the longer
pub longer_prefix : {A : Type 0} (a b l : List A) → IsPrefixOf a l → IsPrefixOf b l → IsPrefixOf a (longer a b) × IsPrefixOf b (longer a b) × IsPrefixOf (longer a b) l
longer_prefix a b l p q = by_cases (leb (length a) (length b)) refl
  where
    by_cases : (t : Bool) → leb (length a) (length b) ≡ t → IsPrefixOf a (cond t b a) × IsPrefixOf b (cond t b a) × IsPrefixOf (cond t b a) l
    by_cases true e = (prefix_shorter a b l p q (leb-true (length a) (length b) e), prefix_self b, q)
    by_cases false e = let h = leb-false (length a) (length b) e in (prefix_self a, prefix_shorter b a l q p (omega arith), p)

at_snoc_place : {A : Type 0} (l : List A) (a b : A) (j : ℕ) → get_elem? (l ++ a ∷ []) j ≡ core.some b → (get_elem? l j ≡ core.some b) ⊎ ((j ≡ length l) × (a ≡ b))
at_snoc_place [] a b zero e = inr (refl, some-injective a b e)
at_snoc_place [] a b (suc j) e = absurd (some-ne-none b (sym e))
at_snoc_place (x ∷ xs) a b zero e = inl e
at_snoc_place (x ∷ xs) a b (suc j) e = ⊎_elim (λ h. inl h) (λ (t : (j ≡ length xs) × (a ≡ b)). inr (ap suc t.0, t.1)) (at_snoc_place xs a b j e)

left_feeds : (over b : Bool) → b && not over ≡ true → (over ≡ false) × (b ≡ true)
left_feeds true true e = absurd (off e)
left_feeds true false e = absurd (off e)
left_feeds false true e = (refl, refl)
left_feeds false false e = absurd (off e)

left_same : (over b : Bool) → over ≡ false → b && not over ≡ b
left_same true b e = absurd (true≢false e)
left_same false true e = refl
left_same false false e = refl

or_left : (a b : Bool) → a || b ≡ true → b ≡ false → a ≡ true
or_left true b e n = refl
or_left false true e n = absurd (true≢false n)
or_left false false e n = absurd (off e)

or_right : (a b : Bool) → b ≡ true → a || b ≡ true
or_right true b e = refl
or_right false b e = e

or_none : (a b : Bool) → b ≡ false → a || b ≡ a
or_none true b e = refl
or_none false b e = e

module _ {O : Type 0} where
  count_snoc : (vs : List (View O)) (w : View O) → live_count (vs ++ w ∷ []) ≡ live_count vs + one_if w.live
  count_snoc [] w = omega arith
  count_snoc (x ∷ xs) w = let more = count_snoc xs w in omega arith

  holder_stays : (vs : List (View O)) (at id : ℕ) (v w : View O) (log : List Entry) → get_elem? vs id ≡ core.some v → v.held ≡ None → HasHolder vs at log → HasHolder (set vs id w) at log
  holder_stays vs at id v w log here free h = record {
    view = h.view;
    there = set_else vs id at w (λ is. none-some log (sym free ∙ (ap (λ (u : View O). u.held) (one_view vs at v h.view (ap (get_elem? vs) is ∙ here) h.there) ∙ h.holds))) ∙ h.there;
    live = h.live;
    holds = h.holds;
  }

  holder_longer : (vs ws : List (View O)) (at : ℕ) (log : List Entry) → HasHolder vs at log → HasHolder (vs ++ ws) at log
  holder_longer vs ws at log h = record { view = h.view; there = at_longer vs ws at h.view h.there; live = h.live; holds = h.holds }

  feeder_longer : (vs ws : List (View O)) (at : ℕ) → HasFeeder vs at → HasFeeder (vs ++ ws) at
  feeder_longer vs ws at h = record { view = h.view; there = at_longer vs ws at h.view h.there; live = h.live; feeds = h.feeds }

  split_feeder : (over : Bool) (vs : List (View O)) (at id : ℕ) (v : View O) → get_elem? vs id ≡ core.some v → v.live ≡ true → HasFeeder vs at
      → HasFeeder (set vs id (left_view over v) ++ right_view over v ∷ []) (cond over (length (set vs id (left_view over v))) at)
  split_feeder true vs at id v here live h = record { view = right_view true v; there = at_last (set vs id (left_view true v)) (right_view true v) (length (set vs id (left_view true v))) refl; live = live; feeds = refl }
  split_feeder false vs at id v here live h = feeder_longer (set vs id (left_view false v)) (right_view false v ∷ []) at (feeder_kept vs at id v (left_view false v) here refl (left_same false v.feeds refl) h)

module _ {S O : Type 0} (header : S → Heading) (opening_of : S → List O) (log : S → List Entry) where
  abbrev St : Type 0
  St = State (Option S) (View O)

  abbrev M : Type 0
  M = Me (Option S) (View O)

  abbrev Rule : St → Type 0
  Rule = Turned header opening_of log

  pub splits : (over : Bool) (id : ℕ) (v : View O) → v.live ≡ true → v.held ≡ None → v.first ≡ true → (over ≡ true → v.feeds ≡ true) → Splits Rule id v (left_view over v) (right_view over v)
  splits over id v live free is_first right s r at =
      let l = left_view over v in
      let w = right_view over v in
      let vs : List (View O) = set s.views id l in
      let mine = r.each id v at live in
      let word : ℕ = get_or s.words 0 0 in
      let feeder : ℕ = cond over (length vs) r.feeder_at in
      let P : ℕ → View O → Type 0 = Fits r.head r.guests r.entries word r.holder r.first_at feeder in
      let here : id ≡ r.first_at = mine.first is_first in
      let first_is : r.has_first.view ≡ v = one_view s.views id r.has_first.view v (ap (get_elem? s.views) here ∙ r.has_first.there) at in record {
        head = r.head;
        guests = r.guests;
        entries = r.entries;
        holder = r.holder;
        first_at = r.first_at;
        feeder_at = feeder;
        wide = r.wide;
        word = r.word;
        free = r.free;
        out = λ e. let o = r.out e in (o.0, holder_longer vs (w ∷ []) r.holder r.entries (holder_stays s.views r.holder id v l r.entries at free o.1));
        each = λ j u e on. ⊎_elim
            (λ (t : get_elem? vs j ≡ core.some u). each_set P s.views id l
            (λ _. record {
              header = mine.header;
              opening = mine.opening;
              seen = mine.seen;
              ended = mine.ended;
              holds = λ t h. absurd (none-some t (sym free ∙ h));
              feeds = λ h. let k = left_feeds over v.feeds h in ((mine.feeds k.1).0 ∙ sym (ap (λ b. cond b (length vs) r.feeder_at) k.0), (mine.feeds k.1).1);
              first = mine.first;
            })
            (λ i x other there up. let f = r.each i x there up in record {
              header = f.header;
              opening = f.opening;
              seen = f.seen;
              ended = f.ended;
              holds = f.holds;
              feeds = λ h. (by_test over (λ yes. absurd (other ((f.feeds h).0 ∙ sym (mine.feeds (right yes)).0))) (λ no. (f.feeds h).0 ∙ sym (ap (λ b. cond b (length vs) r.feeder_at) no)), (f.feeds h).1);
              first = f.first;
            })
            j u t on)
            (λ (t : (j ≡ length vs) × (w ≡ u)). subst (λ (x : ℕ × View O). P x.0 x.1) (λ i. (sym t.0 i, t.1 i)) record {
              header = mine.header;
              opening = mine.opening;
              seen = mine.seen;
              ended = mine.ended;
              holds = λ t h. absurd (none-some t (sym free ∙ h));
              feeds = λ h. (sym (ap (λ b. cond b (length vs) r.feeder_at) h), (mine.feeds (right h)).1);
              first = λ h. absurd (off h);
            })
            (at_snoc_place vs w u j e);
        has_first = record {
          view = l;
          there = at_longer vs (w ∷ []) r.first_at l (ap (get_elem? vs) (sym here) ∙ set_here s.views id l (at_least s.views id v at));
          live = live;
          first = is_first;
          count =
              let a : live_count (vs ++ w ∷ []) ≡ live_count vs + one_if v.live = count_snoc vs w in
              let b : live_count vs ≡ live_count s.views = count_same s.views id v l at refl in
              let c : live_count s.views ≡ v.out + 1 = r.has_first.count ∙ ap (λ (u : View O). u.out + 1) first_is in
              let d : one_if v.live ≡ 1 = ap one_if live in
              omega arith;
        };
        has_feeder = split_feeder over s.views r.feeder_at id v at live r.has_feeder;
      }

  pub joins : (id : ℕ) (v : View O) (other : ℕ) (w : View O) → v.live ≡ true → w.live ≡ true → v.held ≡ None → w.held ≡ None → v.first ≡ true → v.ended_fed ≡ false → w.ended_fed ≡ false
      → Joins Rule id v other w (both_views v w) spent_view
  joins id v other w live up free free_too is_first settled settled_too s r at apart there =
      let b = both_views v w in
      let x : View O = spent_view in
      let vs : List (View O) = set s.views id b in
      let back : get_elem? s.views other ≡ core.some w = sym (set_else s.views id other b apart) ∙ there in
      let mine = r.each id v at live in
      let theirs = r.each other w back up in
      let word : ℕ = get_or s.words 0 0 in
      let feeder : ℕ = cond w.feeds id r.feeder_at in
      let P : ℕ → View O → Type 0 = Fits r.head r.guests r.entries word r.holder r.first_at feeder in
      let here : id ≡ r.first_at = mine.first is_first in
      let first_is : r.has_first.view ≡ v = one_view s.views id r.has_first.view v (ap (get_elem? s.views) here ∙ r.has_first.there) at in
      let still : get_elem? (set vs other x) id ≡ core.some b = set_else vs other id x (λ e. apart (sym e)) ∙ set_here s.views id b (at_least s.views id v at) in record {
        head = r.head;
        guests = r.guests;
        entries = r.entries;
        holder = r.holder;
        first_at = r.first_at;
        feeder_at = feeder;
        wide = r.wide;
        word = r.word;
        free = r.free;
        out = λ e. let o = r.out e in (o.0, holder_stays vs r.holder other w x r.entries there free_too (holder_stays s.views r.holder id v b r.entries at free o.1));
        each = each_set P vs other x (λ e. absurd (off e)) (λ j u away e on. each_set (λ i y. i ≢ other → P i y) s.views id b
            (λ _ _. record {
              header = mine.header;
              opening = mine.opening;
              seen = mine.seen;
              ended = theirs.seen;
              holds = λ t h. absurd (none-some t (sym free ∙ h));
              feeds = λ h. by_test w.feeds
                  (λ yes. (sym (ap (λ c. cond c id r.feeder_at) yes), (theirs.feeds yes).1 ∙ (ap (λ c. fed (cond c w.ended w.seen)) settled_too ∙ sym (ap (λ c. fed (cond c w.seen v.seen)) yes))))
                  (λ no. let k = mine.feeds (or_left v.feeds w.feeds h no) in (k.0 ∙ sym (ap (λ c. cond c id r.feeder_at) no), k.1 ∙ (ap (λ c. fed (cond c v.ended v.seen)) settled ∙ sym (ap (λ c. fed (cond c w.seen v.seen)) no))));
              first = mine.first;
            })
            (λ i y not_id there_too on_too not_other. let f = r.each i y there_too on_too in record {
              header = f.header;
              opening = f.opening;
              seen = f.seen;
              ended = f.ended;
              holds = f.holds;
              feeds = λ h. (by_test w.feeds (λ yes. absurd (not_other ((f.feeds h).0 ∙ sym (theirs.feeds yes).0))) (λ no. (f.feeds h).0 ∙ sym (ap (λ c. cond c id r.feeder_at) no)), (f.feeds h).1);
              first = f.first;
            })
            j u e on away);
        has_first = record {
          view = b;
          there = ap (get_elem? (set vs other x)) (sym here) ∙ still;
          live = live;
          first = is_first;
          count =
              let a : live_count (set vs other x) + one_if w.live ≡ live_count vs + 0 = count_set vs other w x there in
              let c : live_count vs ≡ live_count s.views = count_same s.views id v b at refl in
              let d : live_count s.views ≡ v.out + 1 = r.has_first.count ∙ ap (λ (u : View O). u.out + 1) first_is in
              let e : one_if w.live ≡ 1 = ap one_if up in
              let f : 1 ≤ live_count (set vs other x) = count_there (set vs other x) id b still live in
              omega arith;
        };
        has_feeder = by_test w.feeds
            (λ yes. subst (λ k. HasFeeder (set vs other x) k) (sym (ap (λ c. cond c id r.feeder_at) yes)) record { view = b; there = still; live = live; feeds = or_right v.feeds w.feeds yes })
            (λ no. subst (λ k. HasFeeder (set vs other x) k) (sym (ap (λ c. cond c id r.feeder_at) no))
            (let h = feeder_kept s.views r.feeder_at id v b at refl (or_none v.feeds w.feeds no) r.has_feeder in record {
              view = h.view;
              there = set_else vs other r.feeder_at x (λ is. true≢false (sym h.feeds ∙ (ap (λ (u : View O). u.feeds) (one_view vs other h.view w (ap (get_elem? vs) (sym is) ∙ h.there) there) ∙ no))) ∙ h.there;
              live = h.live;
              feeds = h.feeds;
            }));
      }

  pub settles : (between : (xs ys zs : List Entry) → IsPrefixOf xs ys → IsPrefixOf ys zs → fed zs ≡ fed xs → fed ys ≡ fed xs) (slots id : ℕ) (m : M) → m.0.live ≡ true → m.0.held ≡ None
      → Allows Rule slots id m 0 (λ n. n) (λ n. Settled (step slots 0 0 0 core.none) m n)
  settles between slots id m live free s r _ at _ =
      let w = settled_view m.0 in
      let mine = r.each id m.0 at live in
      let both = longer_prefix m.0.seen m.0.ended r.entries mine.seen mine.ended in
      let begins : IsPrefixOf (feeding m.0) w.seen = by_test m.0.ended_fed (λ yes. subst (λ c. IsPrefixOf (cond c m.0.ended m.0.seen) w.seen) (sym yes) both.1) (λ no. subst (λ c. IsPrefixOf (cond c m.0.ended m.0.seen) w.seen) (sym no) both.0) in
      let fed_same : m.0.feeds ≡ true → fed w.seen ≡ fed (feeding m.0) = λ h. between (feeding m.0) w.seen r.entries begins both.2 (mine.feeds h).1 in
      let role : IsSameRole m.0 w = record { live = refl; first = refl; out = refl; feeds = refl } in (
        w,
        keeps,
        tt,
        subst (λ (ws : List ℕ). Rule record { words = ws; homes = s.homes; views = set s.views id w }) (sym (set-get_or s.words 0 0)) record {
          head = r.head;
          guests = r.guests;
          entries = r.entries;
          holder = r.holder;
          first_at = r.first_at;
          feeder_at = r.feeder_at;
          wide = r.wide;
          word = r.word;
          free = r.free;
          out = λ e. let o = r.out e in (o.0, holder_stays s.views r.holder id m.0 w r.entries at free o.1);
          each = each_set (Fits r.head r.guests r.entries (get_or s.words 0 0) r.holder r.first_at r.feeder_at) s.views id w
              (λ _. record {
                header = mine.header;
                opening = mine.opening;
                seen = both.2;
                ended = (r.entries, refl);
                holds = mine.holds;
                feeds = λ h. ((mine.feeds h).0, (mine.feeds h).1 ∙ sym (fed_same h));
                first = mine.first;
              })
              (λ j u _ there on. r.each j u there on);
          has_first = first_stays s.views r.first_at id m.0 w at role r.has_first;
          has_feeder = feeder_stays s.views r.feeder_at id m.0 w at role r.has_feeder;
        },
        (refl, both.0, both.1, fed_same),
      )

  -- what the end gives
  pub record Closes (v : View O) (xs : List (Option S)) : Type 0 where
    pub value : S
    pub there : get_elem? xs 0 ≡ core.some (Some value)
    pub same_header : header value ≡ v.header
    pub same_opening : opening_of value ≡ v.opening
    pub seen : IsPrefixOf v.seen (log value)
    pub same_fed : fed (log value) ≡ fed v.seen
    pub feeds : v.feeds ≡ true

  pub closes : (id : ℕ) (v : View O) (words : List ℕ) (xs : List (Option S)) → v.live ≡ true → v.held ≡ None → v.first ≡ true → v.out ≡ 0 → v.ended_fed ≡ false → Final (Seen Rule id v) words xs → Closes v xs
  closes id v words xs live free is_first none_out settled f =
      let s = f.0 in
      let r = f.1.0 in
      let at = f.1.1 in
      let mine = r.each id v at live in
      let feeder = alone header opening_of log s r id v at live is_first none_out r.feeder_at r.has_feeder.view r.has_feeder.there r.has_feeder.live in
      let feeds : v.feeds ≡ true = sym (ap (λ (u : View O). u.feeds) feeder) ∙ r.has_feeder.feeds in
      ⊎_elim
      (λ (z : get_or s.words 0 0 ≡ 0). let home = r.free z in record {
        value = home.value;
        there = f.4 0 (Some home.value) (ap (λ hs. get_elem? hs 0) home.there);
        same_header = home.same_header ∙ sym mine.header;
        same_opening = home.same_opening ∙ sym mine.opening;
        seen = subst (IsPrefixOf v.seen) (sym home.same_log) mine.seen;
        same_fed = ap fed home.same_log ∙ ((mine.feeds feeds).1 ∙ ap (λ c. fed (cond c v.ended v.seen)) settled);
        feeds = feeds;
      })
      (λ (z : get_or s.words 0 0 ≡ 1). let h = (r.out z).1 in let is = alone header opening_of log s r id v at live is_first none_out r.holder h.view h.there h.live in
      absurd (none-some r.entries (sym free ∙ (sym (ap (λ (u : View O). u.held) is) ∙ h.holds))))
      r.word

  -- the same, for the value and the seat that the call sees
  pub record Ends (v : SeatView O) (x : S) : Type 0 where
    pub same_header : header x ≡ v.header
    pub same_opening : opening_of x ≡ v.opening
    pub seen : IsPrefixOf v.seen (log x)
    pub same_fed : fed (log x) ≡ fed v.seen
    pub feeds : v.feeds ≡ true

  pub found : (v : View O) (xs : List (Option S)) (o : Option S) → Closes v xs → get_elem? xs 0 ≡ core.some o → (x : S) × (o ≡ Some x)
  found v xs o e at = (e.value, some-injective o (Some e.value) (sym at ∙ e.there))

  pub ends : (z : TableId) (seat : SeatView O) (v : View O) (xs : List (Option S)) (o : Option S) (x : S) → seat_view z v ≡ seat → Closes v xs → get_elem? xs 0 ≡ core.some o → o ≡ Some x → Ends seat x
  ends z seat v xs o x is e at some =
      let same : e.value ≡ x = some_same e.value x (some-injective (Some e.value) o (sym e.there ∙ at) ∙ some) in
      subst (λ (y : S × SeatView O). Ends y.1 y.0) (λ i. (same i, is i)) record { same_header = e.same_header; same_opening = e.same_opening; seen = e.seen; same_fed = e.same_fed; feeds = e.feeds }
