-- Each step keeps the rule of the turn.
use Rattle.std.proofs.Common.{◌≡◌, ◌≢◌, ℕ, zero, suc, ◌+◌, ◌<◌, ◌≤◌, eqb, eq-eqb, ne_eqb, List, [], ◌∷◌, length, get_or, set, Bool, true, false, Option, Some, None, refl, sym, ap, ap₂, ◌∙◌, subst, cond, inl, inr, ⊎_elim, arith, length-set, get_or-set_same}
use mathlib.Core.Option as core
use mathlib.Core.Option.{some-ne-none, some-injective}
use mathlib.Core.Logic.{dite}
use Rattle.dn_model.specs.Settled.{IsPrefixOf}
use native.Mathlib.Decide.{ℕ_discrete}
use lib.ListN.{get_elem?}
use prog.Atomic.{either}
use lib.Seq.{set-get_or}
use Rattle.atomic_table.specs.Table.{State, Me, Act, step, keeps, takes, gives, stepped, opening, put_back, rest, carried_after, Valid, Allows}
use Rattle.atomic_table.proofs.Lists.{at_set, set_again, set_here, set_else}
use Rattle.dn_model.specs.Cases.{Heading}
use Rattle.dn_world.specs.declared.entry.Entry.{Entry}
use Rattle.dn_world.specs.Logs.{fed}
use Rattle.dn_turn.specs.declared.view.View.{View}
use Rattle.dn_turn.specs.Rule.{first_view, Fits, one_if, live_count, HasFirst, HasFeeder, Turned, took, Tried, put_view, Released}
use Rattle.dn_turn.proofs.Prefixes.{prefix_self, prefix_trans}

-- a list of one element has no more
one_only : {A : Type 0} (x y : A) (j : ℕ) → get_elem? (x ∷ []) j ≡ core.some y → (j ≡ 0) × (x ≡ y)
one_only x y zero e = (refl, some-injective x y e)
one_only x y (suc j) e = absurd (some-ne-none y (sym e))

module _ {O : Type 0} where
  pub count_set : (vs : List (View O)) (j : ℕ) (v w : View O) → get_elem? vs j ≡ core.some v → live_count (set vs j w) + one_if v.live ≡ live_count vs + one_if w.live
  count_set [] j v w e = absurd (some-ne-none v (sym e))
  count_set (x ∷ xs) zero v w e = let same : one_if x.live ≡ one_if v.live = ap (λ (u : View O). one_if u.live) (some-injective x v e) in omega arith
  count_set (x ∷ xs) (suc j) v w e = let more = count_set xs j v w e in omega arith

  pub count_same : (vs : List (View O)) (j : ℕ) (v w : View O) → get_elem? vs j ≡ core.some v → w.live ≡ v.live → live_count (set vs j w) ≡ live_count vs
  count_same vs j v w e same = let c = count_set vs j v w e in let s : one_if w.live ≡ one_if v.live = ap one_if same in omega arith

  pub count_there : (vs : List (View O)) (j : ℕ) (v : View O) → get_elem? vs j ≡ core.some v → v.live ≡ true → 1 ≤ live_count vs
  count_there [] j v e on = absurd (some-ne-none v (sym e))
  count_there (x ∷ xs) zero v e on = let one : one_if x.live ≡ 1 = ap (λ (u : View O). one_if u.live) (some-injective x v e) ∙ ap one_if on in omega arith
  count_there (x ∷ xs) (suc j) v e on = let more = count_there xs j v e on in omega arith

  pub count_two : (vs : List (View O)) (i j : ℕ) (v u : View O) → get_elem? vs i ≡ core.some v → v.live ≡ true → get_elem? vs j ≡ core.some u → u.live ≡ true → i ≢ j → 2 ≤ live_count vs
  count_two [] i j v u e on f up n = absurd (some-ne-none v (sym e))
  count_two (x ∷ xs) zero zero v u e on f up n = absurd (n refl)
  count_two (x ∷ xs) zero (suc j) v u e on f up n = let one : one_if x.live ≡ 1 = ap (λ (u : View O). one_if u.live) (some-injective x v e) ∙ ap one_if on in let more = count_there xs j u f up in omega arith
  count_two (x ∷ xs) (suc i) zero v u e on f up n = let one : one_if x.live ≡ 1 = ap (λ (u : View O). one_if u.live) (some-injective x u f) ∙ ap one_if up in let more = count_there xs i v e on in omega arith
  count_two (x ∷ xs) (suc i) (suc j) v u e on f up n = let more = count_two xs i j v u e on f up (λ h. n (ap suc h)) in omega arith

  -- what stands at a place is one view
  pub one_view : (vs : List (View O)) (j : ℕ) (v w : View O) → get_elem? vs j ≡ core.some v → get_elem? vs j ≡ core.some w → v ≡ w
  one_view vs j v w a b = some-injective v w (sym a ∙ b)

  pub at_least : (vs : List (View O)) (j : ℕ) (v : View O) → get_elem? vs j ≡ core.some v → j < length vs
  at_least [] j v e = absurd (some-ne-none v (sym e))
  at_least (x ∷ xs) zero v e = omega arith
  at_least (x ∷ xs) (suc j) v e = let h = at_least xs j v e in omega arith

  -- a view that stays in its part
  pub record IsSameRole (v w : View O) : Type 0 where
    pub live : w.live ≡ v.live
    pub first : w.first ≡ v.first
    pub out : w.out ≡ v.out
    pub feeds : w.feeds ≡ v.feeds

  pub first_stays : (vs : List (View O)) (at id : ℕ) (v w : View O) → get_elem? vs id ≡ core.some v → IsSameRole v w → HasFirst vs at → HasFirst (set vs id w) at
  first_stays vs at id v w here same h = dite (ℕ_discrete at id)
      (λ is. let mine : get_elem? vs at ≡ core.some v = ap (get_elem? vs) is ∙ here in let one = one_view vs at h.view v h.there mine in record {
        view = w;
        there = ap (get_elem? (set vs id w)) is ∙ set_here vs id w (at_least vs id v here);
        live = same.live ∙ sym (ap (λ (u : View O). u.live) one) ∙ h.live;
        first = same.first ∙ sym (ap (λ (u : View O). u.first) one) ∙ h.first;
        count = count_same vs id v w here same.live ∙ h.count ∙ ap (λ (k : ℕ). k + 1) (ap (λ (u : View O). u.out) one ∙ sym same.out);
      })
      (λ other. record { view = h.view; there = set_else vs id at w other ∙ h.there; live = h.live; first = h.first; count = count_same vs id v w here same.live ∙ h.count })

  pub feeder_kept : (vs : List (View O)) (at id : ℕ) (v w : View O) → get_elem? vs id ≡ core.some v → w.live ≡ v.live → w.feeds ≡ v.feeds → HasFeeder vs at → HasFeeder (set vs id w) at
  feeder_kept vs at id v w here lives feeds h = dite (ℕ_discrete at id)
      (λ is. let mine : get_elem? vs at ≡ core.some v = ap (get_elem? vs) is ∙ here in let one = one_view vs at h.view v h.there mine in record {
        view = w;
        there = ap (get_elem? (set vs id w)) is ∙ set_here vs id w (at_least vs id v here);
        live = lives ∙ sym (ap (λ (u : View O). u.live) one) ∙ h.live;
        feeds = feeds ∙ sym (ap (λ (u : View O). u.feeds) one) ∙ h.feeds;
      })
      (λ other. record { view = h.view; there = set_else vs id at w other ∙ h.there; live = h.live; feeds = h.feeds })

  pub feeder_stays : (vs : List (View O)) (at id : ℕ) (v w : View O) → get_elem? vs id ≡ core.some v → IsSameRole v w → HasFeeder vs at → HasFeeder (set vs id w) at
  feeder_stays vs at id v w here same h = feeder_kept vs at id v w here same.live same.feeds h

  -- a fact of each live view, where one view changes
  pub each_set : (P : ℕ → View O → Type 0) (vs : List (View O)) (id : ℕ) (w : View O) → (w.live ≡ true → P id w) → ((j : ℕ) (u : View O) → j ≢ id → get_elem? vs j ≡ core.some u → u.live ≡ true → P j u)
      → (j : ℕ) (u : View O) → get_elem? (set vs id w) j ≡ core.some u → u.live ≡ true → P j u
  each_set P vs id w mine others j u e = ⊎_elim
      (λ (t : (j ≡ id) × (w ≡ u)). subst (λ (x : ℕ × View O). x.1.live ≡ true → P x.0 x.1) (λ i. (sym t.0 i, t.1 i)) mine)
      (λ (t : (j ≢ id) × (get_elem? vs j ≡ core.some u)). others j u t.0 t.1)
      (at_set vs id j w u e)

  -- what the rule says of a view that does not hold stays where the log and its fed list stay
  pub fits_free : (head : Heading) (guests : List O) (log log' : List Entry) (word holder word' holder' first_at feeder_at j : ℕ) (u : View O) → IsPrefixOf log log' → ((t : List Entry) → u.held ≡ Some t → ⊥) → (u.feeds ≡ true → fed log' ≡ fed log)
      → Fits head guests log word holder first_at feeder_at j u → Fits head guests log' word' holder' first_at feeder_at j u
  fits_free head guests log log' word holder word' holder' first_at feeder_at j u grown not_held same f = record {
    header = f.header;
    opening = f.opening;
    seen = prefix_trans u.seen log log' f.seen grown;
    ended = prefix_trans u.ended log log' f.ended grown;
    holds = λ t e. absurd (not_held t e);
    feeds = λ e. ((f.feeds e).0, same e ∙ (f.feeds e).1);
    first = f.first;
  }

pub none-some : {A : Type 0} (x : A) → None ≡ Some x → ⊥
none-some x e = absurd (cc e)

pub some_same : {A : Type 0} (x y : A) → Some x ≡ Some y → x ≡ y
some_same x y e = cc e

pub by_test : {A : Type 0} (b : Bool) → (b ≡ true → A) → (b ≡ false → A) → A
by_test true f g = f refl
by_test false f g = g refl

module _ {S O : Type 0} (header : S → Heading) (opening_of : S → List O) (log : S → List Entry) where
  abbrev St : Type 0
  St = State (Option S) (View O)

  abbrev M : Type 0
  M = Me (Option S) (View O)

  abbrev Rule : St → Type 0
  Rule = Turned header opening_of log

  -- what a try owes at the state s
  abbrev Tries : ℕ → ℕ → M → St → Type 0
  Tries slots id m s = (w : View O) × (a : Act (Option S)) × Valid s.homes m.1 a × Rule (stepped s 0 (either (eqb (get_or s.words 0 0) 0) 1 (get_or s.words 0 0)) id m.1 w a)
      × Tried header opening_of log (step slots 0 0 1 core.none) m (get_or s.words 0 0) (w, carried_after m.1 a)

  pub opens : (x : S) → Rule (opening (0 ∷ []) (Some x ∷ []) (first_view (header x) (opening_of x) (log x)))
  opens x = let v = first_view (header x) (opening_of x) (log x) in record {
    head = header x;
    guests = opening_of x;
    entries = log x;
    holder = 0;
    first_at = 0;
    feeder_at = 0;
    wide = refl;
    word = inl refl;
    free = λ _. record { value = x; there = refl; same_header = refl; same_opening = refl; same_log = refl };
    out = λ e. absurd (omega arith);
    each = λ j u e _. let o = one_only v u j e in subst (λ (y : View O). Fits (header x) (opening_of x) (log x) 0 0 0 0 j y) o.1
        record { header = refl; opening = refl; seen = prefix_self (log x); ended = (log x, refl); holds = λ t n. absurd (none-some t n); feeds = λ _. (o.0, refl); first = λ _. o.0 };
    has_first = record { view = v; there = refl; live = refl; first = refl; count = refl };
    has_feeder = record { view = v; there = refl; live = refl; feeds = refl };
  }

  -- a step at which nothing changes
  same_state : (s : St) (id : ℕ) (v : View O) → get_elem? s.views id ≡ core.some v
      → s ≡ record { words = set s.words 0 (get_or s.words 0 0); homes = s.homes; views = set s.views id v }
  same_state s id v at i = record { words = sym (set-get_or s.words 0 0) i; homes = s.homes; views = sym (set_again s.views id v at) i }

  -- where no seat is split off, the first seat's view is the only live one
  pub alone : (s : St) (r : Rule s) (id : ℕ) (v : View O) → get_elem? s.views id ≡ core.some v → v.live ≡ true → v.first ≡ true → v.out ≡ 0 → (j : ℕ) (u : View O) → get_elem? s.views j ≡ core.some u → u.live ≡ true → u ≡ v
  alone s r id v at live is_first none_out j u there on =
      let mine = r.each id v at live in
      let here : id ≡ r.first_at = mine.first is_first in
      let first_is : r.has_first.view ≡ v = one_view s.views id r.has_first.view v (ap (get_elem? s.views) here ∙ r.has_first.there) at in
      let one : live_count s.views ≡ v.out + 1 = r.has_first.count ∙ ap (λ (u : View O). u.out + 1) first_is in
      dite (ℕ_discrete j id)
      (λ is. one_view s.views id u v (ap (get_elem? s.views) (sym is) ∙ there) at)
      (λ other. let two = count_two s.views j id u v there on at live other in absurd (omega arith))

  taken_step : (slots id : ℕ) (m : M) (s : St) (r : Rule s) → m.0.live ≡ true → m.1 ≡ [] → get_elem? s.views id ≡ core.some m.0 → get_or s.words 0 0 ≡ 0 → Tries slots id m s
  taken_step slots id m s r live bare at z =
      let home = r.free z in
      let x : S = home.value in
      let w = took header opening_of log (log x) m.0 in
      let mine = r.each id m.0 at live in
      let wide = r.wide in
      let now : get_or (set s.words 0 1) 0 0 ≡ 1 = get_or-set_same s.words 0 1 0 (omega arith) in
      let role : IsSameRole m.0 w = record { live = refl; first = refl; out = refl; feeds = refl } in (
        w,
        takes 0 (Some x),
        ap (λ hs. get_elem? hs 0) home.there,
        subst (λ b. Rule (stepped s 0 (either b 1 (get_or s.words 0 0)) id m.1 w (takes 0 (Some x)))) (sym (eq-eqb (get_or s.words 0 0) 0 z)) record {
          head = r.head;
          guests = r.guests;
          entries = r.entries;
          holder = id;
          first_at = r.first_at;
          feeder_at = r.feeder_at;
          wide = length-set s.words 0 1 ∙ wide;
          word = inr now;
          free = λ e. absurd (omega arith);
          out = λ _. (ap (λ hs. set hs 0 core.none) home.there, record { view = w; there = set_here s.views id w (at_least s.views id m.0 at); live = live; holds = ap (λ l. Some l) home.same_log });
          each = subst (λ (k : ℕ). (j : ℕ) (u : View O) → get_elem? (set s.views id w) j ≡ core.some u → u.live ≡ true → Fits r.head r.guests r.entries k id r.first_at r.feeder_at j u) (sym now)
              (each_set (Fits r.head r.guests r.entries 1 id r.first_at r.feeder_at) s.views id w
              (λ _. record {
                header = mine.header;
                opening = mine.opening;
                seen = mine.seen;
                ended = mine.ended;
                holds = λ t e. (refl, refl, sym (some_same (log x) t e) ∙ home.same_log);
                feeds = mine.feeds;
                first = mine.first;
              })
              (λ j u other there on. let f = r.each j u there on in
              fits_free r.head r.guests r.entries r.entries (get_or s.words 0 0) r.holder 1 id r.first_at r.feeder_at j u (prefix_self r.entries)
              (λ t e. let k : get_or s.words 0 0 ≡ 1 = (f.holds t e).0 in absurd (omega arith)) (λ _. refl) f));
          has_first = first_stays s.views r.first_at id m.0 w at role r.has_first;
          has_feeder = feeder_stays s.views r.feeder_at id m.0 w at role r.has_feeder;
        },
        (
          (λ _. (
            x,
            (λ i. (w, (0, Some x) ∷ bare i)),
            home.same_header ∙ sym mine.header,
            home.same_opening ∙ sym mine.opening,
            subst (IsPrefixOf m.0.seen) (sym home.same_log) mine.seen,
            λ e. ap fed home.same_log ∙ (mine.feeds e).1,
          )),
          λ n. absurd (n z),
        ),
      )

  missed_step : (slots id : ℕ) (m : M) (s : St) (r : Rule s) → m.0.live ≡ true → m.0.held ≡ None → get_elem? s.views id ≡ core.some m.0 → get_or s.words 0 0 ≡ 1 → Tries slots id m s
  missed_step slots id m s r live free at z =
      let other : get_or s.words 0 0 ≢ 0 = λ e. absurd (omega arith) in
      let not_alone : m.0.first ≡ true → m.0.out ≡ 0 → ⊥ = λ f o. let h = (r.out z).1 in
      none-some r.entries (sym free ∙ (sym (ap (λ (u : View O). u.held) (alone s r id m.0 at live f o r.holder h.view h.there h.live)) ∙ h.holds)) in (
        m.0,
        keeps,
        tt,
        subst (λ b. Rule (stepped s 0 (either b 1 (get_or s.words 0 0)) id m.1 m.0 keeps)) (sym (ne_eqb (get_or s.words 0 0) 0 other)) (subst Rule (same_state s id m.0 at) r),
        ((λ e. absurd (other e)), λ _. (z, refl, not_alone)),
      )

  pub tries : (slots id : ℕ) (m : M) → m.0.live ≡ true → m.0.held ≡ None → m.1 ≡ [] → Allows Rule slots id m 0 (λ n. either (eqb n 0) 1 n) (Tried header opening_of log (step slots 0 0 1 core.none) m)
  tries slots id m live free bare s r _ at _ = ⊎_elim (λ (z : get_or s.words 0 0 ≡ 0). taken_step slots id m s r live bare at z) (λ (z : get_or s.words 0 0 ≡ 1). missed_step slots id m s r live free at z) r.word

  abbrev slot_value : S → List (ℕ × Option S) → S
  slot_value d [] = d
  slot_value d ((n, Some y) ∷ c) = y
  slot_value d ((n, None) ∷ c) = d

  pub releases : (slots id : ℕ) (m : M) (t : List Entry) (x : S) → m.0.live ≡ true → m.0.ended_fed ≡ false → m.0.held ≡ Some t → m.1 ≡ (0, Some x) ∷ [] → header x ≡ m.0.header → opening_of x ≡ m.0.opening → IsPrefixOf t (log x)
      → (m.0.feeds ≡ false → fed (log x) ≡ fed t) → Allows Rule slots id m 0 (λ _. 0) (λ _ m'. Released log (step slots 0 0 0 core.none) m 0 m')
  releases slots id m t x live settled held bare same_header same_opening more same_fed s r _ at _ =
      let mine = r.each id m.0 at live in
      let k = mine.holds t held in
      let gone = r.out k.0 in
      let grown : IsPrefixOf r.entries (log x) = subst (λ l. IsPrefixOf l (log x)) k.2 more in
      let w = put_view (log x) m.0 in
      let wide = r.wide in
      let now : get_or (set s.words 0 0) 0 0 ≡ 0 = get_or-set_same s.words 0 0 0 (omega arith) in
      let role : IsSameRole m.0 w = record { live = refl; first = refl; out = refl; feeds = refl } in (
        w,
        gives,
        tt,
        record {
          head = r.head;
          guests = r.guests;
          entries = log x;
          holder = 0;
          first_at = r.first_at;
          feeder_at = r.feeder_at;
          wide = length-set s.words 0 0 ∙ wide;
          word = inl now;
          free = λ _. record { value = x; there = ap₂ put_back gone.0 bare; same_header = same_header ∙ mine.header; same_opening = same_opening ∙ mine.opening; same_log = refl };
          out = λ e. absurd (omega arith);
          each = subst (λ (k : ℕ). (j : ℕ) (u : View O) → get_elem? (set s.views id w) j ≡ core.some u → u.live ≡ true → Fits r.head r.guests (log x) k 0 r.first_at r.feeder_at j u) (sym now)
              (each_set (Fits r.head r.guests (log x) 0 0 r.first_at r.feeder_at) s.views id w
              (λ _. record {
                header = mine.header;
                opening = mine.opening;
                seen = prefix_self (log x);
                ended = prefix_trans m.0.ended r.entries (log x) mine.ended grown;
                holds = λ t e. absurd (none-some t e);
                feeds = λ e. ((mine.feeds e).0, ap (λ b. fed (cond b m.0.ended (log x))) (sym settled));
                first = mine.first;
              })
              (λ j u other there on. let f = r.each j u there on in
              fits_free r.head r.guests r.entries (log x) (get_or s.words 0 0) r.holder 0 0 r.first_at r.feeder_at j u grown
              (λ t e. other ((f.holds t e).1 ∙ sym k.1))
              (λ e. by_test m.0.feeds (λ yes. absurd (other ((f.feeds e).0 ∙ sym (mine.feeds yes).0))) (λ no. same_fed no ∙ ap fed k.2)) f));
          has_first = first_stays s.views r.first_at id m.0 w at role r.has_first;
          has_feeder = feeder_stays s.views r.feeder_at id m.0 w at role r.has_feeder;
        },
        λ y e i. (put_view (log (ap (slot_value x) (sym bare ∙ e) i)) m.0, ap rest bare i),
      )
