-- A run on its way.
use Rattle.std.proofs.Common.{◌≡◌, ◌≢◌, ℕ, suc, inl, inr, append-nil, append_assoc, ◌+◌, ◌-◌, ◌<◌, Bool, true, false, not, List, [], ◌∷◌, ◌++◌, length, take, drop, Option, Some, None, refl, sym, ap, ◌∙◌, arith}
use Rattle.std.specs.Prelude.{slice_get, ◌==◌, if◌then◌else◌}
use Rattle.std.specs.List.{take_while}
use Rattle.std.proofs.lemmas.Grind.{flat_map-append}
use Rattle.std.proofs.lemmas.Bool.{eq-eqb}
use Rattle.std.proofs.lemmas.Bool.Decides.{eqb_tells}
use Rattle.circular_buffer.specs.Buffer.{keep_last}
use Rattle.dn_model.specs.declared.event.Event.{Event}
use Rattle.dn_model.specs.declared.router.RouterDef.{RouterDef}
use Rattle.dn_model.specs.declared.feed.External.{External}
use Rattle.dn_model.specs.Network.{Network, routers}
use Rattle.dn_model.specs.Settled.{row_limit, rows, shown_rows}
use Rattle.dn_lockstep.specs.Running.{Running, StandsIn, first_rows, row_before}
use Rattle.dn_lockstep.specs.declared.engine.Next.TheVariants.{Row, End, Cut}
use Rattle.dn_lockstep.specs.Answers.{answer_after}
use Rattle.dn_trace.specs.Rows.{row_line, row_lines}
use Rattle.dn_probe.specs.Meaning.{Watch}
use Rattle.dn_command.specs.declared.breaks.Break.{Break}
use Rattle.dn_debug.specs.declared.extent.Extent.{Extent}
use Rattle.dn_debug.specs.declared.reason.Reason.{Reason}
use Rattle.dn_debug.specs.declared.reason.Reason.TheVariants as reason
use Rattle.dn_debug.specs.Watching.{Watched, all_told}
use Rattle.dn_debug.specs.Courses.{Seen, Going, Course, stop_at, after_more, going_by, going, is_from, show_after, seen_from, ahead, own_end, course_of, course, handled}
use Rattle.dn_debug.specs.Situations.{IsAt}
use Rattle.dn_debug.specs.Steps.{each_of, IsTaken, HasGone}
use Rattle.dn_debug.proofs.Ahead.{none_at_end, none_at_limit, first_fails, first_passes, get_dropped, taken_more, take_none, of_all, some_at, kept_more}

-- the same where so many rows were handled
abbrev pub less : Extent → ℕ → Extent
less x k = record { most = x.most - k; group = x.group; each = x.each }

module _ {S : Type 0} (net : Network S) (feed : List External) (breaks : List Break) (x : Extent) (start : ℕ) (old : List Watch) where
  -- what the rest of the run does, where so many rows were handled
  abbrev pub rest_of : ℕ → ℕ → List Watch → Going
  rest_of k place probes = going breaks probes (seen_from net feed place (ahead net feed place (less x k)))

  abbrev pub whole : Going
  whole = going breaks old (seen_from net feed start (ahead net feed start x))

  zero_more : (g : Going) → g ≡ after_more 0 g
  zero_more g = let e : g.count ≡ 0 + g.count = omega arith in ap (λ n. record { count = n; attached = g.attached; stop = g.stop }) e

  more_more : (k : ℕ) (g : Going) → after_more k (after_more 1 g) ≡ after_more (k + 1) g
  more_more k g = let e : k + (1 + g.count) ≡ k + 1 + g.count = omega arith in ap (λ n. record { count = n; attached = g.attached; stop = g.stop }) e

  pub goes_first : whole ≡ after_more 0 (rest_of 0 start old)
  goes_first =
      let same : x.most ≡ x.most - 0 = omega arith in
      let X : ℕ → Extent = λ m. record { most = m; group = x.group; each = x.each } in
      ap (λ m. going breaks old (seen_from net feed start (ahead net feed start (X m)))) same ∙ zero_more (rest_of 0 start old)

  pub next_ahead : (k place : ℕ) (row : Event) → k < x.most → place < row_limit → slice_get (rows net feed) place ≡ Some row → is_from x.group (Some row) ≡ false → ahead net feed place (less x k) ≡ row ∷ ahead net feed (place + 1) (less x (k + 1))
  unfolding ahead shown_rows
  next_ahead k place row some below is before =
      let p : Event → Bool = λ r. not (is_from x.group (Some r)) in
      let e : x.most - k ≡ suc (x.most - (k + 1)) = omega arith in
      let q : suc place ≡ place + 1 = omega arith in
      ap (λ m. take m (take_while p (drop place (take row_limit (rows net feed))))) e
      ∙ (first_passes p (rows net feed) place row_limit (x.most - (k + 1)) row below is (ap not before)
      ∙ ap (λ n. row ∷ take (x.most - (k + 1)) (take_while p (drop n (take row_limit (rows net feed))))) q)

  -- the row at this place as it is seen
  abbrev pub seen_at : ℕ → Event → Seen
  seen_at place row = record { row = row; show = show_after net feed (place + 1) row.router }

  one_seen : (place : ℕ) (row : Event) (es : List Event) (probes : List Watch) → going breaks probes (seen_from net feed place (row ∷ es)) ≡ going_by (stop_at breaks probes (seen_at place row)) (all_told row (show_after net feed (place + 1) row.router) probes) (going breaks (all_told row (show_after net feed (place + 1) row.router) probes) (seen_from net feed (place + 1) es))
  unfolding going seen_from
  one_seen place row es probes = refl

  pub goes_on : (k place : ℕ) (probes : List Watch) (row : Event) → whole ≡ after_more k (rest_of k place probes) → k < x.most → place < row_limit → slice_get (rows net feed) place ≡ Some row → is_from x.group (Some row) ≡ false → None ≡ stop_at breaks probes (seen_at place row) → whole ≡ after_more (k + 1) (rest_of (k + 1) (place + 1) (all_told row (show_after net feed (place + 1) row.router) probes))
  goes_on k place probes row so some below is before none =
      let told = all_told row (show_after net feed (place + 1) row.router) probes in
      let further = rest_of (k + 1) (place + 1) told in
      let a : rest_of k place probes ≡ going breaks probes (seen_from net feed place (row ∷ ahead net feed (place + 1) (less x (k + 1)))) =
      ap (λ es. going breaks probes (seen_from net feed place es)) (next_ahead k place row some below is before) in
      let b : rest_of k place probes ≡ after_more 1 further = a ∙ (one_seen place row (ahead net feed (place + 1) (less x (k + 1))) probes ∙ ap (λ o. going_by o told further) (sym none)) in
      so ∙ (ap (after_more k) b ∙ more_more k further)

  none_seen : (place : ℕ) (probes : List Watch) → going breaks probes (seen_from net feed place []) ≡ record { count = 0; attached = probes; stop = None }
  unfolding going seen_from
  none_seen place probes = refl

  -- the run ends by itself where no row is ahead
  pub ends : (k place : ℕ) (probes : List Watch) → place ≡ start + k → whole ≡ after_more k (rest_of k place probes) → ahead net feed place (less x k) ≡ [] → course net feed breaks start old x ≡ record { count = k; attached = probes; reason = own_end net feed x place k }
  unfolding course
  ends k place probes at so none =
      let a : rest_of k place probes ≡ record { count = 0; attached = probes; stop = None } = ap (λ es. going breaks probes (seen_from net feed place es)) none ∙ none_seen place probes in
      let n : k + 0 ≡ k = omega arith in
      let W : ℕ → ℕ → Course = λ c q. record { count = c; attached = probes; reason = own_end net feed x q c } in
      ap (course_of net feed x start) (so ∙ ap (after_more k) a) ∙ (ap (λ c. W c (start + c)) n ∙ ap (W k) (sym at))

  -- the run stops at a row
  pub stops : (k place : ℕ) (probes : List Watch) (row : Event) (why : Reason) → whole ≡ after_more k (rest_of k place probes) → k < x.most → place < row_limit → slice_get (rows net feed) place ≡ Some row → is_from x.group (Some row) ≡ false → Some why ≡ stop_at breaks probes (seen_at place row) → course net feed breaks start old x ≡ record { count = k + 1; attached = all_told row (show_after net feed (place + 1) row.router) probes; reason = why }
  unfolding course
  stops k place probes row why so some below is before stop =
      let told = all_told row (show_after net feed (place + 1) row.router) probes in
      let further = rest_of (k + 1) (place + 1) told in
      let a : rest_of k place probes ≡ going breaks probes (seen_from net feed place (row ∷ ahead net feed (place + 1) (less x (k + 1)))) =
      ap (λ es. going breaks probes (seen_from net feed place es)) (next_ahead k place row some below is before) in
      let b : rest_of k place probes ≡ record { count = 1; attached = told; stop = Some why } = a ∙ (one_seen place row (ahead net feed (place + 1) (less x (k + 1))) probes ∙ ap (λ o. going_by o told further) (sym stop)) in
      ap (course_of net feed x start) (so ∙ ap (after_more k) b)

  -- ---- where no row is ahead

  in_group : (k place : ℕ) (o : Option Event) → slice_get (rows net feed) place ≡ o → is_from x.group o ≡ true → ahead net feed place (less x k) ≡ []
  unfolding ahead shown_rows
  in_group k place None is from = absurd (elim x.group as (λ (m : Option ℕ). is_from m None ≡ true → ⊥) [ None ↦ λ h. cc | Some n ↦ λ h. cc ] from)
  in_group k place (Some row) is from =
      let p : Event → Bool = λ r. not (is_from x.group (Some r)) in
      ap (take (x.most - k)) (first_fails p (rows net feed) place row_limit row is (ap not from)) ∙ take_none (x.most - k)

  pub none_in_group : (k place : ℕ) → is_from x.group (slice_get (rows net feed) place) ≡ true → ahead net feed place (less x k) ≡ []
  none_in_group k place from = in_group k place (slice_get (rows net feed) place) refl from

  none_so : (k place : ℕ) → drop place (take row_limit (rows net feed)) ≡ [] → ahead net feed place (less x k) ≡ []
  unfolding ahead shown_rows
  none_so k place none =
      let p : Event → Bool = λ r. not (is_from x.group (Some r)) in
      ap (λ es. take (x.most - k) (take_while p es)) none ∙ take_none (x.most - k)

  pub none_behind_all : (k place : ℕ) → place ≡ length (rows net feed) → ahead net feed place (less x k) ≡ []
  none_behind_all k place at = none_so k place (none_at_end (rows net feed) place row_limit at)

  pub none_behind_limit : (k place : ℕ) → place ≡ row_limit → ahead net feed place (less x k) ≡ []
  none_behind_limit k place at = none_so k place (none_at_limit (rows net feed) place row_limit at)

  pub none_after_most : (k place : ℕ) → k ≡ x.most → ahead net feed place (less x k) ≡ []
  unfolding ahead
  none_after_most k place at =
      let p : Event → Bool = λ r. not (is_from x.group (Some r)) in
      let e : x.most - k ≡ 0 = omega (arith, at) in
      ap (λ m. take m (take_while p (drop place (shown_rows net feed)))) e

each_none : (each : Bool) → each_of each [] ≡ []
each_none true = refl
each_none false = refl

each_more : (each : Bool) (es : List Event) (row : Event) → each_of each (es ++ row ∷ []) ≡ each_of each es ++ each_of each (row ∷ [])
each_more true es row = refl
each_more false es row = refl

apart_false : (a b : ℕ) → a ≢ b → (a == b) ≡ false
apart_false a b apart = elim (eqb_tells a b) [ inl same ↦ absurd (apart same.1) | inr other ↦ other.0 ]

-- what the engine's answers say
pub cut_means : (place : ℕ) (es : List Event) → Cut ≡ answer_after place es → (place ≢ length es) × (place ≡ row_limit)
cut_means place es is =
    elim (eqb_tells place (length es)) [
      | inl same ↦ let h : Cut ≡ End = is ∙ ap (λ (b : Bool). if b then End else (if place == row_limit then Cut else Row)) same.0 in absurd (cc)
      | inr other ↦
          let h : Cut ≡ (if place == row_limit then Cut else Row) = is ∙ ap (λ (b : Bool). if b then End else (if place == row_limit then Cut else Row)) other.0 in
          elim (eqb_tells place row_limit) [ inl at ↦ (other.1, at.1) | inr past ↦ let k : Cut ≡ Row = h ∙ ap (λ (b : Bool). if b then Cut else Row) past.0 in absurd (cc) ]
    ]

-- the row that was handled last
pub record LastRow {S : Type 0} (net : Network S) (feed : List External) (place : ℕ) (engine : Running S) : Type 0 where
  pub row : Event
  pub is : slice_get (rows net feed) place ≡ Some row
  pub last : engine.last ≡ Some row
  pub inside : row.router < length net.header.routers

pub last_row : {S : Type 0} (net : Network S) (feed : List External) (place : ℕ) (engine : Running S) → StandsIn net feed engine → engine.place ≡ place + 1 → LastRow net feed place engine
unfolding routers
last_row net feed place engine so at =
    let found = some_at (rows net feed) place (omega (arith, so.within, at)) in
    let e : engine.place ≡ suc place = omega (arith, at) in
    record {
      row = found.0;
      is = found.1;
      last = so.last ∙ (ap (row_before net feed) e ∙ found.1);
      inside = of_all (λ r. r.router < length net.header.routers) (rows net feed) engine.waiting engine.place found.0 so.so_far.inside place (omega (arith, at)) found.1;
    }

module _ {S : Type 0} (net : Network S) (feed : List External) (breaks : List Break) (x : Extent) (start : ℕ) (old : Watched) (defs : List RouterDef) (before : List ℕ) where
  -- so many rows were handled, and none of them stopped the run
  pub record IsGoing (k : ℕ) (engine : Running S) (new : Watched) (latest : List Event) (now : List ℕ) : Type 0 where
    pub at : IsAt net feed engine latest
    pub place : engine.place ≡ start + k
    pub there : new.there ≡ old.there
    pub same : whole net feed breaks x start old.attached ≡ after_more k (rest_of net feed breaks x start old.attached k engine.place new.attached)
    pub text : now ≡ before ++ row_lines defs (each_of x.each (handled net feed start k))

  pub going_first : (engine : Running S) (latest : List Event) → engine.place ≡ start → IsAt net feed engine latest → IsGoing 0 engine old latest before
  unfolding handled
  going_first engine latest at is = record {
    at = is;
    place = omega (arith, at);
    there = refl;
    same = goes_first net feed breaks x start old.attached ∙ ap (λ p. after_more 0 (rest_of net feed breaks x start old.attached 0 p old.attached)) (sym at);
    text = sym (append-nil before) ∙ ap (λ es. before ++ row_lines defs es) (sym (each_none x.each));
  }

  -- what handling a further row does
  pub record IsFurther (k : ℕ) (engine : Running S) (new : Watched) (latest : List Event) (now : List ℕ) (engine' : Running S) (new' : Watched) (latest' : List Event) (now' : List ℕ) (stop : Option Reason) : Type 0 where
    pub some : k < x.most
    pub not_yet : is_from x.group (slice_get (rows net feed) engine.place) ≡ false
    pub below : engine.place < row_limit
    pub moved : StandsIn net feed engine' × (engine'.place ≡ engine.place + 1)
    pub taken : (row : Event) → row.router < length net.header.routers → engine'.last ≡ Some row → IsTaken net feed breaks engine'.place row new latest stop new' latest'
    pub wrote : (row : Event) → engine'.last ≡ Some row → now' ≡ now ++ row_lines defs (each_of x.each (row ∷ []))

  -- the run's course is known
  gone : (engine : Running S) (new : Watched) (latest : List Event) (why : Reason) (now : List ℕ) (c : Course) → course net feed breaks start old.attached x ≡ c → IsAt net feed engine latest → engine.place ≡ start + c.count → new ≡ record { attached = c.attached; there = old.there } → why ≡ c.reason → now ≡ before ++ row_lines defs (each_of x.each (handled net feed start c.count)) → HasGone net feed breaks x start old engine new latest why defs before now
  gone engine new latest why now c is at place shown reason text = record {
    at = at;
    place = place ∙ ap (λ (d : Course). start + d.count) (sym is);
    shown = shown ∙ ap (λ (d : Course). record { attached = d.attached; there = old.there }) (sym is);
    reason = reason ∙ ap (λ (d : Course). d.reason) (sym is);
    text = text ∙ ap (λ (d : Course). before ++ row_lines defs (each_of x.each (handled net feed start d.count))) (sym is);
  }

  -- the run ends by itself
  pub gone_out : (k : ℕ) (engine : Running S) (new : Watched) (latest : List Event) (now : List ℕ) (why : Reason) → IsGoing k engine new latest now → ahead net feed engine.place (less x k) ≡ [] → why ≡ own_end net feed x engine.place k → HasGone net feed breaks x start old engine new latest why defs before now
  gone_out k engine new latest now why so none reason =
      gone engine new latest why now (record { count = k; attached = new.attached; reason = own_end net feed x engine.place k })
      (ends net feed breaks x start old.attached k engine.place new.attached so.place so.same none)
      so.at so.place (ap (λ (t : List Watch). record { attached = new.attached; there = t }) so.there) reason so.text

  further_text : (k : ℕ) (engine : Running S) (new : Watched) (latest : List Event) (now now' : List ℕ) (row : Event) → IsGoing k engine new latest now → slice_get (rows net feed) engine.place ≡ Some row → now' ≡ now ++ row_lines defs (each_of x.each (row ∷ [])) → now' ≡ before ++ row_lines defs (each_of x.each (handled net feed start (k + 1)))
  unfolding handled
  further_text k engine new latest now now' row so is wrote =
      let done = take k (drop start (rows net feed)) in
      let here : slice_get (drop start (rows net feed)) k ≡ Some row = get_dropped start (rows net feed) k ∙ (ap (slice_get (rows net feed)) (sym so.place) ∙ is) in
      let more : take (k + 1) (drop start (rows net feed)) ≡ done ++ row ∷ [] = taken_more (drop start (rows net feed)) k row here in
      let lines : row_lines defs (each_of x.each (take (k + 1) (drop start (rows net feed)))) ≡ row_lines defs (each_of x.each done) ++ row_lines defs (each_of x.each (row ∷ [])) =
      ap (λ es. row_lines defs (each_of x.each es)) more ∙ (ap (row_lines defs) (each_more x.each done row) ∙ flat_map-append (row_line defs) (each_of x.each done) (each_of x.each (row ∷ []))) in
      wrote ∙ (ap (λ t. t ++ row_lines defs (each_of x.each (row ∷ []))) so.text ∙ (append_assoc before (row_lines defs (each_of x.each done)) (row_lines defs (each_of x.each (row ∷ []))) ∙ ap (λ t. before ++ t) (sym lines)))

  further_at : (k : ℕ) (engine : Running S) (new : Watched) (latest : List Event) (now : List ℕ) (engine' : Running S) (latest' : List Event) (row : Event) → IsGoing k engine new latest now → StandsIn net feed engine' → engine'.place ≡ engine.place + 1 → slice_get (rows net feed) engine.place ≡ Some row → latest' ≡ keep_last 16 (latest ++ row ∷ []) → IsAt net feed engine' latest'
  further_at k engine new latest now engine' latest' row so stands place is noted = record {
    stands = stands;
    latest = noted ∙ (ap (λ es. keep_last 16 (es ++ row ∷ [])) so.at.latest ∙ (kept_more 16 (first_rows net feed engine.place) row (omega arith) ∙ (ap (keep_last 16) (sym (taken_more (rows net feed) engine.place row is)) ∙ ap (λ n. keep_last 16 (first_rows net feed n)) (sym place))));
  }

  -- a further row that doesn't stop the run
  pub going_on : (k : ℕ) (engine : Running S) (new : Watched) (latest : List Event) (now : List ℕ) (engine' : Running S) (new' : Watched) (latest' : List Event) (now' : List ℕ) → IsGoing k engine new latest now → IsFurther k engine new latest now engine' new' latest' now' None → IsGoing (k + 1) engine' new' latest' now'
  going_on k engine new latest now engine' new' latest' now' so far =
      let r = last_row net feed engine.place engine' far.moved.0 far.moved.1 in
      let t = far.taken r.row r.inside r.last in
      let place = far.moved.1 in
      let stays : None ≡ stop_at breaks new.attached (seen_at net feed breaks x start old.attached engine.place r.row) = t.stops ∙ ap (λ n. stop_at breaks new.attached (record { row = r.row; show = show_after net feed n r.row.router })) place in
      let told : new'.attached ≡ all_told r.row (show_after net feed (engine.place + 1) r.row.router) new.attached = ap (λ (w : Watched). w.attached) t.shown ∙ ap (λ n. all_told r.row (show_after net feed n r.row.router) new.attached) place in
      record {
        at = further_at k engine new latest now engine' latest' r.row so far.moved.0 place r.is t.noted;
        place = omega (arith, place, so.place);
        there = ap (λ (w : Watched). w.there) t.shown ∙ so.there;
        same = goes_on net feed breaks x start old.attached k engine.place new.attached r.row so.same far.some far.below r.is (sym (ap (is_from x.group) r.is) ∙ far.not_yet) stays
            ∙ (ap (λ ws. after_more (k + 1) (rest_of net feed breaks x start old.attached (k + 1) (engine.place + 1) ws)) (sym told)
            ∙ ap (λ n. after_more (k + 1) (rest_of net feed breaks x start old.attached (k + 1) n new'.attached)) (sym place));
        text = further_text k engine new latest now now' r.row so r.is (far.wrote r.row r.last);
      }

  -- a further row that stops the run
  pub gone_at_row : (k : ℕ) (engine : Running S) (new : Watched) (latest : List Event) (now : List ℕ) (engine' : Running S) (new' : Watched) (latest' : List Event) (now' : List ℕ) (why : Reason) → IsGoing k engine new latest now → IsFurther k engine new latest now engine' new' latest' now' (Some why) → HasGone net feed breaks x start old engine' new' latest' why defs before now'
  gone_at_row k engine new latest now engine' new' latest' now' why so far =
      let r = last_row net feed engine.place engine' far.moved.0 far.moved.1 in
      let t = far.taken r.row r.inside r.last in
      let place = far.moved.1 in
      let stop : Some why ≡ stop_at breaks new.attached (seen_at net feed breaks x start old.attached engine.place r.row) = t.stops ∙ ap (λ n. stop_at breaks new.attached (record { row = r.row; show = show_after net feed n r.row.router })) place in
      let told : new'.attached ≡ all_told r.row (show_after net feed (engine.place + 1) r.row.router) new.attached = ap (λ (w : Watched). w.attached) t.shown ∙ ap (λ n. all_told r.row (show_after net feed n r.row.router) new.attached) place in
      gone engine' new' latest' why now' (record { count = k + 1; attached = all_told r.row (show_after net feed (engine.place + 1) r.row.router) new.attached; reason = why })
      (stops net feed breaks x start old.attached k engine.place new.attached r.row why so.same far.some far.below r.is (sym (ap (is_from x.group) r.is) ∙ far.not_yet) stop)
      (further_at k engine new latest now engine' latest' r.row so far.moved.0 place r.is t.noted)
      (omega (arith, place, so.place))
      (ap (λ (a : List Watch). record { attached = a; there = new'.there }) told ∙ ap (λ (h : List Watch). record { attached = all_told r.row (show_after net feed (engine.place + 1) r.row.router) new.attached; there = h }) (ap (λ (w : Watched). w.there) t.shown ∙ so.there))
      refl
      (further_text k engine new latest now now' r.row so r.is (far.wrote r.row r.last))

  -- ---- why a run ends by itself

  pub own_group : (k place : ℕ) → is_from x.group (slice_get (rows net feed) place) ≡ true → reason.Group ≡ own_end net feed x place k
  unfolding own_end
  own_group k place from = ap (λ (b : Bool). if b then reason.Group else (if k == x.most then reason.Step else (if place == length (rows net feed) then reason.End else reason.Cut))) (sym from)

  pub own_other : (k place : ℕ) (o : Reason) → is_from x.group (slice_get (rows net feed) place) ≡ false → k < x.most → o ≡ (if place == length (rows net feed) then reason.End else reason.Cut) → o ≡ own_end net feed x place k
  unfolding own_end
  own_other k place o before some is =
      let no : (k == x.most) ≡ false = apart_false k x.most (λ e. omega (arith, e)) in
      is ∙ (ap (λ (b : Bool). if b then reason.Step else (if place == length (rows net feed) then reason.End else reason.Cut)) (sym no)
      ∙ ap (λ (b : Bool). if b then reason.Group else (if k == x.most then reason.Step else (if place == length (rows net feed) then reason.End else reason.Cut))) (sym before))

  pub own_last : (k place : ℕ) → is_from x.group (slice_get (rows net feed) place) ≡ false → k < x.most → place ≡ length (rows net feed) → reason.End ≡ own_end net feed x place k
  own_last k place before some at = own_other k place reason.End before some (ap (λ (b : Bool). if b then reason.End else reason.Cut) (sym (eq-eqb place (length (rows net feed)) at)))

  pub own_cut : (k place : ℕ) → is_from x.group (slice_get (rows net feed) place) ≡ false → k < x.most → place ≢ length (rows net feed) → reason.Cut ≡ own_end net feed x place k
  own_cut k place before some apart = own_other k place reason.Cut before some (ap (λ (b : Bool). if b then reason.End else reason.Cut) (sym (apart_false place (length (rows net feed)) apart)))

  pub own_step : (k place : ℕ) (o : Reason) → k ≡ x.most → o ≡ (if is_from x.group (slice_get (rows net feed) place) then reason.Group else reason.Step) → o ≡ own_end net feed x place k
  unfolding own_end
  own_step k place o all is =
      is ∙ ap (λ (b : Bool). if is_from x.group (slice_get (rows net feed) place) then reason.Group else (if b then reason.Step else (if place == length (rows net feed) then reason.End else reason.Cut))) (sym (eq-eqb k x.most all))
