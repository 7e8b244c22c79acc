-- The rows that a run writes.
use Rattle.std.proofs.Common.{◌≡◌, ℕ, zero, suc, ◌+◌, ◌-◌, Bool, true, false, List, [], ◌∷◌, ◌++◌, length, length-append, take, drop, Some, append-nil, append_assoc, refl, sym, ap, ◌∙◌, arith}
use Rattle.std.specs.Prelude.{slice_get, nat_lt}
use Rattle.std.proofs.lemmas.Grind.{flat_map-append}
use Rattle.std.proofs.lemmas.Bool.{lt-ltb}
use Rattle.std.proofs.lemmas.Bool.Decides.{nat_tests}
use Rattle.circular_buffer.specs.Buffer.{keep_last}
use Rattle.dn_model.specs.declared.event.Event.{Event}
use Rattle.dn_model.specs.declared.router.RouterDef.{RouterDef}
use Rattle.dn_model.specs.declared.feed.External.{External}
use Rattle.dn_model.specs.Network.{Network}
use Rattle.dn_model.specs.Settled.{rows}
use Rattle.dn_lockstep.specs.Running.{Running, StandsIn, row_before}
use Rattle.dn_trace.specs.Rows.{row_line, row_lines}
use Rattle.dn_command.specs.declared.breaks.Break.{Break}
use Rattle.dn_debug.specs.declared.extent.Extent.{Extent}
use Rattle.dn_debug.specs.declared.reason.Reason.{Reason}
use Rattle.dn_debug.specs.Watching.{Watched}
use Rattle.dn_debug.specs.Lines.{stop_line}
use Rattle.dn_debug.specs.Courses.{course, handled, written}
use Rattle.dn_debug.specs.Steps.{each_of, last_if, HasGone, HasRun}
use Rattle.dn_debug.proofs.Ahead.{get_dropped, taken_more, some_at}

behind : (es : List Event) (row : Event) → drop (length es) (es ++ row ∷ []) ≡ row ∷ []
behind [] row = refl
behind (e ∷ es) row = behind es row

kept_one : (es : List Event) (row : Event) → keep_last 1 (es ++ row ∷ []) ≡ row ∷ []
kept_one es row =
    let n : length (es ++ row ∷ []) - 1 ≡ length es = omega (arith, length-append es (row ∷ [])) in
    ap (λ k. drop k (es ++ row ∷ [])) n ∙ behind es row

module _ {S : Type 0} (net : Network S) (feed : List External) where
  last_of : (start count : ℕ) (engine : Running S) → StandsIn net feed engine → engine.place ≡ start + count → last_if false (nat_lt start engine.place) engine.last ≡ keep_last 1 (handled net feed start count)
  unfolding handled
  last_of start zero engine so at =
      let no : nat_lt start engine.place ≡ false = grind (arith, nat_tests) in
      ap (λ (b : Bool). last_if false b engine.last) no
  last_of start (suc n) engine so at =
      let yes : nat_lt start engine.place ≡ true = lt-ltb start engine.place (omega (arith, at)) in
      let found = some_at (rows net feed) (start + n) (omega (arith, so.within, at)) in
      let row = found.0 in
      let e : engine.place ≡ suc (start + n) = omega (arith, at) in
      let last : engine.last ≡ Some row = so.last ∙ (ap (row_before net feed) e ∙ found.1) in
      let here : slice_get (drop start (rows net feed)) n ≡ Some row = get_dropped start (rows net feed) n ∙ found.1 in
      let m : suc n ≡ n + 1 = omega arith in
      let more : take (suc n) (drop start (rows net feed)) ≡ take n (drop start (rows net feed)) ++ row ∷ [] = ap (λ k. take k (drop start (rows net feed))) m ∙ taken_more (drop start (rows net feed)) n row here in
      ap (λ (b : Bool). last_if false b engine.last) yes ∙ (ap (last_if false true) last ∙ (sym (kept_one (take n (drop start (rows net feed))) row) ∙ ap (keep_last 1) (sym more)))

  all_written : (each : Bool) (start count : ℕ) (engine : Running S) → StandsIn net feed engine → engine.place ≡ start + count → each_of each (handled net feed start count) ++ last_if each (nat_lt start engine.place) engine.last ≡ written each (handled net feed start count)
  all_written true start count engine so at = append-nil (handled net feed start count)
  all_written false start count engine so at = last_of start count engine so at

  pub has_run : (breaks : List Break) (x : Extent) (start : ℕ) (old : Watched) (engine : Running S) (new : Watched) (latest : List Event) (why : Reason) (defs : List RouterDef) (before one two three : List ℕ) → net.header.routers ≡ defs → HasGone net feed breaks x start old engine new latest why defs before one → two ≡ one ++ row_lines defs (last_if x.each (nat_lt start engine.place) engine.last) → three ≡ two ++ stop_line engine.place why → HasRun net feed breaks x start old engine new latest before three
  has_run breaks x start old engine new latest why defs before one two three same so last stop =
      let c = course net feed breaks start old.attached x in
      let es = each_of x.each (handled net feed start c.count) in
      let l = last_if x.each (nat_lt start engine.place) engine.last in
      let lines : row_lines defs es ++ row_lines defs l ≡ row_lines defs (written x.each (handled net feed start c.count)) =
      sym (flat_map-append (row_line defs) es l) ∙ ap (row_lines defs) (all_written x.each start c.count engine so.at.stands so.place) in
      let rows_text = row_lines defs (written x.each (handled net feed start c.count)) in
      let written_two : two ≡ before ++ rows_text = last ∙ (ap (λ t. t ++ row_lines defs l) so.text ∙ (append_assoc before (row_lines defs es) (row_lines defs l) ∙ ap (λ t. before ++ t) lines)) in
      let end : stop_line engine.place why ≡ stop_line (start + c.count) c.reason = ap (λ p. stop_line p why) so.place ∙ ap (stop_line (start + c.count)) so.reason in
      record {
        at = so.at;
        place = so.place;
        shown = so.shown;
        text = stop ∙ (ap (λ t. t ++ stop_line engine.place why) written_two ∙ (append_assoc before rows_text (stop_line engine.place why) ∙ (ap (λ t. before ++ (rows_text ++ t)) end
            ∙ ap (λ (ds : List RouterDef). before ++ (row_lines ds (written x.each (handled net feed start c.count)) ++ stop_line (start + c.count) c.reason)) (sym same))));
      }
