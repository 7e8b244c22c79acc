-- The pieces of a trace, one after another.
use Rattle.std.proofs.Common.{◌≡◌, ◌≢◌, ℕ, zero, suc, ◌+◌, ◌<◌, ◌≤◌, true, false, List, [], ◌∷◌, ◌++◌, length, take, drop, Some, refl, sym, ap, ◌∙◌, append_assoc, arith}
use Rattle.std.specs.Prelude.{slice_get, nat_lt}
use Rattle.dn_guest.specs.declared.node.Node.{Node}
use Rattle.dn_guest.specs.Meaning.{Meaning}
use Rattle.dn_model.specs.declared.router.RouterDef.{RouterDef}
use Rattle.dn_model.specs.declared.event.Event.{Event}
use Rattle.dn_model.specs.declared.feed.External.{External}
use Rattle.dn_model.specs.Network.{Network, routers, state}
use Rattle.dn_model.specs.Settled.{rows, shown_rows, row_limit, is_cut, lockstep}
use Rattle.std.specs.Prelude.{◌==◌}
use Rattle.std.proofs.lemmas.Bool.{eqb-true, eqb-false}
use Rattle.dn_lists.proofs.Lists.{by_test}
use Rattle.dn_lockstep.specs.declared.engine.Next.TheVariants.{Row, End, Cut}
use Rattle.dn_lockstep.specs.Answers.{answer_after}
use Rattle.dn_lockstep.specs.Running.{Running, StandsIn, IsAtEnd, row_before}
use Rattle.dn_trace.specs.Rows.{row_line, row_lines, state_line}
use Rattle.dn_trace.specs.Trace.{state_lines, end_line, cut_line, last_lines, end_text}
use Rattle.dn_trace.specs.Streaming.{line_of_last, state_line_of, node_lines, rows_to_come}
use Rattle.dn_trace.proofs.ToCome.{next_line, no_line_at_end, no_line_at_limit, whole_is_not_cut, more_is_cut}

-- ---- states

pub node_lines_more : {S : Type 0} (m : Meaning S) (R : List RouterDef) (nodes : List (Node S)) (n : ℕ) (node : Node S) → slice_get nodes n ≡ Some node → node_lines m R nodes (n + 1) ≡ node_lines m R nodes n ++ state_line m R n node
unfolding node_lines
node_lines_more m R nodes n node is =
    let e : n + 1 ≡ suc n = omega arith in
    rw e (ap (λ o. node_lines m R nodes n ++ state_line_of m R n o) is)

nodes_are_states : {S : Type 0} (m : Meaning S) (R : List RouterDef) (nodes : List (Node S)) (f : ℕ → Node S) (n : ℕ) → ((r : ℕ) → r < n → slice_get nodes r ≡ Some (f r)) → node_lines m R nodes n ≡ state_lines m R f n
unfolding node_lines state_lines
nodes_are_states m R nodes f zero are = refl
nodes_are_states m R nodes f (suc n) are =
    ap (λ o. node_lines m R nodes n ++ state_line_of m R n o) (are n (omega arith))
    ∙ ap (λ l. l ++ state_line m R n (f n)) (nodes_are_states m R nodes f n (λ r l. are r (omega arith)))

-- ---- answers of the engine

-- Cut comes at the row limit, where more rows are there
pub cut_answer : (place : ℕ) (rs : List Event) → Cut ≡ answer_after place rs → (place ≢ length rs) × (place ≡ row_limit)
cut_answer place rs is =
    by_test (place == length rs)
    (λ h. let no : Cut ≡ End = simp h at is in cc)
    (λ h. by_test (place == row_limit)
    (λ k. (eqb-false place (length rs) h, eqb-true place row_limit k))
    (λ k. let no : Cut ≡ Row = simp (h, k) at is in cc))

module _ {S : Type 0} (net : Network S) (feed : List External) where
  pub last_lines_are : (e : Running S) → IsAtEnd net feed e → node_lines net.guests net.header.routers e.nodes (length net.header.routers) ++ end_line e.place ≡ last_lines net feed
  unfolding last_lines routers
  last_lines_are e end =
      let f : ℕ → Node S = λ r. state net r (lockstep net feed r) in
      ap (λ l. l ++ end_line e.place) (nodes_are_states net.guests net.header.routers e.nodes f (length net.header.routers) end.nodes)
      ∙ ap (λ n. state_lines net.guests net.header.routers f (length net.header.routers) ++ end_line n) end.place

  -- ---- rows

  some_at : (xs : List Event) (n : ℕ) → n < length xs → (x : Event) × (slice_get xs n ≡ Some x)
  some_at [] n l = absurd (omega arith)
  some_at (x ∷ xs) zero l = (x, refl)
  some_at (x ∷ xs) (suc n) l = some_at xs n (omega arith)

  -- one row, and the others
  pub row_text : (e : Running S) (place : ℕ) (out : List ℕ) → StandsIn net feed e → e.place ≡ place + 1 → place < row_limit → (out ++ line_of_last net.header.routers e.last) ++ rows_to_come net feed e.place ≡ out ++ rows_to_come net feed place
  unfolding shown_rows
  row_text e place out stands next below =
      let R = net.header.routers in
      let inside : place < length (rows net feed) = omega (arith, stands.within, next) in
      let found = some_at (rows net feed) place inside in
      let row : Event = found.0 in
      let one : e.place ≡ suc place = omega (arith, next) in
      let last : e.last ≡ Some row = stands.last ∙ ap (row_before net feed) one ∙ found.1 in
      let line : row_lines R (drop place (take row_limit (rows net feed))) ≡ row_line R row ++ row_lines R (drop (place + 1) (take row_limit (rows net feed))) = next_line R (rows net feed) place row_limit row below found.1 in
      let more = row_lines R (drop (place + 1) (take row_limit (rows net feed))) ++ end_text net feed in
      ap (λ o. (out ++ line_of_last R o) ++ rows_to_come net feed e.place) last
      ∙ ap (λ n. (out ++ row_line R row) ++ rows_to_come net feed n) next
      ∙ append_assoc out (row_line R row) more
      ∙ ap (λ l. out ++ l) (sym (append_assoc (row_line R row) (row_lines R (drop (place + 1) (take row_limit (rows net feed)))) (end_text net feed)))
      ∙ ap (λ l. out ++ (l ++ end_text net feed)) (sym line)

  -- after all rows
  pub whole_text : (e : Running S) → IsAtEnd net feed e → e.place ≤ row_limit → (is_cut net feed ≡ false) × (rows_to_come net feed e.place ≡ last_lines net feed)
  unfolding shown_rows is_cut end_text
  whole_text e end within =
      let not_cut : nat_lt row_limit (length (rows net feed)) ≡ false = whole_is_not_cut (rows net feed) e.place row_limit end.place within in
      let none : row_lines net.header.routers (drop e.place (take row_limit (rows net feed))) ≡ [] = no_line_at_end net.header.routers (rows net feed) e.place row_limit end.place in
      (not_cut, simp (none, not_cut))

  -- at the row limit
  pub cut_text : (e : Running S) → StandsIn net feed e → e.place ≢ length (rows net feed) → e.place ≡ row_limit → (is_cut net feed ≡ true) × (rows_to_come net feed e.place ≡ cut_line)
  unfolding shown_rows is_cut end_text
  cut_text e stands apart at =
      let cut : nat_lt row_limit (length (rows net feed)) ≡ true = more_is_cut (rows net feed) e.place row_limit stands.within apart at in
      let none : row_lines net.header.routers (drop e.place (take row_limit (rows net feed))) ≡ [] = no_line_at_limit net.header.routers (rows net feed) e.place row_limit at in
      (cut, simp (none, cut))
