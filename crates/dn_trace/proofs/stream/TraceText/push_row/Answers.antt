use Rattle.std.proofs.Common.{◌≡◌, ℕ, ◌≤◌, List, ◌++◌, sym, ap, ◌∙◌, append-nil, arith}
use Rattle.dn_model.specs.declared.router.RouterDef.{RouterDef}
use Rattle.dn_model.specs.Settled.{rows, row_limit}
use Rattle.dn_lockstep.specs.declared.engine.Next.TheVariants.{Cut}
use Rattle.dn_lockstep.specs.Answers.{answer_after}
use Rattle.dn_trace.specs.Trace.{last_lines}
use Rattle.dn_trace.specs.Streaming.{rows_to_come, line_of_last, to_come}
use Rattle.dn_trace.proofs.Streams.{row_text, whole_text, cut_answer, cut_text}
use Rattle.dn_trace.proofs.stream.TraceText.push_row.Goals as goal

pub returns-in_ok-push_last-in-Row-clause-text : goal.returns-in_ok-push_last-in-Row-clause-text
unfolding to_come
returns-in_ok-push_last-in-Row-clause-text g c =
    λ net feed guests header stands.
    let old = c.args.self.now.engine in
    let new = c.next.new.self in
    let moved = rw c.in-Row.is at c.in_ok-next.ensures.moved net feed guests stands in
    let onward = c.in_ok-next.ensures.onward c.in-Row.is in
    let routers_are : net.header.routers ≡ c.args.routers.now = ap (λ h. h.routers) header ∙ c.requires.same in
    let out = c.args.out.now in
    let written : c.push_last.new.out ≡ out ++ line_of_last net.header.routers new.last =
    c.in_ok-push_last-in-Row.ensures ∙ ap (λ (defs : List RouterDef). out ++ line_of_last defs new.last) (sym routers_are) in
    rw c.requires.rows
    (ap (λ (l : List ℕ). l ++ rows_to_come net feed new.place) written ∙ row_text net feed new old.place out moved.0 moved.1 onward.0)

pub returns-in_ok-push_last_lines-in-End-clause-text : goal.returns-in_ok-push_last_lines-in-End-clause-text
unfolding to_come
returns-in_ok-push_last_lines-in-End-clause-text g c =
    λ net feed guests header stands.
    let old = c.args.self.now.engine in
    let new = c.next.new.self in
    let moved = rw c.in-End.is at c.in_ok-next.ensures.moved net feed guests stands in
    let within : new.place ≤ row_limit = omega (arith, c.place-rows.ensures.place, c.place-rows.ensures.within) in
    let whole = whole_text net feed new moved.1 within in
    let out = c.args.out.now in
    let written : c.push_last_lines.new.out ≡ out ++ last_lines net feed =
    c.in_ok-push_last_lines-in-End.ensures net feed guests (header ∙ sym c.next.ensures.header) moved.1 in
    append-nil c.push_last_lines.new.out ∙ written ∙ ap (λ (l : List ℕ). out ++ l) (sym whole.1) ∙ ap (λ e. out ++ rows_to_come net feed e.place) moved.0

pub returns-in_ok-push_last_lines-in-End-clause-ending : goal.returns-in_ok-push_last_lines-in-End-clause-ending
returns-in_ok-push_last_lines-in-End-clause-ending g c =
    λ net feed guests stands.
    let new = c.next.new.self in
    let moved = rw c.in-End.is at c.in_ok-next.ensures.moved net feed guests stands in
    let within : new.place ≤ row_limit = omega (arith, c.place-rows.ensures.place, c.place-rows.ensures.within) in
    let whole = whole_text net feed new moved.1 within in
    whole.0

pub returns-in_ok-push_cut_line-in-Cut-clause-text : goal.returns-in_ok-push_cut_line-in-Cut-clause-text
unfolding to_come
returns-in_ok-push_cut_line-in-Cut-clause-text g c =
    λ net feed guests header stands.
    let old = c.args.self.now.engine in
    let answer : Cut ≡ answer_after old.place (rows net feed) = rw c.in-Cut.is at c.in_ok-next.ensures.answer net feed guests stands in
    let at = cut_answer old.place (rows net feed) answer in
    let cut = cut_text net feed old stands at.0 at.1 in
    let out = c.args.out.now in
    append-nil c.push_cut_line.new.out ∙ c.in_ok-push_cut_line-in-Cut.ensures.ok ∙ ap (λ (l : List ℕ). out ++ l) (sym cut.1)

pub returns-in_ok-push_cut_line-in-Cut-clause-ending : goal.returns-in_ok-push_cut_line-in-Cut-clause-ending
returns-in_ok-push_cut_line-in-Cut-clause-ending g c =
    λ net feed guests stands.
    let old = c.args.self.now.engine in
    let answer : Cut ≡ answer_after old.place (rows net feed) = rw c.in-Cut.is at c.in_ok-next.ensures.answer net feed guests stands in
    let at = cut_answer old.place (rows net feed) answer in
    let cut = cut_text net feed old stands at.0 at.1 in
    cut.0
