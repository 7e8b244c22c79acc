use Rattle.std.proofs.Common.{List, ℕ, ◌++◌, ap, sym, ◌∙◌, subst}
use Rattle.dn_io.specs.Streams.{behind, PutsFront}
use Rattle.dn_trace.specs.Trace.{end_text}
use Rattle.dn_top.specs.Promises.{network_of, trace_of}
use Rattle.dn_top.proofs.Showing.{trace_shown}
use Rattle.dn_top.proofs.shown.write_driven_trace.Goals as goal

pub returns-in_default-clause-front : goal.returns-in_default-clause-front
returns-in_default-clause-front g c = c.fronts.ensures.nothing (g.K.Sink.holds c.args.sink.now) (trace_of c.args.case.now)

pub returns-in_err-write_shown-clause-front : goal.returns-in_err-write_shown-clause-front
returns-in_err-write_shown-clause-front g c =
    let case = c.args.case.now in
    let ends = c.push_ends.new.out in
    let are = c.in-Ok.ensures ∙ ap (λ (l : List ℕ). l ++ end_text (network_of case.header) case.feed) c.new-ends.ensures in
    let same = trace_shown case c.args.header.now c.args.fabric.now c.rows_from.result.now ends c.requires.same c.requires.shows c.rows_from.ensures.rows are in
    subst (PutsFront (g.K.Sink.holds c.args.sink.now) (g.K.Sink.holds c.write_shown.new.sink)) same c.write_shown.ensures.front

pub returns-clause-front : goal.returns-clause-front
returns-clause-front g c =
    let case = c.args.case.now in
    let ends = c.push_ends.new.out in
    let are = c.in-Ok.ensures ∙ ap (λ (l : List ℕ). l ++ end_text (network_of case.header) case.feed) c.new-ends.ensures in
    let same = trace_shown case c.args.header.now c.args.fabric.now c.rows_from.result.now ends c.requires.same c.requires.shows c.rows_from.ensures.rows are in
    subst (PutsFront (g.K.Sink.holds c.args.sink.now) (g.K.Sink.holds c.write_shown.new.sink)) same c.write_shown.ensures.front

pub returns-clause-whole : goal.returns-clause-whole
returns-clause-whole g c =
    let case = c.args.case.now in
    let ends = c.push_ends.new.out in
    let are = c.in-Ok.ensures ∙ ap (λ (l : List ℕ). l ++ end_text (network_of case.header) case.feed) c.new-ends.ensures in
    let same = trace_shown case c.args.header.now c.args.fabric.now c.rows_from.result.now ends c.requires.same c.requires.shows c.rows_from.ensures.rows are in
    c.in_ok-write_shown.ensures.all ∙ ap (behind (g.K.Sink.holds c.args.sink.now)) same

pub returns-clause-ending : goal.returns-clause-ending
returns-clause-ending g c = sym (c.ending_of.ensures ∙ c.requires.shows.cut)
