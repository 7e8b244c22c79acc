use Rattle.std.proofs.Common.{◌≡◌, ◌+◌, ◌<◌, ℕ, List, ◌++◌, length, sym, ap, ◌∙◌, subst, arith}
use Rattle.std.proofs.lemmas.List.{length-drop}
use Rattle.dn_trace.specs.Trace.{trace_text}
use Rattle.dn_trace.specs.Differing.{DiffersAt}
use Rattle.dn_trace.specs.Streaming.{to_come}
use Rattle.dn_trace.specs.declared.compare.Checked.TheVariants as checked
use Rattle.dn_trace.proofs.Whole.{opens_rightly, opening_text, equal_means, cut_means, longer_means, differs_here, same_here}
use Rattle.dn_trace.proofs.compare.check.Goals as goal

pub pieces-init : goal.pieces-init
pieces-init g c = record {
  header = c.in_ok-trace.ensures.header;
  stands = c.in_ok-trace.ensures.stands;
  rightly = λ net is. opens_rightly net c.args.case.now.feed c.in_ok-trace.trace.stage c.in_ok-trace.ensures.opening;
  same = λ net is. opening_text net c.args.case.now.feed c.in_ok-trace.trace.stage c.in_ok-trace.trace.engine.place c.in_ok-trace.ensures.opening c.in_ok-trace.ensures.place;
  within = omega arith;
}

pub returns-in-Some-clause-equal : goal.returns-in-Some-clause-equal
returns-in-Some-clause-equal g c = λ net is same.
    let found : c.end_of.result ≡ checked.Equal = cc in
    equal_means net c.args.case.now.feed c.args.section.now c.pieces.at c.pieces.trace.engine.place c.pieces.trace.stage c.in-Some.ending c.pieces.invariant.within (c.pieces.invariant.same net is) (c.pieces.invariant.rightly net is) c.in-Some.ensures (sym c.end_of.ensures ∙ found)

pub returns-in-Some-clause-cut : goal.returns-in-Some-clause-cut
returns-in-Some-clause-cut g c = λ net is same.
    let found : c.end_of.result ≡ checked.Cut = cc in
    cut_means net c.args.case.now.feed c.args.section.now c.pieces.at c.pieces.trace.engine.place c.pieces.trace.stage c.in-Some.ending c.pieces.invariant.within (c.pieces.invariant.same net is) (c.pieces.invariant.rightly net is) c.in-Some.ensures (sym c.end_of.ensures ∙ found)

pub returns-in-Some-clause-differs : goal.returns-in-Some-clause-differs
returns-in-Some-clause-differs g c = λ net is place same.
    let found : c.end_of.result ≡ checked.Differs place = cc in
    longer_means net c.args.case.now.feed c.args.section.now c.pieces.at c.pieces.trace.engine.place c.pieces.trace.stage c.in-Some.ending c.pieces.invariant.within (c.pieces.invariant.same net is) c.in-Some.ensures place (sym c.end_of.ensures ∙ found)

pub returns-then-same-len-clause-differs : goal.returns-then-same-len-clause-differs
returns-then-same-len-clause-differs g c = λ net is place answer.
    let feed = c.args.case.now.feed in
    let section = c.args.section.now in
    let piece = c.push_next.new.out in
    let at = c.pieces.at in
    let n = c.same_front-same.result in
    let was = c.pieces.trace in
    let now = c.push_next.new.self in
    let here : at + n ≡ place = cc in
    let text = c.in_ok-push_next.ensures.text net feed is.of_guest (is.of_header ∙ sym c.pieces.invariant.header) (c.pieces.invariant.stands net is) in
    let more : piece ++ to_come net feed now.stage now.engine.place ≡ to_come net feed was.stage was.engine.place =
    text ∙ ap (λ (l : List ℕ). l ++ to_come net feed was.stage was.engine.place) c.clear.ensures in
    let within = rw (c.behind-rest.ensures, c.as_slice.ensures) at c.same_front-same.ensures.within in
    let equal = rw (c.behind-rest.ensures, c.as_slice.ensures) at c.same_front-same.ensures.same in
    let apart = rw (c.behind-rest.ensures, c.as_slice.ensures) at c.same_front-same.ensures.apart in
    let inside : n < length piece = omega (arith, c.if-same-len.true, c.len.ensures) in
    let fact = differs_here net feed section piece at n was.engine.place now.engine.place was.stage now.stage c.pieces.invariant.within (c.pieces.invariant.same net is) more within.0 inside equal (apart inside) in
    subst (DiffersAt section (trace_text net feed)) here fact

pub pieces-preserved : goal.pieces-preserved
pieces-preserved g c =
    let feed = c.args.case.now.feed in
    let section = c.args.section.now in
    let piece = c.push_next.new.out in
    let at = c.pieces.at in
    let n = c.same_front-same.result in
    let was = c.pieces.trace in
    let now = c.push_next.new.self in
    let within = rw (c.behind-rest.ensures, c.as_slice.ensures) at c.same_front-same.ensures.within in
    let equal = rw (c.behind-rest.ensures, c.as_slice.ensures) at c.same_front-same.ensures.same in
    let whole : n ≡ length piece = omega (arith, c.if-same-len.false, c.len.ensures, within.1) in
    record {
      header = c.push_next.ensures.header ∙ c.pieces.invariant.header;
      stands = λ net is. c.in_ok-push_next.ensures.stands net feed is.of_guest (c.pieces.invariant.stands net is);
      rightly = λ net is. c.in_ok-push_next.ensures.ending net feed is.of_guest (c.pieces.invariant.stands net is) (c.pieces.invariant.rightly net is);
      same = λ net is.
          same_here net feed section piece at n was.engine.place now.engine.place was.stage now.stage (c.pieces.invariant.same net is)
          (c.in_ok-push_next.ensures.text net feed is.of_guest (is.of_header ∙ sym c.pieces.invariant.header) (c.pieces.invariant.stands net is) ∙ ap (λ (l : List ℕ). l ++ to_come net feed was.stage was.engine.place) c.clear.ensures)
          whole equal;
      within = omega (arith, length-drop at section, within.0, c.pieces.invariant.within);
    }
