use Rattle.std.proofs.Common.{sym, ◌∙◌, arith}
use Rattle.dn_io.proofs.StreamLaws.{PutsOrKeeps-front}
use Rattle.dn_trace.proofs.Whole.{opens_rightly, none_written, front_of_gathered, handed_over, gathered, all_written, ended_rightly}
use Rattle.dn_trace.proofs.lockstep.write_trace.Goals as goal

pub pieces-init : goal.pieces-init
pieces-init g c = record {
  header = c.in-Ok.ensures.header;
  stands = c.in-Ok.ensures.stands;
  rightly = λ net is. opens_rightly net c.args.case.now.feed c.in-Ok.trace.stage c.in-Ok.ensures.opening;
  written = λ net is. none_written net c.args.case.now.feed (g.K.Sink.holds c.args.sink.now) c.new-text.result c.in-Ok.trace.stage c.in-Ok.trace.engine.place c.new-text.ensures c.in-Ok.ensures.opening c.in-Ok.ensures.place;
  later = omega arith;
}

pub returns-in_err-put_text-clause-front : goal.returns-in_err-put_text-clause-front
returns-in_err-put_text-clause-front g c = λ net is.
    front_of_gathered net c.args.case.now.feed (g.K.Sink.holds c.args.sink.now) (g.K.Sink.holds c.pieces.sink) (g.K.Sink.holds c.put_text.new.sink) c.pieces.text c.pieces.trace.stage c.pieces.trace.engine.place (c.pieces.invariant.written net is) c.put_text.ensures.front

pub returns-in-Some-clause-whole : goal.returns-in-Some-clause-whole
returns-in-Some-clause-whole g c = λ net is.
    all_written net c.args.case.now.feed (g.K.Sink.holds c.args.sink.now) (g.K.Sink.holds c.pieces.sink) (g.K.Sink.holds c.put_text.new.sink) c.pieces.text c.pieces.trace.stage c.in-Some.ending c.pieces.trace.engine.place (c.pieces.invariant.written net is) c.in-Some.ensures c.in_ok-put_text.ensures.all

pub returns-in-Some-clause-ending : goal.returns-in-Some-clause-ending
returns-in-Some-clause-ending g c = λ net is.
    ended_rightly net c.args.case.now.feed c.pieces.trace.stage c.in-Some.ending c.in-Some.ensures (c.pieces.invariant.rightly net is)

pub returns-in-Some-clause-front : goal.returns-in-Some-clause-front
returns-in-Some-clause-front g c = λ net is.
    front_of_gathered net c.args.case.now.feed (g.K.Sink.holds c.args.sink.now) (g.K.Sink.holds c.pieces.sink) (g.K.Sink.holds c.put_text.new.sink) c.pieces.text c.pieces.trace.stage c.pieces.trace.engine.place (c.pieces.invariant.written net is) c.put_text.ensures.front

pub returns-in_err-put_if_full-clause-front : goal.returns-in_err-put_if_full-clause-front
returns-in_err-put_if_full-clause-front g c = λ net is.
    front_of_gathered net c.args.case.now.feed (g.K.Sink.holds c.args.sink.now) (g.K.Sink.holds c.pieces.sink) (g.K.Sink.holds c.put_if_full.new.sink) c.pieces.text c.pieces.trace.stage c.pieces.trace.engine.place (c.pieces.invariant.written net is) c.in_err-put_if_full.ensures.front

pub returns-in_default-push_next-clause-front : goal.returns-in_default-push_next-clause-front
returns-in_default-push_next-clause-front g c = λ net is.
    PutsOrKeeps-front (handed_over net c.args.case.now.feed (g.K.Sink.holds c.args.sink.now) (g.K.Sink.holds c.pieces.sink) (g.K.Sink.holds c.put_if_full.new.sink) c.pieces.text c.put_if_full.new.text c.pieces.trace.stage c.pieces.trace.engine.place (c.pieces.invariant.written net is) c.in_ok-put_if_full.ensures.all)

pub pieces-preserved : goal.pieces-preserved
pieces-preserved g c =
    let feed = c.args.case.now.feed in
    let was = c.pieces.trace in
    let now = c.push_next.new.self in
    record {
      header = c.push_next.ensures.header ∙ c.pieces.invariant.header;
      stands = λ net is. c.in-Ok-push_next.ensures.stands net feed is.of_guest (c.pieces.invariant.stands net is);
      rightly = λ net is. c.in-Ok-push_next.ensures.ending net feed is.of_guest (c.pieces.invariant.stands net is) (c.pieces.invariant.rightly net is);
      written = λ net is.
          gathered net feed (g.K.Sink.holds c.args.sink.now) (g.K.Sink.holds c.put_if_full.new.sink) c.put_if_full.new.text c.push_next.new.out was.stage now.stage was.engine.place now.engine.place
          (handed_over net feed (g.K.Sink.holds c.args.sink.now) (g.K.Sink.holds c.pieces.sink) (g.K.Sink.holds c.put_if_full.new.sink) c.pieces.text c.put_if_full.new.text was.stage was.engine.place (c.pieces.invariant.written net is) c.in_ok-put_if_full.ensures.all)
          (c.in-Ok-push_next.ensures.text net feed is.of_guest (is.of_header ∙ sym c.pieces.invariant.header) (c.pieces.invariant.stands net is));
      later = omega (arith, c.pieces.invariant.later, c.put_if_full.ensures.later);
    }
