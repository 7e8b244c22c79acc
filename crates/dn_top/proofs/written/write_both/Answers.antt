use Rattle.std.proofs.Common.{rules, subst}
use Rattle.dn_io.specs.Streams.{PutsFront}
use Rattle.dn_case.specs.Spelling.{case_text}
use Rattle.dn_top.specs.Promises.{trace_of}
use Rattle.dn_top.proofs.Networks.{both_written, written_is}
use Rattle.dn_top.proofs.written.write_both.Goals as goal

pub returns-in_err-write_recording-clause-front : goal.returns-in_err-write_recording-clause-front
returns-in_err-write_recording-clause-front g c =
    let case = c.args.case.now in
    subst (PutsFront (g.K.Sink.holds c.args.sink.now) (g.K.Sink.holds c.write_recording.new.sink)) (written_is case)
    (c.fronts.ensures.longer _ _ (case_text case) (trace_of case) c.write_recording.ensures.front)

pub returns-in-Lockstep-clause-front : goal.returns-in-Lockstep-clause-front
returns-in-Lockstep-clause-front g c =
    let case = c.args.case.now in
    subst (PutsFront (g.K.Sink.holds c.args.sink.now) (g.K.Sink.holds c.write_lockstep_trace.new.sink)) (written_is case)
    (c.fronts.ensures.both _ _ _ (case_text case) (trace_of case) c.in_ok-write_recording.ensures.all c.write_lockstep_trace.ensures.front)

pub returns-in-Lockstep-clause-whole : goal.returns-in-Lockstep-clause-whole
returns-in-Lockstep-clause-whole g c =
    let both = both_written c.one_behind_the_other.ensures c.args.case.now (g.K.Sink.holds c.args.sink.now) (g.K.Sink.holds c.write_recording.new.sink) (g.K.Sink.holds c.write_lockstep_trace.new.sink) c.in_ok-write_recording.ensures.all in
    search (rules, both)

pub returns-in-Driven-clause-front : goal.returns-in-Driven-clause-front
returns-in-Driven-clause-front g c =
    let case = c.args.case.now in
    subst (PutsFront (g.K.Sink.holds c.args.sink.now) (g.K.Sink.holds c.write_driven_trace.new.sink)) (written_is case)
    (c.fronts.ensures.both _ _ _ (case_text case) (trace_of case) c.in_ok-write_recording.ensures.all c.write_driven_trace.ensures.front)

pub returns-in-Driven-clause-whole : goal.returns-in-Driven-clause-whole
returns-in-Driven-clause-whole g c =
    let both = both_written c.one_behind_the_other.ensures c.args.case.now (g.K.Sink.holds c.args.sink.now) (g.K.Sink.holds c.write_recording.new.sink) (g.K.Sink.holds c.write_driven_trace.new.sink) c.in_ok-write_recording.ensures.all in
    search (rules, both)
