use Rattle.std.proofs.Common.{◌≡◌, ◌≤◌, ◌++◌}
use Rattle.dn_io.specs.Streams.{PutsOrKeeps}
use Rattle.dn_model.specs.Network.{Network}
use Rattle.dn_lockstep.specs.Running.{StandsIn}
use Rattle.dn_trace.specs.Trace.{trace_text}
use Rattle.dn_trace.specs.Streaming.{IsRunOf, EndsRightly, to_come, steps_left}
use Rattle.dn_trace.proofs.lockstep.write_trace.Given as goal

abbrev pub invariant-pieces : goal.invariant-pieces
invariant-pieces g l = record {
  header : l.trace.engine.header ≡ l.case.header;
  stands : (net : Network _) → IsRunOf net g.G.Guest.meaning l.case.header l.fn.guests.items → StandsIn net l.case.feed l.trace.engine;
  rightly : (net : Network _) → IsRunOf net g.G.Guest.meaning l.case.header l.fn.guests.items → EndsRightly net l.case.feed l.trace.stage;
  written : (net : Network _) → IsRunOf net g.G.Guest.meaning l.case.header l.fn.guests.items → PutsOrKeeps (g.K.Sink.holds l.fn.sink) (g.K.Sink.holds l.sink) (l.text ++ to_come net l.case.feed l.trace.stage l.trace.engine.place) (trace_text net l.case.feed);
  later : g.K.Sink.faults l.fn.sink ≤ g.K.Sink.faults l.sink;
}

abbrev pub decreases-pieces : goal.decreases-pieces
decreases-pieces g l = steps_left l.trace.stage l.trace.engine.place
