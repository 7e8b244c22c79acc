use Rattle.std.proofs.Common.{◌≡◌, ◌≤◌, ◌++◌, true, List}
use Rattle.dn_io.specs.Streams.{Gives}
use Rattle.dn_model.specs.declared.feed.External.{External}
use Rattle.dn_model.specs.Network.{Network}
use Rattle.dn_debug.specs.Situations.{SitsIn, situation_of}
use Rattle.dn_debug.specs.Conversing.{HasHeard}
use Rattle.dn_debug.proofs.dialogue.converse.Given as goal

abbrev pub invariant-turns : goal.invariant-turns
invariant-turns g l = record {
  is_open : l.lines.is_open ≡ true;
  case : l.session.case ≡ l.fn.session.case;
  heard : (net : Network _) (feed : List External) → net.guests ≡ g.G.Guest.meaning → SitsIn net feed l.fn.session → SitsIn net feed l.session × Gives (g.S.Source.left l.fn.source) (g.S.Source.left l.source) (λ came. HasHeard net feed (situation_of g.P.Probe.watcher l.fn.session) l.fn.lines.room (l.fn.lines.held ++ came) l.lines.held l.lines.room (situation_of g.P.Probe.watcher l.session) (g.K.Sink.holds l.fn.sink) (g.K.Sink.holds l.sink));
  read_later : g.S.Source.faults l.fn.source ≤ g.S.Source.faults l.source;
  write_later : g.K.Sink.faults l.fn.sink ≤ g.K.Sink.faults l.sink;
}

abbrev pub decreases-turns : goal.decreases-turns
decreases-turns g l = l.lines.room
