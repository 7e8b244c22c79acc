use Rattle.std.proofs.Common.{◌≡◌, ◌+◌, ◌≤◌, length, true}
use Rattle.std.specs.List.{Contains}
use Rattle.dn_io.specs.Streams.{Gives}
use Rattle.dn_io.specs.LineReading.{HasNoNewline}
use Rattle.dn_io.proofs.LineReadingLaws.{SoFar}
use Rattle.dn_io.proofs.line_reader.LineReader.gather.Given as goal

abbrev pub invariant-loop-line : goal.invariant-loop-line
invariant-loop-line g l = record {
  so_far : Gives (g.S.Source.left l.fn.source) (g.S.Source.left l.source) (SoFar l.fn.self.held l.line.items l.self.held);
  clean : HasNoNewline l.line.items;
  room : l.fn.self.room ≡ length l.line.items + l.self.room;
  is_open : l.self.is_open ≡ true;
  later : g.S.Source.faults l.fn.source ≤ g.S.Source.faults l.source;
  -- where a line was held, nothing has changed
  at_once : Contains l.fn.self.held 10 → (l.source ≡ l.fn.source) × (l.self ≡ l.fn.self);
}

abbrev pub decreases-loop-line : goal.decreases-loop-line
decreases-loop-line g l = l.self.room
