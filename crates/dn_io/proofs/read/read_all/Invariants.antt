use Rattle.std.proofs.Common.{◌≡◌, ◌<◌, ◌≤◌, ◌-◌, length, vec_len}
use Rattle.dn_io.specs.Streams.{before}
use Rattle.dn_io.proofs.read.read_all.Given as goal

abbrev pub invariant-loop-count : goal.invariant-loop-count
invariant-loop-count g l = record {
  told : g.S.Source.left l.fn.source ≡ before l.all.items (g.S.Source.left l.source);
  small : vec_len l.all ≤ l.limit;
  room : 0 < length l.buffer;
  later : g.S.Source.faults l.fn.source ≤ g.S.Source.faults l.source;
}

abbrev pub decreases-loop-count : goal.decreases-loop-count
decreases-loop-count g l = l.limit - vec_len l.all
