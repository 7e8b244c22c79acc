use Rattle.std.proofs.Common.{◌≤◌}
use Rattle.dn_top.specs.LiveHeads.{HasGathered}
use Rattle.dn_top.proofs.live_head.gather.Given as goal

abbrev pub invariant-lines : goal.invariant-lines
invariant-lines g l = record {
  gathered : HasGathered (g.S.Source.left l.fn.source) (g.S.Source.left l.source) l.text.items l.lines l.count;
  later : g.S.Source.faults l.fn.source ≤ g.S.Source.faults l.source;
}

abbrev pub decreases-lines : goal.decreases-lines
decreases-lines g l = l.lines.room
