use Rattle.std.proofs.Common.{◌≡◌, ◌+◌, length, map}
use Rattle.std.specs.List.{position_from}
use Rattle.dn_debug.specs.Watching.{place_of, is_named}
use Rattle.dn_debug.proofs.watching.place_of.Given as goal

abbrev pub invariant-probes : goal.invariant-probes
invariant-probes g l = record {
  found : place_of l.name (map g.P.Probe.watcher l.probes) ≡ position_from (is_named l.name) l.place (map g.P.Probe.watcher l.left);
  counted : l.place + length l.left ≡ length l.probes;
}

abbrev pub decreases-probes : goal.decreases-probes
decreases-probes g l = length l.left
