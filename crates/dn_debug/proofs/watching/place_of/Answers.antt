use Rattle.std.proofs.Common.{map, arith}
use Rattle.dn_debug.proofs.Watchers.{place_first}
use Rattle.dn_debug.proofs.watching.place_of.Goals as goal

pub probes-init : goal.probes-init
probes-init g c = record { found = place_first c.args.name.now (map g.P.Probe.watcher c.args.probes.now); counted = omega arith }
