use Rattle.std.proofs.Common.{◌≡◌, ◌+◌, ◌++◌, length}
use Rattle.dn_probe.specs.Stations.{opened, opened_of}
use Rattle.dn_probe.proofs.stations.Stations.open.Given as goal

abbrev pub invariant-routers : goal.invariant-routers
invariant-routers l = record {
  made : l.items.items ++ opened l.header.links l.number l.left ≡ opened_of l.header;
  place : l.number + length l.left ≡ length l.header.routers;
}

abbrev pub decreases-routers : goal.decreases-routers
decreases-routers l = length l.left
