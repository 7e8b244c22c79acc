use Rattle.std.proofs.Common.{◌≡◌, ◌++◌, take}
use Rattle.std.specs.List.{flat_map}
use Rattle.dn_guest.specs.KeepsFront.{KeepsFront}
use Rattle.rip_guest.specs.Show.{route_line}
use Rattle.rip_guest.proofs.show.push_lines.Given as goal

abbrev pub invariant-loop-network : goal.invariant-loop-network
invariant-loop-network l = record {
  text : l.out ≡ l.fn.out ++ flat_map route_line (take l.network-index l.entries);
  kept : KeepsFront l.fn.out l.out;
}
