use Rattle.std.proofs.Common.{◌≡◌, ◌++◌, take}
use Rattle.std.specs.List.{flat_map}
use Rattle.dn_guest.specs.KeepsFront.{KeepsFront}
use Rattle.ospf_guest.specs.Show.{route_line}
use Rattle.ospf_guest.proofs.show.push_each.Given as goal

abbrev pub invariant-loop-route : goal.invariant-loop-route
invariant-loop-route l = record {
  text : l.out ≡ l.fn.out ++ flat_map route_line (take l.route-index l.routes);
  kept : KeepsFront l.fn.out l.out;
}
