use Rattle.std.proofs.Common.{◌≡◌, ◌++◌}
use Rattle.std.specs.List.{flat_map}
use Rattle.dn_guest.specs.Flood.{seen_line, flood_show}
use Rattle.dn_guest.specs.KeepsFront.{KeepsFront}
use Rattle.dn_guest.proofs.flood.push_show.Given as goal

abbrev pub invariant-loop-body : goal.invariant-loop-body
invariant-loop-body l = record {
  text : l.out ++ flat_map seen_line l.body-iterator ≡ l.fn.out ++ flood_show l.bodies.keys;
  kept : KeepsFront l.fn.out l.out;
}
