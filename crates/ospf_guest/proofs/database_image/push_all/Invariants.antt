use Rattle.std.proofs.Common.{◌≡◌, ◌++◌}
use Rattle.std.specs.List.{flat_map}
use Rattle.dn_guest.specs.KeepsFront.{KeepsFront}
use Rattle.ospf_guest.specs.Image.{kept_image}
use Rattle.ospf_guest.proofs.database_image.push_all.Given as goal

abbrev pub invariant-loop-key : goal.invariant-loop-key
invariant-loop-key l = record {
  text : l.out ++ flat_map kept_image l.key-iterator ≡ l.fn.out ++ flat_map kept_image l.db;
  kept : KeepsFront l.fn.out l.out;
}
