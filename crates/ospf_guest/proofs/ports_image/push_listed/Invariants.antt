use Rattle.std.proofs.Common.{◌≡◌, ◌++◌, take}
use Rattle.std.specs.List.{flat_map}
use Rattle.dn_guest.specs.KeepsFront.{KeepsFront}
use Rattle.ospf_guest.specs.PlainImage.{listed_image}
use Rattle.ospf_guest.proofs.ports_image.push_listed.Given as goal

abbrev pub invariant-loop-key : goal.invariant-loop-key
invariant-loop-key l = record {
  text : l.out ≡ l.fn.out ++ flat_map listed_image (take l.key-index l.entries);
  kept : KeepsFront l.fn.out l.out;
}
