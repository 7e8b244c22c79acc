use Rattle.std.proofs.Common.{◌≡◌, ◌++◌, take}
use Rattle.std.specs.List.{flat_map}
use Rattle.dn_guest.specs.KeepsFront.{KeepsFront}
use Rattle.ospf_guest.specs.PlainImage.{network_image}
use Rattle.ospf_guest.proofs.image.push_networks.Given as goal

abbrev pub invariant-loop-address : goal.invariant-loop-address
invariant-loop-address l = record {
  text : l.out ≡ l.fn.out ++ flat_map network_image (take l.address-index l.networks);
  kept : KeepsFront l.fn.out l.out;
}
