use Rattle.std.proofs.Common.{◌≡◌, ◌++◌, drop}
use Rattle.dn_guest.specs.KeepsFront.{KeepsFront}
use Rattle.ospf_guest.specs.Image.{ports_image}
use Rattle.ospf_guest.proofs.ports_image.push_ports.Given as goal

abbrev pub invariant-loop-number : goal.invariant-loop-number
invariant-loop-number l = record {
  text : l.out ++ ports_image (drop l.number l.interfaces.ports) (drop l.number l.interfaces.lists) ≡ l.fn.out ++ ports_image l.interfaces.ports l.interfaces.lists;
  kept : KeepsFront l.fn.out l.out;
}
