use Rattle.std.proofs.Common.{◌≡◌, ◌++◌}
use Rattle.std.specs.List.{flat_map, range_with_len}
use Rattle.dn_guest.specs.KeepsFront.{KeepsFront}
use Rattle.ospf_guest.specs.Show.{port_text}
use Rattle.ospf_guest.proofs.show.push_mask.Given as goal

abbrev pub invariant-loop-port : goal.invariant-loop-port
invariant-loop-port l = record {
  text : l.out ≡ l.fn.out ++ flat_map (port_text l.mask) (range_with_len 0 l.port);
  kept : KeepsFront l.fn.out l.out;
}
