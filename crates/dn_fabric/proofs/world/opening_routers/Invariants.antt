use Rattle.std.proofs.Common.{◌≡◌, ◌+◌, ◌++◌, length}
use Rattle.std.specs.Vec.Iter.{into_iter_items}
use Rattle.dn_fabric.specs.Openings.{routers_from}
use Rattle.dn_fabric.proofs.world.opening_routers.Given as goal

abbrev pub invariant-loop-guest : goal.invariant-loop-guest
invariant-loop-guest g l = record {
  made : l.routers.items ++ routers_from l.header l.number (into_iter_items l.guest-iterator) ≡ routers_from l.header 0 l.fn.guests.items;
  left : l.number + length (into_iter_items l.guest-iterator) ≡ length l.header.routers;
}
