use Rattle.std.proofs.Common.{◌≡◌, take}
use Rattle.ospf_router.specs.State.{opening_prefixes}
use Rattle.ospf_router.proofs.router.opening_prefixes.Given as goal

abbrev pub invariant-loop-address : goal.invariant-loop-address
invariant-loop-address l = l.prefixes ≡ opening_prefixes (take l.address-index l.list)
