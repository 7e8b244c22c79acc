use Rattle.std.proofs.Common.{◌≡◌, ◌++◌, map, take}
use Rattle.ospf_router.specs.Origination.{stub_of}
use Rattle.ospf_router.proofs.origination.push_stubs.Given as goal

abbrev pub invariant-loop-address : goal.invariant-loop-address
invariant-loop-address l = l.links.items ≡ l.fn.links.items ++ map stub_of (take l.address-index l.networks)
