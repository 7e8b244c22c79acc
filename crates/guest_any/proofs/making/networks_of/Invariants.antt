use Rattle.std.proofs.Common.{◌≡◌, take}
use Rattle.guest_any.specs.Openings.{networks_of}
use Rattle.guest_any.proofs.making.networks_of.Given as goal

abbrev pub invariant-loop-prefix : goal.invariant-loop-prefix
invariant-loop-prefix l = l.networks.items ≡ networks_of (take l.prefix-index l.prefixes)
