use Rattle.std.proofs.Common.{◌≡◌, take}
use Rattle.dn_model.specs.Network.{externals}
use Rattle.dn_plain.proofs.plain.all_externals.Given as goal

abbrev pub invariant-loop-place : goal.invariant-loop-place
invariant-loop-place l = l.made.items ≡ externals 0 (take l.place l.feed)
