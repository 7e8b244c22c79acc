use Rattle.std.proofs.Common.{◌≡◌, take}
use Rattle.dn_model.proofs.emission.copies.Given as goal

abbrev pub invariant-loop-output : goal.invariant-loop-output
invariant-loop-output l = l.made.items ≡ take l.output-index l.sent
