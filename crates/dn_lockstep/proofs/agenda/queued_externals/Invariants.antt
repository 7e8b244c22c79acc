use Rattle.std.proofs.Common.{take}
use Rattle.std.specs.List.Sorted.{IsPermutation}
use Rattle.dn_model.specs.Network.{externals}
use Rattle.dn_lockstep.proofs.agenda.queued_externals.Given as goal

abbrev pub invariant-loop-place : goal.invariant-loop-place
invariant-loop-place l = IsPermutation (externals 0 (take l.place l.feed)) l.made
