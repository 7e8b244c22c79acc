use Rattle.std.proofs.Common.{◌++◌}
use Rattle.std.specs.List.Sorted.{IsPermutation}
use Rattle.std.specs.Vec.Iter.{into_iter_items}
use Rattle.dn_model.specs.Network.{emitted_by}
use Rattle.dn_lockstep.specs.Agendas.{waiting_in}
use Rattle.dn_lockstep.proofs.step.send.Given as goal

abbrev pub invariant-loop-output : goal.invariant-loop-output
invariant-loop-output l =
    IsPermutation (waiting_in l.initial.agenda ++ emitted_by l.timing l.ends l.cause l.fn.sent.items) (waiting_in l.agenda ++ emitted_by l.timing l.ends l.cause (into_iter_items l.output-iterator))
