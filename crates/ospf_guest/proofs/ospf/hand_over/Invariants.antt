use Rattle.std.proofs.Common.{◌≡◌, ◌++◌}
use Rattle.std.specs.Vec.Iter.{into_iter_items}
use Rattle.ospf_guest.proofs.ospf.hand_over.Given as goal

abbrev pub invariant-loop-output : goal.invariant-loop-output
invariant-loop-output l = l.out ++ into_iter_items l.output-iterator ≡ l.fn.out ++ l.fn.outputs.items
