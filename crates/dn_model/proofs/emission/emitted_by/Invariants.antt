use Rattle.std.proofs.Common.{◌≡◌, ◌++◌}
use Rattle.std.specs.Vec.Iter.{into_iter_items}
use Rattle.dn_model.specs.Network.{emitted_by}
use Rattle.dn_model.proofs.emission.emitted_by.Given as goal

abbrev pub invariant-loop-output : goal.invariant-loop-output
invariant-loop-output l = l.events.items ++ emitted_by l.timing l.ends l.cause (into_iter_items l.output-iterator) ≡ emitted_by l.timing l.ends l.cause l.fn.sent.items
