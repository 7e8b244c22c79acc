use Rattle.std.proofs.Common.{◌≡◌, ◌++◌, take}
use Rattle.ospf_wire.specs.Hellos.{ids_bytes}
use Rattle.ospf_wire.proofs.hello.push_ids.Given as goal

abbrev pub invariant-loop-id : goal.invariant-loop-id
invariant-loop-id l = l.out.items ≡ l.fn.out.items ++ ids_bytes (take l.id-index l.ids)
