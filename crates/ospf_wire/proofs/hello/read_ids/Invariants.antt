use Rattle.std.proofs.Common.{◌≡◌, ◌-◌, ◌*◌, ◌++◌, drop}
use Rattle.ospf_wire.specs.Fields.{field}
use Rattle.ospf_wire.specs.Reading.{pieces}
use Rattle.ospf_wire.proofs.hello.read_ids.Given as goal

abbrev pub invariant-loop-place : goal.invariant-loop-place
invariant-loop-place l = l.ids.items ++ pieces 4 (field 0 4) (l.count - l.place) (drop (4 * l.place) l.bytes) ≡ pieces 4 (field 0 4) l.count l.bytes
