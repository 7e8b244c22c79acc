use Rattle.std.proofs.Common.{◌≡◌, ◌-◌, ◌*◌, ◌++◌, drop}
use Rattle.ospf_wire.specs.Lsas.{header_of}
use Rattle.ospf_wire.specs.Reading.{pieces}
use Rattle.ospf_wire.proofs.acknowledgement.read_headers.Given as goal

abbrev pub invariant-loop-place : goal.invariant-loop-place
invariant-loop-place l = l.headers.items ++ pieces 20 header_of (l.count - l.place) (drop (20 * l.place) l.bytes) ≡ pieces 20 header_of l.count l.bytes
