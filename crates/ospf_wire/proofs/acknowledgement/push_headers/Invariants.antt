use Rattle.std.proofs.Common.{◌≡◌, ◌++◌, take}
use Rattle.std.specs.Prelude.{All}
use Rattle.ospf_wire.specs.Lsas.{headers_bytes, FitsHeader}
use Rattle.ospf_wire.proofs.acknowledgement.push_headers.Given as goal

abbrev pub invariant-loop-head : goal.invariant-loop-head
invariant-loop-head l = (l.out.items ≡ l.fn.out.items ++ headers_bytes (take l.head-index l.headers)) × All FitsHeader (take l.head-index l.headers)
