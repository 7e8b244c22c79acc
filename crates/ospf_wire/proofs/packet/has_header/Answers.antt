use Rattle.ospf_wire.specs.Reading.{has_header}
use Rattle.std.proofs.Common.{arith}
use Rattle.ospf_wire.proofs.packet.has_header.Goals as goal

pub returns-then-u16_at-eq0-clause-test : goal.returns-then-u16_at-eq0-clause-test
unfolding has_header
returns-then-u16_at-eq0-clause-test c = grind arith
