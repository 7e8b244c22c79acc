use Rattle.std.proofs.Common.{arith}
use Rattle.std.proofs.lemmas.Grind.{common_steps}
use Rattle.std.proofs.lemmas.List.Elements.{All-more}
use Rattle.ospf_wire.specs.Lsas.{FitsHeader}
use Rattle.ospf_wire.proofs.acknowledgement.push_headers.Goals as goal

pub loop-head-preserved : goal.loop-head-preserved
loop-head-preserved c =
    (grind (arith, common_steps), All-more FitsHeader c.args.headers.now c.loop-head.head-index _ c.loop-head-test.true c.loop-head.invariant.1 c.header_bytes.ensures.fits)
