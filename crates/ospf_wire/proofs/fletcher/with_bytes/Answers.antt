use Rattle.std.proofs.Common.{arith}
use Rattle.ospf_wire.proofs.FletcherLaws.{sum-more, weighted-more}
use Rattle.ospf_wire.proofs.fletcher.with_bytes.Goals as goal

pub loop-byte-preserved : goal.loop-byte-preserved
loop-byte-preserved c =
    let s = sum-more c.args.bytes.now c.loop-byte.byte-index c.loop-byte-test.true in
    let w = weighted-more c.args.bytes.now c.loop-byte.byte-index c.loop-byte-test.true in
    record {
      plain = omega (arith, s);
      weighted = omega (arith, w);
      plain_small = omega (arith, c.type_inv.bytes c.loop-byte.byte-index);
      weighted_small = omega (arith, c.type_inv.bytes c.loop-byte.byte-index);
    }
