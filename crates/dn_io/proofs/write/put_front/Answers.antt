use Rattle.std.proofs.Common.{arith}
use Rattle.std.proofs.lemmas.List.{take_rest, length-drop}
use Rattle.dn_io.proofs.StreamLaws.{behind-more}
use Rattle.dn_io.proofs.write.put_front.Goals as goal

pub loop-done-preserved : goal.loop-done-preserved
loop-done-preserved g c =
    let bytes = c.args.bytes.now in
    let done = c.loop-done.done in
    let wrote = rw (take_rest bytes done) at c.in-Bytes.ensures.bytes in
    record {
      within = omega (arith, length-drop done bytes);
      held = rw (wrote.2, c.loop-done.invariant.held) (behind-more (g.K.Sink.holds c.args.sink.now) bytes done c.in-Bytes.count);
      later = omega (arith, c.in-Bytes.ensures.later);
    }
