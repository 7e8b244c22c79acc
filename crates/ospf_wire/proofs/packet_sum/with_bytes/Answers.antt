use Rattle.std.proofs.Common.{◌≡◌, ◌+◌, ◌*◌, ◌/◌, take, length, ap, ◌∙◌, arith}
use Rattle.std.specs.Prelude.{sum}
use Rattle.ospf_wire.specs.Sums.{carried, words}
use Rattle.ospf_wire.proofs.SumLaws.{sum-words-more, sum-words-last}
use Rattle.ospf_wire.proofs.packet_sum.with_bytes.Goals as goal

pub loop-place-preserved : goal.loop-place-preserved
loop-place-preserved c total e =
    let bytes = c.args.bytes.now in
    let i = c.loop-place.place in
    let step = c.with_word-all.ensures (total + sum (words (take (2 * i) bytes))) (c.loop-place.invariant total e) in
    let more = sum-words-more i bytes (omega arith) in
    let same : total + sum (words (take (2 * i) bytes)) + c.u16_at.result ≡ total + sum (words (take (2 * (i + 1)) bytes)) = omega (arith, more, c.u16_at.ensures) in
    step ∙ ap carried same

pub returns-then-bytes-eq1 : goal.returns-then-bytes-eq1
returns-then-bytes-eq1 c total e =
    let bytes = c.args.bytes.now in
    let i = c.loop-place.place in
    let half : i ≡ length bytes / 2 = omega arith in
    let step = c.with_word-all-then-bytes-eq1.ensures (total + sum (words (take (2 * i) bytes))) (c.loop-place.invariant total e) in
    let last = sum-words-last i bytes (omega arith) in
    let same : total + sum (words (take (2 * i) bytes)) + 256 * c.from.result ≡ total + sum (words bytes) = rw half (omega (arith, rw half at last, c.from.ensures)) in
    step ∙ ap carried same
