use Rattle.std.proofs.Common.{◌++◌, take, arith}
use Rattle.dn_io.proofs.StreamLaws.{came-more}
use Rattle.dn_io.proofs.read.read_all.Goals as goal

pub returns-then-count-limit-clause-over_limit : goal.returns-then-count-limit-clause-over_limit
returns-then-count-limit-clause-over_limit g c _ =
    let all = c.loop-count.all.items in
    let into = c.read.new.into in
    let n = c.in-Bytes.count in
    let read = c.in-Bytes.ensures.bytes in
    let came = came-more _ _ _ all into n c.loop-count.invariant.told read.1 read.2 in
    record { came = all ++ take n into; holds = omega (arith, came.0, c.if-count-limit.true, c.loop-count.all.ok.0); told = came.1 }

pub returns-then-is_err-clause-within_limit : goal.returns-then-is_err-clause-within_limit
returns-then-is_err-clause-within_limit g c _ =
    let all = c.loop-count.all.items in
    let into = c.read.new.into in
    let n = c.in-Bytes.count in
    let read = c.in-Bytes.ensures.bytes in
    let came = came-more _ _ _ all into n c.loop-count.invariant.told read.1 read.2 in
    record { came = all ++ take n into; holds = omega (arith, came.0, c.if-count-limit.false, c.loop-count.all.ok.0); told = came.1 }
