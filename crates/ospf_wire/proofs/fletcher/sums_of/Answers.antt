use Rattle.std.proofs.Common.{◌≡◌, ◌*◌, ℕ, drop, length, ap, ◌∙◌, arith}
use Rattle.std.specs.Prelude.{sum}
use Rattle.ospf_wire.specs.Lsas.{header_bytes}
use Rattle.ospf_wire.specs.Fletcher.{weighted}
use Rattle.ospf_wire.proofs.FletcherLaws.{sum-append, weighted-append}
use Rattle.ospf_wire.proofs.fletcher.sums_of.Goals as goal

pub returns-clause-plain : goal.returns-clause-plain
returns-clause-plain c =
    let front : c.bytes_from.result.now ≡ drop 2 (header_bytes c.args.head) = c.bytes_from.ensures ∙ ap (drop 2) c.header_bytes-front.ensures.bytes in
    omega (arith, ap sum front, sum-append (drop 2 (header_bytes c.args.head)) c.args.body.now, c.with_bytes.ensures.plain, c.with_bytes-before.ensures.plain)

pub returns-clause-weighted : goal.returns-clause-weighted
returns-clause-weighted c =
    let front : c.bytes_from.result.now ≡ drop 2 (header_bytes c.args.head) = c.bytes_from.ensures ∙ ap (drop 2) c.header_bytes-front.ensures.bytes in
    let before : c.with_bytes-before.result.plain ≡ sum (drop 2 (header_bytes c.args.head)) = omega (arith, ap sum front, c.with_bytes-before.ensures.plain) in
    let product : length c.args.body.now * c.with_bytes-before.result.plain ≡ length c.args.body.now * sum (drop 2 (header_bytes c.args.head)) = ap (λ (n : ℕ). length c.args.body.now * n) before in
    omega (arith, ap weighted front, product, weighted-append (drop 2 (header_bytes c.args.head)) c.args.body.now, c.with_bytes.ensures.weighted, c.with_bytes-before.ensures.weighted)
