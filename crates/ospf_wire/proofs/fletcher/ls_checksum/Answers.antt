use Rattle.std.proofs.Common.{◌≡◌, ◌+◌, ◌*◌, ◌-◌, ◌%◌, ℕ, List, length, ap, ◌∙◌}
use Rattle.std.specs.Prelude.{sum}
use Rattle.ospf_wire.specs.Fletcher.{weighted, checked_bytes, with_sum, check_byte, ls_checksum}
use Rattle.ospf_wire.proofs.fletcher.ls_checksum.Goals as goal

pub returns : goal.returns
unfolding ls_checksum
returns c =
    let l = c.args.lsa.now in
    let p = sum (checked_bytes (with_sum l 0).head l.body) in
    let q = weighted (checked_bytes (with_sum l 0).head l.body) in
    let plain : c.sums_of-sums.result.plain ≡ p = c.sums_of-sums.ensures.plain ∙ ap (λ (body : List ℕ). sum (checked_bytes (with_sum l 0).head body)) c.as_slice.ensures in
    let weight : c.sums_of-sums.result.weighted ≡ q = c.sums_of-sums.ensures.weighted ∙ ap (λ (body : List ℕ). weighted (checked_bytes (with_sum l 0).head body)) c.as_slice.ensures in
    let first : c.check_byte-first.result ≡ check_byte ((length l.body + 3) * (p % 255) + 255 - q % 255) = rw (plain, weight, c.len.ensures) at c.check_byte-first.ensures.value in
    let second : c.check_byte.result ≡ check_byte (510 - p % 255 - c.check_byte-first.result) = rw (plain, c.from.ensures) at c.check_byte.ensures.value in
    ap (λ (y : ℕ). 256 * c.check_byte-first.result + y) second ∙ ap (λ (x : ℕ). 256 * x + check_byte (510 - p % 255 - x)) first
