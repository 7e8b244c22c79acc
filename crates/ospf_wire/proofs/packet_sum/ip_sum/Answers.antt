use Rattle.std.proofs.Common.{◌≡◌, ℕ, List, ◌+◌, take, drop, ap, sym, ◌∙◌}
use Rattle.std.specs.Prelude.{sum}
use Rattle.std.proofs.lemmas.List.{take_min, drop_min}
use Rattle.ospf_wire.specs.Sums.{packet_checksum, words, checksum}
use Rattle.ospf_wire.proofs.SumLaws.{sum-summed}
use Rattle.ospf_wire.proofs.packet_sum.ip_sum.Goals as goal

pub returns : goal.returns
unfolding packet_checksum
returns c =
    let bytes = c.args.bytes.now in
    let first : take c.min.result bytes ≡ take 16 bytes = ap (λ (n : ℕ). take n bytes) c.min.ensures ∙ take_min 16 bytes in
    let second : c.bytes_from.result.now ≡ drop 24 bytes = c.bytes_from.ensures ∙ ap (λ (n : ℕ). drop n bytes) c.min-2.ensures ∙ drop_min 24 bytes in
    c.checksum.ensures
    ∙ ap (λ (xs : List ℕ). checksum (sum (words xs) + sum (words c.bytes_from.result.now))) first
    ∙ ap (λ (xs : List ℕ). checksum (sum (words (take 16 bytes)) + sum (words xs))) second
    ∙ ap checksum (sym (sum-summed bytes))
