use Rattle.std.proofs.Common.{◌≡◌, ◌+◌, ◌++◌, ℕ, List, length, take, ap, ◌∙◌}
use Rattle.std.specs.Prelude.{sum}
use Rattle.ospf_wire.specs.Sums.{words, checksum, packet_checksum}
use Rattle.ospf_wire.specs.Packets.{header_text, summed_header}
use Rattle.ospf_wire.proofs.PacketLaws.{checksum_is}
use Rattle.ospf_wire.proofs.packet.summed_header.Goals as goal

pub returns-clause-bytes : goal.returns-clause-bytes
unfolding summed_header
returns-clause-bytes c =
    let p = c.args.packet.now in
    let body = c.args.body.now in
    let len = 24 + length body in
    let front : checksum (sum (words (take 16 c.header_text-unsummed.result)) + sum (words body)) ≡ checksum (sum (words (take 16 (header_text p len 0))) + sum (words body)) = ap (λ (bytes : List ℕ). checksum (sum (words (take 16 bytes)) + sum (words body))) c.header_text-unsummed.ensures.bytes in
    let s : c.checksum-sum.result ≡ packet_checksum (header_text p len 0 ++ body) = c.checksum-sum.ensures ∙ front ∙ checksum_is p len body in
    c.header_text.ensures.bytes ∙ ap (header_text p len) s
