use Rattle.std.proofs.Common.{◌≡◌, ◌*◌, ◌/◌, [], ◌∷◌, ◌++◌, length, drop, ap, ◌∙◌}
use Rattle.ospf_wire.specs.declared.lsa.LsaHeader.{LsaHeader}
use Rattle.ospf_wire.specs.Lsas.{header_of}
use Rattle.ospf_wire.specs.Reading.{pieces}
use Rattle.ospf_wire.proofs.PieceLaws.{pieces_more}
use Rattle.ospf_wire.proofs.acknowledgement.read_headers.Goals as goal

pub loop-place-preserved : goal.loop-place-preserved
loop-place-preserved c =
    let bytes = c.args.bytes.now in
    let count = length bytes / 20 in
    let i = c.loop-place.place in
    let front = c.loop-place.headers.items in
    let items : c.push.new.self.items ≡ front ++ c.read_header.result ∷ [] = c.in_ok-push.ensures.items in
    let read : c.push.new.self.items ≡ front ++ header_of (drop (20 * i) bytes) ∷ [] = items ∙ ap (λ (h : LsaHeader). front ++ h ∷ []) (c.read_header.ensures ∙ ap header_of c.bytes_from.ensures) in
    rw read (pieces_more 20 header_of count i bytes front (pieces 20 header_of count bytes) c.loop-place-test.true c.loop-place.invariant)
