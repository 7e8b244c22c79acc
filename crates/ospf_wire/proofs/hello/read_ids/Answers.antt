use Rattle.std.proofs.Common.{◌≡◌, ℕ, ◌*◌, ◌/◌, [], ◌∷◌, ◌++◌, length, drop, ap, ◌∙◌}
use Rattle.ospf_wire.specs.Fields.{field}
use Rattle.ospf_wire.specs.Reading.{pieces}
use Rattle.ospf_wire.proofs.PieceLaws.{pieces_more}
use Rattle.ospf_wire.proofs.hello.read_ids.Goals as goal

pub loop-place-preserved : goal.loop-place-preserved
loop-place-preserved c =
    let bytes = c.args.bytes.now in
    let count = length bytes / 4 in
    let i = c.loop-place.place in
    let front = c.loop-place.ids.items in
    let items : c.push.new.self.items ≡ front ++ c.u32_at.result ∷ [] = c.in_ok-push.ensures.items in
    let read : c.push.new.self.items ≡ front ++ field 0 4 (drop (4 * i) bytes) ∷ [] = items ∙ ap (λ (id : ℕ). front ++ id ∷ []) (c.u32_at.ensures ∙ ap (field 0 4) c.bytes_from.ensures) in
    rw read (pieces_more 4 (field 0 4) count i bytes front (pieces 4 (field 0 4) count bytes) c.loop-place-test.true c.loop-place.invariant)
