use Rattle.std.proofs.Common.{◌≡◌, ◌++◌, List, ℕ, length, ap, ◌∙◌, append_assoc, arith}
use Rattle.std.proofs.lemmas.Result.{on_ok_weaker}
use Rattle.ospf_wire.specs.Packets.{packet_bytes, body_bytes, summed_header}
use Rattle.ospf_wire.proofs.PacketLaws.{has_few, room_for, packet_is, joined}
use Rattle.ospf_wire.proofs.packet.encode.Goals as goal

pub push_body-requires : goal.push_body-requires
push_body-requires c = has_few c.args.packet.now c.requires

pub summed_header-requires : goal.summed_header-requires
summed_header-requires c =
    let p = c.args.packet.now in
    let body : c.push_body.new.out.items ≡ body_bytes p.body = c.in_ok-push_body.ensures.bytes ∙ ap (λ (xs : List ℕ). xs ++ body_bytes p.body) c.new-body.ensures.items in
    omega (arith, ap length (c.deref.ensures.value ∙ body), room_for p c.requires)

pub returns-clause-ok : goal.returns-clause-ok
returns-clause-ok c =
    let p = c.args.packet.now in
    let out = c.args.out.now in
    let written = c.push_body.new.out.items in
    let body : written ≡ body_bytes p.body = c.in_ok-push_body.ensures.bytes ∙ ap (λ (xs : List ℕ). xs ++ body_bytes p.body) c.new-body.ensures.items in
    let header : c.summed_header.result ≡ summed_header p written = c.summed_header.ensures.bytes ∙ ap (summed_header p) c.deref.ensures.value in
    let whole : c.summed_header.result ++ c.deref-2.result.now ≡ packet_bytes p = ap (λ (xs : List ℕ). c.summed_header.result ++ xs) c.deref-2.ensures.value ∙ ap (λ (xs : List ℕ). xs ++ written) header ∙ joined p written body in
    on_ok_weaker c.append-2.result
    (λ e. e ∙ ap (λ (xs : List ℕ). xs ++ c.deref-2.result.now) c.in_ok-append.ensures.ok ∙ append_assoc out c.summed_header.result c.deref-2.result.now ∙ ap (λ (xs : List ℕ). out ++ xs) whole)
    c.append-2.ensures.ok

pub returns-clause-back : goal.returns-clause-back
returns-clause-back c =
    let p = c.args.packet.now in
    on_ok_weaker c.append-2.result
    (λ _. packet_is p c.summed_header.ensures.router_fits c.summed_header.ensures.area_fits c.in_ok-push_body.ensures.fits c.requires)
    c.append-2.ensures.ok
