use Rattle.std.proofs.Common.{◌≡◌, ℕ, List, ◌++◌, length, ap, subst, sym, ◌∙◌}
use Rattle.ospf_wire.specs.RouterLsas.{links_bytes, IsRouterBody}
use Rattle.ospf_wire.proofs.RouterLsaLaws.{body_is, body_again, joined, length-router_body_bytes}
use Rattle.ospf_wire.proofs.router_lsa.router_body.Goals as goal

pub returns-clause-bytes : goal.returns-clause-bytes
returns-clause-bytes c =
    let head : c.extend_from_slice.new.self.items ≡ c.links_head.result = c.in_ok-extend_from_slice.ensures.items ∙ ap (λ (xs : List ℕ). xs ++ c.links_head.result) c.new-bytes.ensures.items in
    let links = c.args.links.now in
    c.from_vec.ensures ∙ joined c.links_head.result _ links c.links_head.ensures (c.in_ok-push_links.ensures.bytes ∙ ap (λ (xs : List ℕ). xs ++ links_bytes links) head)

pub returns-clause-len : goal.returns-clause-len
returns-clause-len c = ap length (returns-clause-bytes c) ∙ length-router_body_bytes c.args.links.now

pub returns-clause-back : goal.returns-clause-back
returns-clause-back c =
    let links = c.args.links.now in
    subst (λ (bytes : List ℕ). IsRouterBody bytes links) (sym (returns-clause-bytes c)) (body_is links c.requires c.in_ok-push_links.ensures.fits)

pub returns-clause-read : goal.returns-clause-read
returns-clause-read c = body_again c.from_vec.result c.args.links.now (returns-clause-back c)
