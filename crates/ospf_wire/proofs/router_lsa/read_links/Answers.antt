use Rattle.std.proofs.Common.{◌≡◌, ℕ, ◌≤◌, [], ◌∷◌, ◌++◌, length, drop, ap, subst, ◌∙◌}
use Rattle.ospf_wire.specs.declared.router_lsa.RouterLink.{RouterLink}
use Rattle.ospf_wire.specs.RouterLsas.{link_of, link_len}
use Rattle.ospf_wire.specs.Reading.{links_at}
use Rattle.ospf_wire.proofs.RouterLsaLaws.{links_more, links_none}
use Rattle.ospf_wire.proofs.router_lsa.read_links.Goals as goal

pub loop-place-preserved : goal.loop-place-preserved
loop-place-preserved c =
    let front = c.loop-place.links.items in
    let rest = c.loop-place.rest.now in
    let total = links_at c.args.count c.args.bytes.now in
    let len : c.in-Some.len ≡ link_len rest = c.in-Some.ensures.0 in
    let whole : link_len rest ≤ length rest = subst (λ (n : ℕ). n ≤ length rest) len c.in-Some.ensures.1 in
    let items : c.push.new.self.items ≡ front ++ link_of rest ∷ [] = c.in_ok-push.ensures.items ∙ ap (λ (l : RouterLink). front ++ l ∷ []) c.read_link.ensures in
    let after : c.bytes_from-rest.result.now ≡ drop (link_len rest) rest = c.bytes_from-rest.ensures ∙ ap (λ (n : ℕ). drop n rest) len in
    rw (items, after) (links_more front c.args.count c.loop-place.place rest total c.loop-place-test.true whole c.loop-place.invariant)

pub returns-in_default : goal.returns-in_default
returns-in_default c =
    let rest = c.loop-place.rest.now in
    links_none c.loop-place.links.items c.args.count c.loop-place.place rest (links_at c.args.count c.args.bytes.now) c.loop-place-test.true c.in_default.ensures c.loop-place.invariant
