use Rattle.std.proofs.Common.{◌≡◌, ℕ, ◌≤◌, length, drop, ap, subst, ◌∙◌}
use Rattle.ospf_wire.specs.RouterLsas.{link_len}
use Rattle.ospf_wire.specs.Reading.{are_links}
use Rattle.ospf_wire.proofs.RouterLsaLaws.{test_more, test_none}
use Rattle.ospf_wire.proofs.router_lsa.are_links.Goals as goal

pub loop-place-preserved : goal.loop-place-preserved
loop-place-preserved c =
    let rest = c.loop-place.rest.now in
    let total = are_links c.args.count c.args.bytes.now in
    let len : c.in-Some.len ≡ link_len rest = c.in-Some.ensures.0 in
    let whole : link_len rest ≤ length rest = subst (λ (n : ℕ). n ≤ length rest) len c.in-Some.ensures.1 in
    let after : c.bytes_from-rest.result.now ≡ drop (link_len rest) rest = c.bytes_from-rest.ensures ∙ ap (λ (n : ℕ). drop n rest) len in
    rw after (test_more c.args.count c.loop-place.place rest total c.loop-place-test.true whole c.loop-place.invariant)

pub returns-in_default : goal.returns-in_default
returns-in_default c =
    let rest = c.loop-place.rest.now in
    test_none c.args.count c.loop-place.place rest (are_links c.args.count c.args.bytes.now) c.loop-place-test.true c.in_default.ensures c.loop-place.invariant
