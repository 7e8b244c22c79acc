use Rattle.std.proofs.Common.{◌≡◌, ◌+◌, ◌≤◌, length, map, ap, ◌∙◌, arith, length-append}
use Rattle.std.proofs.lemmas.List.{length-map}
use Rattle.ospf_router.specs.Origination.{links_from, stub_of}
use Rattle.ospf_router.proofs.LinkLaws.{few_links}
use Rattle.ospf_router.proofs.router.Router.wanted_links.Goals as goal

pub returns-clause-few : goal.returns-clause-few
returns-clause-few c =
    let before = c.push_links.new.links.items in
    let networks = c.deref.result.now in
    let ports = c.ports.result.now in
    let none : length c.new-links.result.items ≡ 0 = ap length c.new-links.ensures.items in
    let links : length before ≡ length c.new-links.result.items + length (links_from 0 c.args.ports ports) = ap length c.in_ok-push_links.ensures ∙ length-append c.new-links.result.items (links_from 0 c.args.ports ports) in
    let few : length (links_from 0 c.args.ports ports) ≤ length ports = few_links 0 c.args.ports ports in
    let some : length ports ≤ 16 = omega (arith, ap length c.ports.ensures.ports, c.ports.ensures.few) in
    let all : length c.push_stubs.new.links.items ≡ length before + length (map stub_of networks) = ap length c.in_ok-push_stubs.ensures ∙ length-append before (map stub_of networks) in
    let stubs : length (map stub_of networks) ≡ length networks = length-map networks stub_of in
    let own : length networks ≤ 32 = omega (arith, ap length c.deref.ensures.value, ap length c.in_ok-entries.ensures.entries, c.in_ok-entries.ensures.few) in
    omega arith
