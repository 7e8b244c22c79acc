use Rattle.std.proofs.Common.{◌≡◌, ◌∷◌, List, length, ap, ◌∙◌, rules, arith}
use Rattle.dn_model.specs.declared.link.Link.{Link}
use Rattle.dn_model.specs.Links.{ports_of}
use Rattle.dn_case.proofs.LiveLaws.{ports_none, ports_cons}
use Rattle.dn_case.proofs.live_lines.ports_of.Goals as goal

pub links-preserved : goal.links-preserved
links-preserved c =
    let left : c.links.left.now ≡ c.in-Some.link.now ∷ c.in-Some.rest.now = search rules in
    let ports = ap (λ (ls : List Link). ports_of ls c.args.router) left ∙ ports_cons c.in-Some.link.now c.in-Some.rest.now c.args.router in
    let long = ap (λ (ls : List Link). length ls) left in
    grind (arith, ports, long)

pub returns : goal.returns
returns c =
    let none : length c.links.left.now ≡ 0 = grind arith in
    let ports = ports_none c.links.left.now c.args.router none in
    grind (arith, ports)
