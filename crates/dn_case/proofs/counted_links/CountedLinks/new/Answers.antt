use Rattle.std.proofs.Common.{◌≡◌, [], ap, sym, ◌∙◌, rules, List}
use Rattle.dn_model.specs.declared.link.Link.{Link}
use Rattle.dn_model.specs.Links.{ports_of}
use Rattle.dn_case.proofs.LinkLaws.{none_counted}
use Rattle.dn_case.proofs.counted_links.CountedLinks.new.Goals as goal

pub invariant_of-result : goal.invariant_of-result
invariant_of-result c = λ r small.
    let none : c.from_vec.result ≡ [] = search rules in
    none_counted c.no_ports.result 64 r c.no_ports.ensures small ∙ ap (λ (x : List Link). ports_of x r) (sym none)
