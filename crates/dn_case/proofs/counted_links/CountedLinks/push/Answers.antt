use Rattle.std.proofs.Common.{◌≡◌, ◌++◌, ◌∷◌, [], ◌≤◌, ℕ, List, length, get_or, sym, ap, ◌∙◌, subst, rules}
use Rattle.dn_model.specs.declared.link.Link.{Link}
use Rattle.dn_model.specs.Links.{ports_of}
use Rattle.dn_case.proofs.LinkLaws.{bumped, counted_more}
use Rattle.dn_case.proofs.counted_links.CountedLinks.push.Goals as goal

pub invariant_of-self-2 : goal.invariant_of-self-2
invariant_of-self-2 c = λ r small.
    let l = c.args.link in
    let ports = c.self.inside.ports in
    let a : c.from.result ≡ l.a = c.from.ensures in
    let b : c.from-2.result ≡ l.b = c.from-2.ensures in
    let wide : 64 ≤ length ports = search rules in
    let links : c.push.new.self ≡ c.self.inside.links ++ l ∷ [] = c.in_ok-push.ensures.ok in
    let more = counted_more ports c.self.inside.links l 64 wide c.requires.a c.requires.b c.requires.differ c.self.invariant r small in
    subst (λ (i : ℕ). get_or (bumped (bumped ports i) c.from-2.result) r 0 ≡ ports_of c.push.new.self r) (sym a)
    (subst (λ (i : ℕ). get_or (bumped (bumped ports l.a) i) r 0 ≡ ports_of c.push.new.self r) (sym b)
    (more ∙ ap (λ (x : List Link). ports_of x r) (sym links)))
