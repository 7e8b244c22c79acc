use Rattle.std.proofs.Common.{ℕ, List, nat_eq, sym, ap, ◌∙◌}
use Rattle.std.specs.Prelude.{position}
use Rattle.std.specs.Cmp.Lexicographic.{pointwise}
use Rattle.dn_model.specs.declared.router.RouterDef.{RouterDef}
use Rattle.dn_model.specs.Routers.{number_of}
use Rattle.dn_case.proofs.RouterLaws.{position_of_map}
use Rattle.dn_case.proofs.known_routers.KnownRouters.number_of.Goals as goal

pub returns-clause-found : goal.returns-clause-found
unfolding number_of
returns-clause-found c =
    let name = c.args.name.now in
    let inside = c.self.inside in
    let test : List ℕ → _ = λ (n : List ℕ). pointwise nat_eq name n in
    c.get_index_of.ensures.index
    ∙ sym (position_of_map test (λ k. k.items) inside.names.keys)
    ∙ ap (λ (names : List (List ℕ)). position test names) c.self.invariant
    ∙ position_of_map test (λ (r : RouterDef). r.name) inside.items.items
    ∙ ap (λ (rs : List RouterDef). number_of rs name) c.self.view_is
