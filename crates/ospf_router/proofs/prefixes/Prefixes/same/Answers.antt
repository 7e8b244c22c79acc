use Rattle.std.proofs.Common.{sym, ◌∙◌}
use Rattle.std.proofs.lemmas.Bool.Decides.{Decides-eqb}
use Rattle.std.proofs.lemmas.Map.Lookups.{btree_map_eq-Decides}
use Rattle.ospf_router.proofs.Equalities.{networks_decide}
use Rattle.ospf_router.proofs.prefixes.Prefixes.same.Goals as goal

pub returns : goal.returns
returns c =
    let d = btree_map_eq-Decides networks_decide Decides-eqb c.self.inside.costs c.other.inside.costs c.eq.result c.eq.ensures in
    (λ equal. sym c.self.view_is ∙ d.0 equal ∙ c.other.view_is, λ same. d.1 (c.self.view_is ∙ same ∙ sym c.other.view_is))
