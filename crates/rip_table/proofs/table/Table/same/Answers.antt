use Rattle.std.proofs.Common.{sym, ◌∙◌}
use Rattle.std.proofs.lemmas.Map.Lookups.{btree_map_eq-Decides}
use Rattle.rip_table.proofs.Equalities.{networks_decide, values_decide}
use Rattle.rip_table.proofs.table.Table.same.Goals as goal

pub returns : goal.returns
returns c =
    let d = btree_map_eq-Decides networks_decide values_decide c.self.inside.routes c.other.inside.routes c.eq.result c.eq.ensures in
    (λ equal. sym c.self.view_is ∙ d.0 equal ∙ c.other.view_is, λ same. d.1 (c.self.view_is ∙ same ∙ sym c.other.view_is))
