use Rattle.std.proofs.Common.{sym, ◌∙◌}
use Rattle.std.proofs.lemmas.Map.Lookups.{btree_map_eq-Decides}
use Rattle.std.proofs.lemmas.Bool.Decides.{Decides-eqb}
use Rattle.ospf_lsdb.proofs.Equalities.{keys_decide}
use Rattle.ospf_flood.proofs.retransmission_list.RetransmissionList.same.Goals as goal

pub returns : goal.returns
returns c =
    let d = btree_map_eq-Decides keys_decide Decides-eqb c.self.inside.sent c.other.inside.sent c.eq.result c.eq.ensures in
    (λ equal. sym c.self.view_is ∙ d.0 equal ∙ c.other.view_is, λ same. d.1 (c.self.view_is ∙ same ∙ sym c.other.view_is))
