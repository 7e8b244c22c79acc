use Rattle.std.proofs.Common.{refl, ap, ◌∙◌, rules}
use Rattle.std.proofs.lemmas.Map.Made.{map_same_pairs}
use Rattle.rip_table.specs.Held.{settled}
use Rattle.rip_table.specs.Own.{own_count}
use Rattle.rip_table.specs.Routes.{Routes}
use Rattle.rip_table.proofs.OwnLaws.{own_changed}
use Rattle.rip_table.proofs.table.settle_all.Goals as goal

pub returns-clause-settled : goal.returns-clause-settled
returns-clause-settled c = map_same_pairs _ settled _ (λ k v b w f' t. search rules) _ _ c.retain.ensures.filtered

pub returns-clause-own : goal.returns-clause-own
returns-clause-own c =
    ap (λ (es : Routes). own_count es) (returns-clause-settled c) ∙ own_changed settled (λ h. refl) c.args.routes.now.entries
