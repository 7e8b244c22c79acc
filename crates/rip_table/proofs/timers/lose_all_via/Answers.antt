use Rattle.std.proofs.Common.{ap, ◌∙◌, rules}
use Rattle.std.proofs.lemmas.Map.Made.{map_same_pairs}
use Rattle.rip_table.specs.Own.{own_count}
use Rattle.rip_table.specs.Routes.{Routes}
use Rattle.rip_table.specs.Timers.{port_lost}
use Rattle.rip_table.proofs.OwnLaws.{own_changed, port_same}
use Rattle.rip_table.proofs.timers.lose_all_via.Goals as goal

pub returns-clause-lost : goal.returns-clause-lost
returns-clause-lost c = map_same_pairs _ (port_lost c.args.port c.args.now) _ (λ k v b w f' t. search rules) _ _ c.retain.ensures.filtered

pub returns-clause-own : goal.returns-clause-own
returns-clause-own c =
    ap (λ (es : Routes). own_count es) (returns-clause-lost c)
    ∙ own_changed (port_lost c.args.port c.args.now) (port_same c.args.port c.args.now) c.args.routes.now.entries
