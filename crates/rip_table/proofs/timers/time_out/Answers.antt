use Rattle.std.proofs.Common.{ap, ◌∙◌, rules}
use Rattle.std.proofs.lemmas.Map.Made.{map_same_pairs}
use Rattle.rip_table.specs.Own.{own_count}
use Rattle.rip_table.specs.Routes.{Routes}
use Rattle.rip_table.specs.Timers.{timed_out}
use Rattle.rip_table.proofs.OwnLaws.{own_changed, timed_same}
use Rattle.rip_table.proofs.timers.time_out.Goals as goal

pub returns-clause-timed : goal.returns-clause-timed
returns-clause-timed c = map_same_pairs _ (timed_out c.args.now) _ (λ k v b w f' t. search rules) _ _ c.retain.ensures.filtered

pub returns-clause-own : goal.returns-clause-own
returns-clause-own c =
    ap (λ (es : Routes). own_count es) (returns-clause-timed c) ∙ own_changed (timed_out c.args.now) (timed_same c.args.now) c.args.routes.now.entries
