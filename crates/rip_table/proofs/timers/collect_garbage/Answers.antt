use Rattle.std.proofs.Common.{ap, ◌∙◌, rules}
use Rattle.std.specs.Prelude.{not}
use Rattle.std.proofs.lemmas.Map.Made.{filter_same_pairs}
use Rattle.rip_table.specs.Held.{is_gone}
use Rattle.rip_table.specs.Own.{own_count}
use Rattle.rip_table.specs.Routes.{Routes}
use Rattle.rip_table.proofs.OwnLaws.{gone_is_not, own_kept}
use Rattle.rip_table.proofs.timers.collect_garbage.Goals as goal

pub returns-clause-kept : goal.returns-clause-kept
returns-clause-kept c = filter_same_pairs _ (λ e. not (is_gone c.args.now e.1)) _ (λ k v b w f' t. search rules) _ _ c.retain.ensures.filtered

pub returns-clause-own : goal.returns-clause-own
returns-clause-own c =
    ap (λ (es : Routes). own_count es) (returns-clause-kept c)
    ∙ own_kept (λ h. not (is_gone c.args.now h)) (gone_is_not c.args.now) c.args.routes.now.entries
