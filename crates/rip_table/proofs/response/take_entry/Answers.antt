use Rattle.std.proofs.Common.{◌∙◌}
use Rattle.std.proofs.lemmas.Result.{on_ok_weaker}
use Rattle.rip_table.proofs.OwnLaws.{heard_own}
use Rattle.rip_table.proofs.response.take_entry.Goals as goal

pub returns-clause-own : goal.returns-clause-own
returns-clause-own c =
    on_ok_weaker c.put.result
    (λ after. heard_own c.is_full.result c.args.port c.args.entry.now.tag c.metric_with_cost-metric.result c.args.now c.copied-held.result c.route_after-route.result
    c.args.network c.args.routes.now.entries _ c.is_full.ensures.ascending (c.copied-held.ensures ∙ c.get.ensures.value) c.route_after-route.ensures after)
    c.put.ensures.ok
