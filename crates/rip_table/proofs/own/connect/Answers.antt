use Rattle.std.proofs.lemmas.Result.{on_ok_weaker}
use Rattle.rip_table.proofs.OwnLaws.{own_after}
use Rattle.rip_table.proofs.own.connect.Goals as goal

pub returns-clause-own : goal.returns-clause-own
returns-clause-own c =
    on_ok_weaker c.put.result
    (λ after. own_after c.args.network c.connected-route.result c.args.routes.now.entries _ c.is_full.ensures.ascending after)
    c.put.ensures.ok
