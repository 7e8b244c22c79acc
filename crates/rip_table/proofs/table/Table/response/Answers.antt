use Rattle.std.proofs.Common.{sym, ◌∙◌}
use Rattle.std.proofs.lemmas.Result.{on_ok_weaker}
use Rattle.rip_table.specs.Validation.{destination_of}
use Rattle.rip_table.specs.Response.{metric_with_cost}
use Rattle.rip_table.proofs.RouteLaws.{heard_route, heard_others}
use Rattle.rip_table.proofs.table.Table.response.Goals as goal

pub returns-clause-route : goal.returns-clause-route
returns-clause-route c =
    let e = c.args.entry.now in
    on_ok_weaker c.take_entry.result
    (heard_route c.args.port e.tag (metric_with_cost c.args.cost e) c.args.now c.self.inside.routes.entries c.args.self.now c.take_entry.new.routes.entries (destination_of e) c.in-Some.network (sym c.destination_of.ensures ∙ c.in-Some.is) c.self.view_is)
    c.take_entry.ensures.ok

pub returns-clause-others : goal.returns-clause-others
returns-clause-others c =
    let e = c.args.entry.now in
    on_ok_weaker c.take_entry.result
    (heard_others c.args.port e.tag (metric_with_cost c.args.cost e) c.args.now c.self.inside.routes.entries c.args.self.now c.take_entry.new.routes.entries (destination_of e) c.in-Some.network (sym c.destination_of.ensures ∙ c.in-Some.is) c.self.view_is)
    c.take_entry.ensures.ok
