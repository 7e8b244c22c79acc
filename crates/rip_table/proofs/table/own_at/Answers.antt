use Rattle.std.proofs.Common.{sym, ◌∙◌}
use Rattle.rip_table.proofs.OwnLaws.{own_there}
use Rattle.rip_table.proofs.table.own_at.Goals as goal

pub returns-in-Some-clause-among : goal.returns-in-Some-clause-among
returns-in-Some-clause-among c =
    own_there c.args.network c.in-Some.held.now c.args.routes.now.entries (sym c.in-Some.ensures.value) (sym c.is_current.ensures ∙ c.if-is_current.true)
