use Rattle.dn_workers.proofs.Going.{gone_finished}
use Rattle.dn_workers.proofs.holding.finish.Goals as goal

pub returns-in_err-_finished-clause-gone_on : goal.returns-in_err-_finished-clause-gone_on
returns-in_err-_finished-clause-gone_on g c = gone_finished c.args.fabric.now c.finish.new.self c.args.outcome c.finish.result c.requires c.finish.ensures.noted c.finish.ensures.err

pub returns-clause-gone_on : goal.returns-clause-gone_on
returns-clause-gone_on g c = gone_finished c.args.fabric.now c.finish.new.self c.args.outcome c.finish.result c.requires c.finish.ensures.noted c.finish.ensures.err
