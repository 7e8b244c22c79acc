use Rattle.dn_workers.proofs.Going.{gone_stop}
use Rattle.dn_workers.proofs.holding.bring_back.Goals as goal

pub returns-in-Some-Err-clause-gone_on : goal.returns-in-Some-Err-clause-gone_on
returns-in-Some-Err-clause-gone_on g c = gone_stop c.args.fabric.now c.stop.new.self c.requires c.stop.ensures
