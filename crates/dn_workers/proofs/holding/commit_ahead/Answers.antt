use Rattle.std.proofs.Common.{refl}
use Rattle.dn_world.specs.declared.step.Step.TheVariants.{Commit}
use Rattle.dn_workers.proofs.Going.{gone_step, gone_stopped}
use Rattle.dn_workers.proofs.holding.commit_ahead.Goals as goal

pub returns-in_err-_moved-clause-gone_on : goal.returns-in_err-_moved-clause-gone_on
returns-in_err-_moved-clause-gone_on g c = gone_stopped c.args.fabric.now c.commit.new.self c.requires c.in_err-_moved.ensures.err

pub returns-in_ok-_moved-clause-gone_on : goal.returns-in_ok-_moved-clause-gone_on
returns-in_ok-_moved-clause-gone_on g c = gone_step c.args.fabric.now c.commit.new.self Commit refl c.in_ok-_moved.ensures.noted
