use Rattle.std.proofs.Common.{refl}
use Rattle.dn_world.specs.declared.step.Step.TheVariants.{Deliver, RollBack, Commit}
use Rattle.dn_workers.proofs.Going.{gone_step, gone_stopped}
use Rattle.dn_workers.proofs.holding.take_step.Goals as goal

pub returns-in_err-deliver-in-Deliver-clause-gone_on : goal.returns-in_err-deliver-in-Deliver-clause-gone_on
returns-in_err-deliver-in-Deliver-clause-gone_on g c = gone_stopped c.args.fabric.now c.deliver.new.self c.requires c.in_err-deliver-in-Deliver.ensures.err

pub returns-in_err-roll_back-in-RollBack-clause-gone_on : goal.returns-in_err-roll_back-in-RollBack-clause-gone_on
returns-in_err-roll_back-in-RollBack-clause-gone_on g c = gone_stopped c.args.fabric.now c.roll_back.new.self c.requires c.in_err-roll_back-in-RollBack.ensures.err

pub returns-in_err-order-in-Handle-clause-gone_on : goal.returns-in_err-order-in-Handle-clause-gone_on
returns-in_err-order-in-Handle-clause-gone_on g c = gone_stopped c.args.fabric.now c.lease.new.self c.requires c.in_err-order-in-Handle.ensures.err

pub returns-in_err-_moved-in-Commit-clause-gone_on : goal.returns-in_err-_moved-in-Commit-clause-gone_on
returns-in_err-_moved-in-Commit-clause-gone_on g c = gone_stopped c.args.fabric.now c.commit.new.self c.requires c.in_err-_moved-in-Commit.ensures.err

pub returns-in_ok-deliver-in-Deliver-clause-gone_on : goal.returns-in_ok-deliver-in-Deliver-clause-gone_on
returns-in_ok-deliver-in-Deliver-clause-gone_on g c = gone_step c.args.fabric.now c.deliver.new.self (Deliver c.in-Deliver.place) refl c.in_ok-deliver-in-Deliver.ensures.noted

pub returns-in_ok-roll_back-in-RollBack-clause-gone_on : goal.returns-in_ok-roll_back-in-RollBack-clause-gone_on
returns-in_ok-roll_back-in-RollBack-clause-gone_on g c = gone_step c.args.fabric.now c.roll_back.new.self (RollBack c.in-RollBack.router) refl c.in_ok-roll_back-in-RollBack.ensures.noted

pub returns-in_ok-_moved-in-Commit-clause-gone_on : goal.returns-in_ok-_moved-in-Commit-clause-gone_on
returns-in_ok-_moved-in-Commit-clause-gone_on g c = gone_step c.args.fabric.now c.commit.new.self Commit refl c.in_ok-_moved-in-Commit.ensures.noted
