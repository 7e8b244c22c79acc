use Rattle.std.proofs.Common.{arith, ◌-◌, replicate}
use Rattle.dn_world.specs.declared.step.Step.TheVariants.{Beacon}
use Rattle.dn_workers.proofs.Beats.{fed_close, stopped_after, on_err_all}
use Rattle.dn_workers.proofs.feeding.close_at_the_end.Goals as goal

pub returns-clause-ok : goal.returns-clause-ok
returns-clause-ok g c = let n = c.journal.ensures.network in
    fed_close n.0 c.args.fabric.now c.reach.new.fabric c.close.new.self (replicate (c.args.last - c.args.fabric.now.live.world.floor) Beacon) c.args.last c.in_ok-reach.ensures.ok (c.in_ok-close.ensures.ok n.0 n.1) c.in_ok-close.ensures.noted

pub returns-in_err-close-clause-err : goal.returns-in_err-close-clause-err
returns-in_err-close-clause-err g c = on_err_all c.from_residual-in_err-close.result (c.args.last - c.args.fabric.now.live.world.floor, (omega arith), stopped_after c.args.fabric.now c.reach.new.fabric c.close.new.self (c.args.last - c.args.fabric.now.live.world.floor) c.args.last c.in_ok-reach.ensures.ok c.in_err-close.ensures.err)
