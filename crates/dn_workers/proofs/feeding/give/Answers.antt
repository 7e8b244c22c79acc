use Rattle.std.proofs.Common.{arith, ◌-◌, replicate, subst}
use Rattle.dn_world.specs.declared.step.Step.TheVariants.{Beacon, Inject}
use Rattle.dn_fabric.specs.Fabrics.{HasStepped, HasNoted}
use Rattle.dn_workers.proofs.Beats.{fed_inject, stopped_after, on_err_all}
use Rattle.dn_workers.proofs.feeding.give.Goals as goal

pub returns-clause-ok : goal.returns-clause-ok
returns-clause-ok g c = let n = c.journal.ensures.network in
    let k = c.in_ok-reach.ensures.ok in
    let step = c.in_ok-inject.ensures.ok n.0 n.1 in
    let noted = c.in_ok-inject.ensures.noted in
    let f = c.reach.new.fabric in
    fed_inject n.0 c.args.fabric.now f c.inject.new.self (replicate (c.args.group - c.args.fabric.now.live.world.floor) Beacon) c.args.group (record { group = c.args.group; router = c.args.router; input = c.args.input }) k
    (subst (λ m. HasStepped n.0 f (Inject (record { group = m; router = c.args.router; input = c.args.input })) c.inject.new.self) k.floor step)
    (subst (λ m. HasNoted f (Inject (record { group = m; router = c.args.router; input = c.args.input })) c.inject.new.self) k.floor noted)

pub returns-in_err-inject-clause-err : goal.returns-in_err-inject-clause-err
returns-in_err-inject-clause-err g c = on_err_all c.from_residual-in_err-inject.result (c.args.group - c.args.fabric.now.live.world.floor, (omega arith), stopped_after c.args.fabric.now c.reach.new.fabric c.inject.new.self (c.args.group - c.args.fabric.now.live.world.floor) c.args.group c.in_ok-reach.ensures.ok c.in_err-inject.ensures.err)
