use Rattle.dn_top.specs.Promises.{network_of}
use Rattle.dn_top.proofs.Showing.{state_after, no_state}
use Rattle.dn_top.proofs.shown.push_states.Goals as goal

pub loop-router-init : goal.loop-router-init
loop-router-init c = no_state c.args.case.now c.args.fabric.now c.args.routers.now c.args.out.now

pub loop-router-preserved : goal.loop-router-preserved
loop-router-preserved c =
    state_after c.args.case.now c.args.fabric.now c.args.routers.now c.args.out.now c.loop-router.out c.push_state.new.out c.loop-router.router c.node.result.now c.loop-router.invariant
    (c.node.ensures.handled (network_of c.args.case.now.header) c.requires.of.network) c.in_ok-push_state.ensures.ok
