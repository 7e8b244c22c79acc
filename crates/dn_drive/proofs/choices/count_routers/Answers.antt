use Rattle.std.proofs.Common.{◌<◌, ◌≤◌, length, sym, subst, arith}
use Rattle.dn_world.specs.World.{is_behind, is_ready}
use Rattle.dn_drive.proofs.Counting.{counted_on, counted_all, at_most_one}
use Rattle.dn_drive.proofs.choices.count_routers.Goals as goal

pub loop-router-preserved : goal.loop-router-preserved
loop-router-preserved g c =
    let w = c.args.fabric.now.live.world in
    let l : c.loop-router.router < length w.parts = omega (arith, c.requires, c.router_count-router-end.ensures.count, c.loop-router-test.true) in
    let b : c.from-behind.result ≤ 1 = subst (λ n. n ≤ 1) (sym c.from-behind.ensures) (at_most_one c.behind.result) in
    let r : c.from-ready.result ≤ 1 = subst (λ n. n ≤ 1) (sym c.from-ready.ensures) (at_most_one c.ready.result) in
    record {
      behind = counted_on is_behind w c.loop-router.router c.loop-router.behind c.from-behind.result _ c.behind.result l c.behind.ensures c.from-behind.ensures c.loop-router.invariant.behind;
      few_behind = omega (arith, b, c.loop-router.invariant.few_behind);
      ready = counted_on is_ready w c.loop-router.router c.loop-router.ready c.from-ready.result _ c.ready.result l c.ready.ensures c.from-ready.ensures c.loop-router.invariant.ready;
      few_ready = omega (arith, r, c.loop-router.invariant.few_ready);
    }

pub returns-clause-behind : goal.returns-clause-behind
returns-clause-behind g c =
    let e = counted_all is_behind c.loop-router.router c.args.fabric.now.live.world.parts (omega (arith, c.requires, c.router_count-router-end.ensures.count, c.loop-router-test.false)) in
    omega (arith, e, c.loop-router.invariant.behind)

pub returns-clause-ready : goal.returns-clause-ready
returns-clause-ready g c =
    let e = counted_all is_ready c.loop-router.router c.args.fabric.now.live.world.parts (omega (arith, c.requires, c.router_count-router-end.ensures.count, c.loop-router-test.false)) in
    omega (arith, e, c.loop-router.invariant.ready)
