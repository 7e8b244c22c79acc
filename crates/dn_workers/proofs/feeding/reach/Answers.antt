use Rattle.std.proofs.Common.{◌≡◌, ◌-◌, false, replicate, sym, ap, subst, arith}
use Rattle.dn_world.specs.declared.step.Step.TheVariants.{Beacon}
use Rattle.dn_model.specs.Cases.{Heading}
use Rattle.dn_workers.specs.Feed.{HasFed}
use Rattle.dn_workers.proofs.Beats.{fed_first, fed_on, stopped_after, on_err_all}
use Rattle.dn_workers.proofs.feeding.reach.Goals as goal

pub loop-begun-init : goal.loop-begun-init
loop-begun-init g c = record {
  fed = subst (λ m. HasFed c.args.fabric.now (replicate (m - c.args.fabric.now.live.world.floor) Beacon) m false c.args.fabric.now) (sym c.floor-floor.ensures) (fed_first c.args.fabric.now c.requires.running c.requires.unclosed);
  low = let e = c.floor-floor.ensures in omega (arith, e);
  high = let e = c.floor-floor.ensures in let a = c.requires.ahead in omega (arith, e, a);
}

pub beat-requires-clause-running : goal.beat-requires-clause-running
beat-requires-clause-running g c κs within = c.loop-begun.invariant.fed.running

pub beat-requires-clause-unclosed : goal.beat-requires-clause-unclosed
beat-requires-clause-unclosed g c κs within = c.loop-begun.invariant.fed.closed

pub beat-requires-clause-left : goal.beat-requires-clause-left
beat-requires-clause-left g c κs within = let k = c.loop-begun.invariant.fed in let a = k.floor in let b = ap (λ (h : Heading). h.groups) k.header in let t = c.loop-begun-test.true in let i = c.requires.inside in omega (arith, a, b, t, i)

pub returns-in_err-beat-clause-err : goal.returns-in_err-beat-clause-err
returns-in_err-beat-clause-err g c = on_err_all c.from_residual.result (c.loop-begun._begun - c.args.fabric.now.live.world.floor, (let t = c.loop-begun-test.true in omega (arith, t)), stopped_after c.args.fabric.now c.loop-begun.fabric c.beat.new.fabric (c.loop-begun._begun - c.args.fabric.now.live.world.floor) c.loop-begun._begun c.loop-begun.invariant.fed c.in_err-beat.ensures.err)

pub loop-begun-preserved : goal.loop-begun-preserved
loop-begun-preserved g c = record {
  fed = fed_on c.args.fabric.now c.loop-begun.fabric c.beat.new.fabric c.loop-begun._begun c.loop-begun.invariant.low c.loop-begun.invariant.fed c.in_ok-beat.ensures.ok;
  low = let l = c.loop-begun.invariant.low in omega (arith, l);
  high = let t = c.loop-begun-test.true in omega (arith, t);
}

pub returns-clause-ok : goal.returns-clause-ok
returns-clause-ok g c = let h = c.loop-begun.invariant.high in let t = c.loop-begun-test.false in
    let e : c.loop-begun._begun ≡ c.args.group = omega (arith, h, t) in
    subst (λ m. HasFed c.args.fabric.now (replicate (m - c.args.fabric.now.live.world.floor) Beacon) m false c.loop-begun.fabric) e c.loop-begun.invariant.fed
