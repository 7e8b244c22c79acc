use Rattle.std.proofs.Common.{sym, ap, ◌∙◌}
use Rattle.ospf_router.specs.Ticks.{check_dead_neighbour}
use Rattle.ospf_router.proofs.Folds.{fold_range_more}
use Rattle.ospf_router.proofs.tick.check_dead_neighbours.Goals as goal

pub loop-port-preserved : goal.loop-port-preserved
loop-port-preserved c =
    let step = check_dead_neighbour c.args.now in
    record {
      far = c.check_dead_neighbour.ensures.state ∙ ap (λ r. step r c.loop-port.port) c.loop-port.invariant.far ∙ sym (fold_range_more step c.args.interfaces.now c.loop-port.port);
      count = c.check_dead_neighbour.ensures.count ∙ c.loop-port.invariant.count;
    }
