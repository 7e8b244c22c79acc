use Rattle.std.proofs.Common.{sym, ap, ◌∙◌}
use Rattle.ospf_router.specs.Ticks.{retransmit_on}
use Rattle.ospf_router.proofs.Folds.{fold_range_more}
use Rattle.ospf_router.proofs.router.Router.retransmit.Goals as goal

pub loop-port-preserved : goal.loop-port-preserved
loop-port-preserved c =
    let step = retransmit_on c.args.full in
    record {
      far = c.in_ok-retransmit_on.ensures.state ∙ ap (λ r. step r c.loop-port.port) c.loop-port.invariant.far ∙ sym (fold_range_more step c.args.self.now c.loop-port.port);
      count = c.in_ok-retransmit_on.ensures.count ∙ c.loop-port.invariant.count;
    }
