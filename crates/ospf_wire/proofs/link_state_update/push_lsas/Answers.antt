use Rattle.std.proofs.Common.{arith, subst}
use Rattle.std.proofs.lemmas.Grind.{common_steps}
use Rattle.std.proofs.lemmas.List.Elements.{All-more}
use Rattle.ospf_wire.specs.declared.lsa.Lsa.{Lsa}
use Rattle.ospf_wire.specs.Lsas.{FitsHeader}
use Rattle.ospf_wire.proofs.link_state_update.push_lsas.Goals as goal

pub loop-lsa-preserved : goal.loop-lsa-preserved
loop-lsa-preserved c =
    let fits = subst (λ (l : Lsa). FitsHeader l.head) c.lsa-item.is c.in_ok-push_lsa.ensures.fits in
    (grind (arith, common_steps), All-more (λ l. FitsHeader l.head) c.args.lsas.now c.loop-lsa.lsa-index _ c.loop-lsa-test.true c.loop-lsa.invariant.1 fits)
