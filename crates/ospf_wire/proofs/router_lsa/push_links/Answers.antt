use Rattle.std.proofs.Common.{arith}
use Rattle.std.proofs.lemmas.Grind.{common_steps}
use Rattle.std.proofs.lemmas.List.Elements.{All-more}
use Rattle.ospf_wire.specs.RouterLsas.{FitsLink}
use Rattle.ospf_wire.proofs.router_lsa.push_links.Goals as goal

pub loop-link-preserved : goal.loop-link-preserved
loop-link-preserved c =
    (grind (arith, common_steps), All-more FitsLink c.args.links.now c.loop-link.link-index _ c.loop-link-test.true c.loop-link.invariant.1 c.link_bytes.ensures.fits)
