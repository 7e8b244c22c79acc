use Rattle.std.proofs.Common.{ap, ◌∙◌}
use Rattle.dn_world.specs.World.{part, is_ready}
use Rattle.dn_fabric.proofs.Errands.{ready_is}
use Rattle.dn_fabric.proofs.fabric.Fabric.ready.Goals as goal

pub returns : goal.returns
returns g c =
    c.is_ready.ensures ∙ ready_is (part c.self.inside.world.world c.args.router) c.errand.result.now c.errand.ensures
    ∙ ap (λ f. is_ready (part f.live.world c.args.router)) c.self.view_is
