use Rattle.std.proofs.Common.{ap, ◌∙◌}
use Rattle.dn_world.specs.World.{are_quiet}
use Rattle.dn_fabric.proofs.world.World.are_quiet.Goals as goal

pub returns : goal.returns
returns g c = c.are_quiet.ensures ∙ ap (λ l. are_quiet l.world.parts) c.self.view_is
