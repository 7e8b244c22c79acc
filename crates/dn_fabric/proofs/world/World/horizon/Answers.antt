use Rattle.std.proofs.Common.{ap, ◌∙◌}
use Rattle.dn_world.specs.World.{least_key, flying, waiting_at, floor_bound}
use Rattle.dn_fabric.proofs.Leasts.{waiting_of, horizon_is}
use Rattle.dn_fabric.proofs.world.World.horizon.Goals as goal

pub returns : goal.returns
returns g c =
    let flight = c.self.inside.flight in
    c.least_key.ensures
    ∙ ap (λ k. least_key k (flying flight)) c.least_key-least.ensures
    ∙ ap (λ k. least_key (least_key k (waiting_of c.self.inside.routers)) (flying flight)) c.floor_bound.ensures
    ∙ (λ i. least_key (least_key (floor_bound c.args.self.now.header c.args.self.now.world) (waiting_at (c.self.view_is i).world.parts)) (flying (c.self.view_is i).world.flight))
    ∙ horizon_is c.args.self.now.header c.args.self.now.world
