use Rattle.std.proofs.Common.{[], ◌∷◌, sym, ap, ◌∙◌, subst}
use Rattle.dn_model.specs.declared.event.Event.{Event}
use Rattle.dn_model.specs.declared.key.Key.{Key}
use Rattle.dn_world.specs.World.{no_part, key_of, with_todo}
use Rattle.dn_world.specs.Steps.{arrived}
use Rattle.dn_world.specs.Runs.{IsPast}
use Rattle.dn_router.specs.Routers.{Speculation}
use Rattle.dn_model.specs.Network.{tick}
use Rattle.dn_fabric.proofs.world.opening_router.Goals as goal

abbrev coming : {S : Type 0} → Event → Speculation S → Speculation S
coming e s = record s { part = with_todo (e ∷ []) s.part }

pub arrive-requires-clause-past : goal.arrive-requires-clause-past
arrive-requires-clause-past g c κs within =
    subst (λ (b : Key). IsPast b c.tick.result.key) (sym (ap (λ s. s.bound) c.in_ok-router.ensures)) (c.nothing_before_zeros.ensures c.tick.result.key)

pub returns : goal.returns
unfolding arrived
returns g c =
    let ends = c.in_ok-ends.ensures.ends in
    let timing = c.timing.ensures.timing in
    let node = c.in_ok-node.ensures in
    c.in_ok-arrive.ensures.ok
    ∙ (λ i. coming (c.tick.ensures i) (c.in_ok-router.ensures i))
    ∙ (λ i. record {
      number = c.args.number;
      ends = ends i;
      timing = timing i;
      opening = node i;
      part = with_todo (tick 0 c.args.number ∷ []) no_part;
      committed = 0;
      bound = key_of 0 0;
    })
