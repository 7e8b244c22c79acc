use Rattle.std.proofs.Common.{◌||◌, List, ap, ◌∙◌, length}
use Rattle.dn_model.specs.declared.event.Event.{Event}
use Rattle.dn_world.specs.World.{stands}
use Rattle.dn_world.specs.Steps.{is_after_first, is_wrong, until}
use Rattle.dn_router.proofs.history.first_wrong.Goals as goal

pub returns : goal.returns
unfolding is_wrong
returns c =
    let todo = c.args.queue.now.todo in
    let done = c.args.done.now in
    c.first_voided.ensures (is_after_first todo) c.first_later.ensures
    ∙ ap (λ (vs : List Event). length (until (λ e. stands e vs || is_after_first todo e) done)) c.voids.ensures.voids
