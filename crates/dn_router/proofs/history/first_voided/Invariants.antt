use Rattle.std.proofs.Common.{◌≡◌, Bool, ◌||◌, length, take}
use Rattle.dn_model.specs.declared.event.Event.{Event}
use Rattle.dn_world.specs.World.{stands}
use Rattle.dn_world.specs.Steps.{until}
use Rattle.dn_router.proofs.history.first_voided.Given as goal

abbrev pub invariant-loop-void : goal.invariant-loop-void
invariant-loop-void l =
    (test : Event → Bool) → l.fn.most ≡ length (until test l.done) → l.place ≡ length (until (λ e. stands e (take l.void-index l.voids) || test e) l.done)
