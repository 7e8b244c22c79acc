use Rattle.std.proofs.Common.{[], ◌∷◌, set, sym, ap, ◌∙◌, subst}
use Rattle.std.specs.Prelude.{slice_get}
use Rattle.dn_model.specs.declared.event.Event.{Event}
use Rattle.dn_world.specs.World.{with_todo}
use Rattle.dn_world.specs.Steps.{arrived}
use Rattle.dn_world.specs.Runs.{IsPast}
use Rattle.dn_router.specs.Routers.{Speculation}
use Rattle.dn_fabric.proofs.Calls.{on_ok}
use Rattle.dn_fabric.proofs.coming.bring.Goals as goal

abbrev coming : {S : Type 0} → Speculation S → Event → Speculation S
coming s e = record s { part = with_todo (e ∷ []) s.part }

pub arrive-requires-clause-own : goal.arrive-requires-clause-own
arrive-requires-clause-own g c κs within = λ s at.
    ap (λ e. e.router) c.in_ok-event.ensures ∙ c.requires.own s (ap (λ n. slice_get c.args.routers.now n) (sym c.from.ensures) ∙ at)

pub arrive-requires-clause-past : goal.arrive-requires-clause-past
arrive-requires-clause-past g c κs within = λ s at.
    subst (λ (e : Event). IsPast s.bound e.key) (sym c.in_ok-event.ensures) (c.requires.past s (ap (λ n. slice_get c.args.routers.now n) (sym c.from.ensures) ∙ at))

pub returns-clause-ok : goal.returns-clause-ok
unfolding arrived
returns-clause-ok g c = λ s at.
    on_ok c.arrive.result (c.arrive.ensures.ok s (ap (λ n. slice_get c.args.routers.now n) c.from.ensures ∙ at))
    (λ h. h ∙ (λ i. set c.args.routers.now (c.from.ensures i) (coming s (c.in_ok-event.ensures i))))
