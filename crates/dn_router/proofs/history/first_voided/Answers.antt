use Rattle.std.proofs.Common.{length, sym, ap, ◌∙◌}
use Rattle.dn_router.proofs.Until.{voided_none, voided_found, voided_missed}
use Rattle.dn_router.proofs.history.first_voided.Goals.{in-Some, in_default}
use Rattle.dn_router.proofs.history.first_voided.Goals as goal

pub loop-void-init : goal.loop-void-init
loop-void-init c = λ test h. h ∙ ap length (sym (voided_none test c.args.done.now))

pub loop-void-preserved : goal.loop-void-preserved
loop-void-preserved c =
    λ test h.
    let before = c.loop-void.invariant test h in
    let v = c.void-item.result in
    elim c.match-find.branch [
      | in-Some w ↦
          w.place-is ∙ w.min-place.ensures
          ∙ voided_found test c.args.voids.now c.args.done.now c.loop-void.void-index w.in-Some.at c.loop-void.place v c.loop-void-test.true c.void-item.is w.in-Some.ensures.found before
      | in_default w ↦
          w.place-is
          ∙ voided_missed test c.args.voids.now c.args.done.now c.loop-void.void-index c.loop-void.place v c.loop-void-test.true c.void-item.is w.in_default.ensures.none before
    ]
