use Rattle.std.proofs.Common.{◌∙◌}
use Rattle.dn_world.specs.Steps.{arrived}
use Rattle.dn_router.proofs.Answers.{on_ok}
use Rattle.dn_router.proofs.router.arrive_in.Goals as goal

pub returns-then-plus-clause-ok : goal.returns-then-plus-clause-ok
unfolding arrived
returns-then-plus-clause-ok c =
    let g = c.if-plus.true in on_ok c.put.result c.put.ensures.ok (λ h. h ∙ simp g)

pub returns-else-plus-clause-ok : goal.returns-else-plus-clause-ok
unfolding arrived
returns-else-plus-clause-ok c =
    let g = c.if-plus.false in on_ok c.void.result c.void.ensures.ok (λ h. h ∙ simp g)
