use Rattle.std.proofs.Common.{sym, ◌∙◌, subst}
use Rattle.dn_model.specs.Cases.{Heading}
use Rattle.dn_world.specs.World.{horizon}
use Rattle.dn_world.specs.Runs.{IsPast}
use Rattle.dn_drive.proofs.Ending.{no_more_above}
use Rattle.dn_drive.proofs.ended.end_of.Goals as goal

pub returns-then-not-more-clause-at_rest : goal.returns-then-not-more-clause-at_rest
returns-then-not-more-clause-at_rest g c = λ net is running quiet. c.quiet-quiet.ensures.at_rest net is running (c.quiet-quiet.ensures.quiet ∙ quiet)

pub returns-else-quiet-clause-at_rest : goal.returns-else-quiet-clause-at_rest
returns-else-quiet-clause-at_rest g c = λ net is running quiet. c.quiet-quiet.ensures.at_rest net is running (c.quiet-quiet.ensures.quiet ∙ quiet)

pub returns-then-not-more-clause-committed : goal.returns-then-not-more-clause-committed
returns-then-not-more-clause-committed g c = λ net same past _.
    let w = c.args.fabric.now.live.world in
    let none = no_more_above c.args.fabric.now.live.header w (sym c.can_commit-more.ensures ∙ cc) in
    let here = subst (λ (h : Heading). IsPast (horizon h w) w.boundary) (sym same) none in
    c.horizon.ensures.only w.boundary (horizon net.header w) (c.horizon.ensures.greatest net w w.boundary past) here
