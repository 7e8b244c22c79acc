use Rattle.std.proofs.Common.{List, sym, subst}
use Rattle.std.specs.List.{AllByRecursion}
use Rattle.dn_model.specs.Cases.{IsHeading}
use Rattle.dn_world.specs.declared.step.Step.{Step}
use Rattle.dn_journal.specs.Spelling.{IsOf}
use Rattle.dn_top.specs.Promises.{network_of}
use Rattle.dn_top.proofs.shown.push_journal.Goals as goal

pub write_journal-requires : goal.write_journal-requires
write_journal-requires c =
    let net = network_of c.args.header.now in
    subst (λ (steps : List Step). AllByRecursion (IsOf c.args.header.now) steps) (sym c.journal.ensures.journal)
    (c.legal_steps_may_stand_in_a_journal.ensures net c.args.fabric.now.journal (subst IsHeading c.header.view_is c.header.invariant) (c.journal.ensures.legal net c.requires))
