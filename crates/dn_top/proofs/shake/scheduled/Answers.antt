use Rattle.std.proofs.Common.{◌≡◌, List, sym, subst}
use Rattle.std.specs.Prelude.{IfOk}
use Rattle.dn_model.specs.declared.feed.External.{External}
use Rattle.dn_model.specs.Network.{routers}
use Rattle.dn_world.specs.World.{opening}
use Rattle.dn_drive.specs.Allowed.{rerun}
use Rattle.dn_drive.specs.Choices.{schedule}
use Rattle.dn_drive.specs.Endings.{StandsAt}
use Rattle.dn_top.specs.Promises.{network_of}
use Rattle.dn_top.proofs.Showing.{recording_of}
use Rattle.dn_top.proofs.shake.scheduled.Goals as goal

pub shake-requires-clause-case : goal.shake-requires-clause-case
shake-requires-clause-case c = λ _. recording_of c.args.case.now c.args.fabric.now.live.header c.args.feed.now c.requires.of.header c.requires.same c.requires.rules

pub returns-clause-comes : goal.returns-clause-comes
returns-clause-comes c =
    let net = network_of c.args.case.now.header in
    subst (λ (xs : List External). IfOk c.shake.result (λ ended. ended ≡ rerun net (opening (routers net)) xs 0 (schedule net (opening (routers net)) xs c.args.schedule.number c.args.schedule.steps))) (sym c.requires.same) (c.shake.ensures.answer net c.requires.of.network)

pub returns-clause-journal : goal.returns-clause-journal
returns-clause-journal c =
    let net = network_of c.args.case.now.header in
    subst (λ (xs : List External). IfOk c.shake.result (λ ended. c.shake.new.fabric.journal ≡ schedule net (opening (routers net)) xs c.args.schedule.number c.args.schedule.steps)) (sym c.requires.same) (c.shake.ensures.journal net c.requires.of.network)

pub returns-clause-stands : goal.returns-clause-stands
returns-clause-stands c =
    let net = network_of c.args.case.now.header in
    subst (λ (xs : List External). IfOk c.shake.result (λ ended. StandsAt net xs ended c.shake.new.fabric)) (sym c.requires.same) (c.shake.ensures.stands net c.requires.of.network)
