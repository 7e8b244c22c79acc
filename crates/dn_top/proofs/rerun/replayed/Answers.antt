use Rattle.std.proofs.Common.{◌≡◌, List, sym, subst}
use Rattle.std.specs.Prelude.{IfOk}
use Rattle.dn_model.specs.declared.feed.External.{External}
use Rattle.dn_model.specs.Network.{routers}
use Rattle.dn_world.specs.World.{opening}
use Rattle.dn_drive.specs.Allowed.{rerun}
use Rattle.dn_drive.specs.Endings.{StandsAt}
use Rattle.dn_top.specs.Promises.{network_of}
use Rattle.dn_top.proofs.Showing.{recording_of}
use Rattle.dn_top.proofs.rerun.replayed.Goals as goal

pub replay-requires-clause-case : goal.replay-requires-clause-case
replay-requires-clause-case c = λ _. recording_of c.args.case.now c.args.fabric.now.live.header c.args.feed.now c.requires.of.header c.requires.same c.requires.rules

pub returns-clause-comes : goal.returns-clause-comes
returns-clause-comes c =
    let net = network_of c.args.case.now.header in
    subst (λ (xs : List External). IfOk c.replay.result (λ ended. ended ≡ rerun net (opening (routers net)) xs 0 c.args.steps.now)) (sym c.requires.same) (c.replay.ensures.answer net c.requires.of.network)

pub returns-clause-stands : goal.returns-clause-stands
returns-clause-stands c =
    let net = network_of c.args.case.now.header in
    subst (λ (xs : List External). IfOk c.replay.result (λ ended. StandsAt net xs ended c.replay.new.fabric)) (sym c.requires.same) (c.replay.ensures.stands net c.requires.of.network)
