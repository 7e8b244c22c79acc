use Rattle.std.proofs.Common.{◌≡◌, false, List, subst}
use Rattle.dn_model.specs.declared.feed.External.{External}
use Rattle.dn_model.specs.Network.{Network}
use Rattle.dn_model.specs.Settled.{IsFeedOf}
use Rattle.dn_world.specs.Runs.{Continues}
use Rattle.dn_fabric.specs.Fabrics.{Fabric, IsNetworkOf}
use Rattle.dn_fabric.specs.Promises.{IsFinal, AreSent}
use Rattle.dn_fabric.proofs.Calls.{rules_of}
use Rattle.dn_fabric.proofs.Taken.{fab}
use Rattle.dn_fabric.proofs.fabric.Fabric.rows_from.Goals as goal

pub returns-clause-prefix : goal.returns-clause-prefix
returns-clause-prefix g c =
    let f = fab c.self.inside.world c.self.inside.journal.items c.self.inside.leased.items in
    subst (λ (b : Fabric g.row.G.Denot). (net : Network g.row.G.Denot) (feed : List External) → IsNetworkOf net g.G.Guest.meaning b.live.header b.live.openings → b.live.stopped ≡ false → IsFeedOf net.header feed → Continues feed b.live.world → IsFinal net b.live feed) c.self.view_is
    (λ net feed of running fed goes. c.reached_fabrics.ensures.last net f feed (rules_of g.G.Guest.meaning f net c.self.invariant of) (c.self.invariant.reached net of running) fed goes)

pub returns-clause-sent : goal.returns-clause-sent
returns-clause-sent g c =
    let f = fab c.self.inside.world c.self.inside.journal.items c.self.inside.leased.items in
    subst (λ (b : Fabric g.row.G.Denot). (net : Network g.row.G.Denot) → IsNetworkOf net g.G.Guest.meaning b.live.header b.live.openings → b.live.stopped ≡ false → AreSent net b.live) c.self.view_is
    (λ net of running. c.reached_fabrics.ensures.sent net f (rules_of g.G.Guest.meaning f net c.self.invariant of) (c.self.invariant.reached net of running))
