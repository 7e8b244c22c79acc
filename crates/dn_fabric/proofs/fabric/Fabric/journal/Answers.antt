use Rattle.std.proofs.Common.{◌≡◌, length, subst}
use Rattle.dn_model.specs.Cases.{IsHeading}
use Rattle.dn_model.specs.Network.{Network}
use Rattle.dn_fabric.specs.Fabrics.{Fabric, IsNetworkOf}
use Rattle.dn_fabric.proofs.Calls.{the_network}
use Rattle.dn_fabric.proofs.Taken.{fab}
use Rattle.dn_fabric.proofs.fabric.Fabric.journal.Goals as goal

pub returns-clause-rules : goal.returns-clause-rules
returns-clause-rules g c = subst (λ (b : Fabric g.row.G.Denot). IsHeading b.live.header) c.self.view_is c.self.invariant.rules

pub returns-clause-network : goal.returns-clause-network
returns-clause-network g c =
    let f = fab c.self.inside.world c.self.inside.journal.items c.self.inside.leased.items in
    subst (λ (b : Fabric g.row.G.Denot). (net : Network g.row.G.Denot) × IsNetworkOf net g.G.Guest.meaning b.live.header b.live.openings) c.self.view_is
    (the_network g.G.Guest.meaning f c.self.invariant)

pub returns-clause-one_each : goal.returns-clause-one_each
returns-clause-one_each g c =
    subst (λ (b : Fabric g.row.G.Denot). length b.live.openings ≡ length b.live.header.routers) c.self.view_is c.self.invariant.openings

pub returns-clause-leases : goal.returns-clause-leases
returns-clause-leases g c =
    subst (λ (b : Fabric g.row.G.Denot). length b.leased ≡ length b.live.header.routers) c.self.view_is c.self.invariant.leases
