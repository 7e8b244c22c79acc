use Rattle.std.proofs.Common.{◌≡◌, ◌<◌, true, false, length, sym, ap, ◌∙◌, subst}
use Rattle.dn_guest.specs.Meaning.{Meaning}
use Rattle.dn_model.specs.Network.{Network, opening_node, state}
use Rattle.dn_model.specs.Settled.{lockstep}
use Rattle.dn_world.specs.World.{part, is_quiet}
use Rattle.dn_router.specs.Replays.{node_over}
use Rattle.dn_router.specs.Routers.{node_of}
use Rattle.dn_fabric.specs.Fabrics.{Fabric, IsNetworkOf}
use Rattle.dn_fabric.proofs.Calls.{OfEach, rules_of}
use Rattle.dn_fabric.proofs.Taken.{fab}
use Rattle.dn_fabric.proofs.Promised.{at_router}
use Rattle.dn_fabric.proofs.fabric.Fabric.node.Goals as goal

pub returns-clause-handled : goal.returns-clause-handled
returns-clause-handled g c =
    subst (λ (b : Fabric g.row.G.Denot). OfEach g.G.Guest.meaning b (λ net. c.node.result.now ≡ state net c.args.router (part b.live.world c.args.router).done)) c.self.view_is
    (λ net of.
    c.node.ensures ∙ ap (node_of g.G.Guest.meaning) (c.router.ensures.router net of)
    ∙ ap (λ (m : Meaning g.row.G.Denot). node_over m (opening_node net c.args.router) (part c.self.inside.world.world c.args.router).done) (sym of.guests)
    ∙ c.of_a_network.ensures.node net c.args.router (part c.self.inside.world.world c.args.router).done)

pub returns-clause-end : goal.returns-clause-end
returns-clause-end g c =
    let f = fab c.self.inside.world c.self.inside.journal.items c.self.inside.leased.items in
    let inside : c.args.router < length f.live.header.routers = subst (λ (b : Fabric g.row.G.Denot). c.args.router < length b.live.header.routers) (sym c.self.view_is) c.requires in
    subst (λ (b : Fabric g.row.G.Denot). (net : Network g.row.G.Denot) → IsNetworkOf net g.G.Guest.meaning b.live.header b.live.openings → b.live.stopped ≡ false → is_quiet b.live.world ≡ true → c.node.result.now ≡ state net c.args.router (lockstep net b.live.world.accepted c.args.router)) c.self.view_is
    (λ net of running quiet.
    c.node.ensures ∙ ap (node_of g.G.Guest.meaning) (c.router.ensures.router net of)
    ∙ ap (λ (m : Meaning g.row.G.Denot). node_over m (opening_node net c.args.router) (part c.self.inside.world.world c.args.router).done) (sym of.guests)
    ∙ c.of_a_network.ensures.node net c.args.router (part c.self.inside.world.world c.args.router).done
    ∙ ap (state net c.args.router)
    ((c.reached_fabrics.ensures.at_rest net f (rules_of g.G.Guest.meaning f net c.self.invariant of) (c.self.invariant.reached net of running) quiet).done c.args.router
    (at_router net c.args.router (subst (λ h. c.args.router < length h.routers) (sym of.header) inside))))
