use Rattle.std.proofs.Common.{◌≡◌, true, false, List, sym, ◌∙◌, subst}
use Rattle.dn_model.specs.declared.feed.External.{External}
use Rattle.dn_model.specs.Network.{Network}
use Rattle.dn_model.specs.Settled.{IsFeedOf, shown_rows, is_cut}
use Rattle.dn_world.specs.Runs.{Continues}
use Rattle.dn_fabric.specs.Fabrics.{Fabric, IsNetworkOf}
use Rattle.dn_fabric.proofs.Calls.{rules_of}
use Rattle.dn_fabric.proofs.Taken.{fab}
use Rattle.dn_fabric.proofs.fabric.Fabric.is_cut.Goals as goal

pub returns-clause-prefix : goal.returns-clause-prefix
returns-clause-prefix g c =
    let f = fab c.self.inside.world c.self.inside.journal.items c.self.inside.leased.items in
    subst (λ (b : Fabric g.row.G.Denot). (net : Network g.row.G.Denot) (feed : List External) → IsNetworkOf net g.G.Guest.meaning b.live.header b.live.openings → b.live.stopped ≡ false → IsFeedOf net.header feed → Continues feed b.live.world → c.is_cut.result ≡ true → is_cut net feed ≡ true) c.self.view_is
    (λ net feed of running fed goes cut. c.reached_fabrics.ensures.cut net f feed (rules_of g.G.Guest.meaning f net c.self.invariant of) (c.self.invariant.reached net of running) fed goes (sym c.is_cut.ensures ∙ cut))

pub returns-clause-shown : goal.returns-clause-shown
returns-clause-shown g c =
    let f = fab c.self.inside.world c.self.inside.journal.items c.self.inside.leased.items in
    subst (λ (b : Fabric g.row.G.Denot). (net : Network g.row.G.Denot) (feed : List External) → IsNetworkOf net g.G.Guest.meaning b.live.header b.live.openings → b.live.stopped ≡ false → IsFeedOf net.header feed → Continues feed b.live.world → c.is_cut.result ≡ true → b.live.rows ≡ shown_rows net feed) c.self.view_is
    (λ net feed of running fed goes cut. c.reached_fabrics.ensures.cut_rows net f feed (rules_of g.G.Guest.meaning f net c.self.invariant of) (c.self.invariant.reached net of running) fed goes (sym c.is_cut.ensures ∙ cut))
