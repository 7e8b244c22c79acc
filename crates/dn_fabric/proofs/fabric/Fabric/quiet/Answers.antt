use Rattle.std.proofs.Common.{◌≡◌, ◌<◌, ◌≤◌, true, false, sym, ap, ◌∙◌, subst}
use Rattle.dn_model.specs.Network.{Network}
use Rattle.dn_world.specs.World.{is_quiet, are_quiet}
use Rattle.dn_fabric.specs.Fabrics.{Fabric, IsNetworkOf}
use Rattle.dn_fabric.specs.Promises.{IsAtRest}
use Rattle.dn_fabric.proofs.Calls.{rules_of}
use Rattle.dn_fabric.proofs.Taken.{fab}
use Rattle.dn_fabric.proofs.Working.{unclosed_not, flying_not, quiet_is}
use Rattle.dn_fabric.proofs.fabric.Fabric.quiet.Goals as goal
use Rattle.dn_fabric.proofs.fabric.Fabric.quiet.Goals.{then-not-closed-via-then-not-closed, then-not-closed-via-else-not-closed+then-flying-gt0}

pub returns-then-not-closed-clause-quiet : goal.returns-then-not-closed-clause-quiet
returns-then-not-closed-clause-quiet g c =
    elim c.then-not-closed.branch [
      | then-not-closed-via-then-not-closed w ↦ unclosed_not c.args.self.now.live.world (sym c.closed.ensures ∙ w.if-not-closed.true)
      | then-not-closed-via-else-not-closed+then-flying-gt0 w ↦
          flying_not c.args.self.now.live.world (sym c.closed.ensures ∙ w.if-not-closed.false) (subst (λ n. 0 < n) w.flying.ensures w.if-flying-gt0.true)
    ]

pub returns-clause-quiet : goal.returns-clause-quiet
returns-clause-quiet g c =
    quiet_is c.args.self.now.live.world c.are_quiet.result (sym c.closed.ensures ∙ c.if-not-closed.false) (subst (λ n. n ≤ 0) c.flying.ensures c.if-flying-gt0.false)
    (c.are_quiet.ensures ∙ ap (λ b. are_quiet b.live.world.parts) c.self.view_is)

pub returns-clause-at_rest : goal.returns-clause-at_rest
returns-clause-at_rest g c =
    let f = fab c.self.inside.world c.self.inside.journal.items c.self.inside.leased.items in
    let quiet = quiet_is c.args.self.now.live.world c.are_quiet.result (sym c.closed.ensures ∙ c.if-not-closed.false) (subst (λ n. n ≤ 0) c.flying.ensures c.if-flying-gt0.false)
    (c.are_quiet.ensures ∙ ap (λ b. are_quiet b.live.world.parts) c.self.view_is) in
    subst (λ (b : Fabric g.row.G.Denot). (net : Network g.row.G.Denot) → IsNetworkOf net g.G.Guest.meaning b.live.header b.live.openings → b.live.stopped ≡ false → c.are_quiet.result ≡ true → IsAtRest net b.live) c.self.view_is
    (λ net of running calm. c.reached_fabrics.ensures.at_rest net f (rules_of g.G.Guest.meaning f net c.self.invariant of) (c.self.invariant.reached net of running)
    (ap (λ b. is_quiet b.live.world) c.self.view_is ∙ sym quiet ∙ calm))
