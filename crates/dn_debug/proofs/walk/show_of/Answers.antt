use Rattle.std.proofs.Common.{ℕ, List, ◌++◌, ap, sym, ◌∙◌, length, arith}
use Rattle.dn_guest.specs.declared.node.Node.{Node}
use Rattle.dn_guest.specs.Meaning.{Meaning}
use Rattle.dn_model.specs.Cases.{Heading}
use Rattle.dn_model.specs.Network.{state}
use Rattle.dn_model.specs.SoFar.{by_router}
use Rattle.dn_lockstep.specs.Running.{first_rows}
use Rattle.dn_debug.specs.Courses.{show_after}
use Rattle.dn_debug.proofs.walk.show_of.Goals as goal

pub returns-then-from-count : goal.returns-then-from-count
returns-then-from-count g c = λ net feed same so inside.
    absurd (omega (arith, inside, ap (λ (h : Heading). length h.routers) so.header, c.requires, c.if-from-count.true, c.from.ensures))

pub returns : goal.returns
unfolding show_after
returns g c =
    λ net feed same so inside.
    c.in_ok-show.ensures.ok
    ∙ (ap (λ (t : List ℕ). t ++ g.G.Guest.meaning.show c.node-node.result.now.guest) c.new-text.ensures
    ∙ (ap (λ (n : Node g.row.G.Denot). g.G.Guest.meaning.show n.guest) (c.node-node.ensures.replay net feed so)
    ∙ ap (λ (m : Meaning g.row.G.Denot). m.show (state net c.args.router (by_router (first_rows net feed c.args.engine.now.place) c.args.router)).guest) (sym same)))
