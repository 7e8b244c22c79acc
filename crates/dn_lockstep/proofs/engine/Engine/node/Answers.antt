use Rattle.std.proofs.Common.{◌≡◌, ◌<◌, Some, length, refl, sym, ap, ◌∙◌, arith}
use Rattle.std.specs.Prelude.{slice_get}
use Rattle.std.proofs.lemmas.Option.{same_Some, slice_get_read}
use Rattle.dn_model.specs.Cases.{Heading}
use Rattle.dn_model.specs.Network.{state, routers}
use Rattle.dn_model.specs.SoFar.{by_router}
use Rattle.dn_lockstep.specs.Running.{Running, first_rows}
use Rattle.dn_lockstep.proofs.engine.Engine.node.Goals as goal

pub returns-clause-replay : goal.returns-clause-replay
unfolding routers
returns-clause-replay g c =
    λ net feed so.
    let count : length c.args.self.now.header.routers ≡ length c.self.inside.header.routers = ap (λ (r : Running g.row.G.Denot). length r.header.routers) (sym c.self.view_is) in
    let within : c.from.result < length c.self.inside.nodes.items = omega (arith, c.requires, count, c.from.ensures, c.self.invariant.one_each) in
    let value : slice_get c.args.self.now.nodes c.args.router ≡ Some c.index.result.now =
    ap (λ (r : Running g.row.G.Denot). slice_get r.nodes c.args.router) (sym c.self.view_is)
    ∙ ap (slice_get c.self.inside.nodes.items) (sym c.from.ensures)
    ∙ slice_get_read c.self.inside.nodes.items (length c.self.inside.nodes.items) c.from.result c.index.result.now refl within c.index.ensures in
    let inside : c.args.router < length net.header.routers = omega (arith, c.requires, ap (λ (h : Heading). length h.routers) so.header) in
    same_Some c.index.result.now (state net c.args.router (by_router (first_rows net feed c.args.self.now.place) c.args.router)) (sym value ∙ so.nodes c.args.router inside)
