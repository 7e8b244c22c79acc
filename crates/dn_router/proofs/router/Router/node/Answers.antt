use Rattle.std.proofs.Common.{ap, ◌∙◌, arith}
use Rattle.dn_router.specs.Routers.{node_of}
use Rattle.dn_router.proofs.Replays.{has_is, base_last}
use Rattle.dn_router.proofs.Sound.{done_reached}
use Rattle.dn_router.proofs.router.Router.node.Goals as goal

pub base_for-requires-after_bounds : goal.base_for-requires-after_bounds
base_for-requires-after_bounds g c =
    λ κs incl.
    let reached = done_reached c.self.invariant in
    let n = c.len.ensures in
    let m = c.self.inside.done.ok.0 in
    has_is g.G.Guest.meaning c.self.inside.opening c.self.inside.done.items c.self.inside.committed c.len.result c.self.inside.shelf (omega (arith, reached, n, m)) reached c.self.invariant.kept

pub returns : goal.returns
returns g c =
    (base_last g.G.Guest.meaning c.self.inside.opening c.self.inside.done.items c.self.inside.committed c.len.result c.self.inside.shelf c.base_for.result.0 c.base_for.result.1.now
    (done_reached c.self.invariant) (c.len.ensures ∙ c.self.inside.done.ok.0) c.self.invariant.kept c.base_for.ensures.place c.base_for.ensures.node).1
    ∙ ap (node_of g.G.Guest.meaning) c.self.view_is
