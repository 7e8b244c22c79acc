use Rattle.std.proofs.Common.{◌≡◌, ◌<◌, length, sym, ap, ◌∙◌, subst, arith}
use Rattle.std.specs.Prelude.{Some, slice_get}
use Rattle.dn_fabric.specs.Holds.{IsRouterAt}
use Rattle.dn_fabric.proofs.Arrivals.{part_at, router_is}
use Rattle.dn_fabric.proofs.world.World.router.Goals as goal

pub returns-clause-part : goal.returns-clause-part
returns-clause-part g c =
    let rs = c.self.inside.routers in
    let s = c.router.result.now in
    let n : c.from.result ≡ c.args.number = c.from.ensures in
    let count = c.self.invariant.count in
    let inside : c.from.result < length rs = (let h = ap (λ l. length l.header.routers) c.self.view_is in omega (arith, c.requires, count, h, n)) in
    let at = c.router.ensures in
    let here : slice_get rs c.args.number ≡ Some s = ap (λ i. slice_get rs i) (sym n) ∙ at in
    sym (part_at c.args.self.now.world rs c.args.number s (sym (ap (λ l. l.world.parts) c.self.view_is)) here)

pub returns-clause-router : goal.returns-clause-router
returns-clause-router g c =
    let rs = c.self.inside.routers in
    let s = c.router.result.now in
    let n : c.from.result ≡ c.args.number = c.from.ensures in
    let count = c.self.invariant.count in
    let same = ap (λ l. l.header) c.self.view_is in
    let inside : c.from.result < length rs = (let h = ap (λ l. length l.header.routers) c.self.view_is in omega (arith, c.requires, count, h, n)) in
    let at = c.router.ensures in
    let here : slice_get rs c.args.number ≡ Some s = ap (λ i. slice_get rs i) (sym n) ∙ at in
    let known = c.self.invariant.routers c.args.number s here in
    λ net is.
    router_is net g.G.Guest.meaning c.args.self.now rs c.args.number s is (sym (ap (λ l. l.openings) c.self.view_is)) (sym (ap (λ l. l.world.parts) c.self.view_is))
    (subst (λ h. IsRouterAt h c.args.number s) same known) here c.requires
