use Rattle.std.proofs.Common.{◌≡◌, ◌<◌, length, sym, ap, ◌∙◌, arith}
use Rattle.std.specs.Prelude.{Some, slice_get}
use Rattle.dn_fabric.specs.Rosters.{errand_of}
use Rattle.dn_fabric.proofs.Arrivals.{part_at}
use Rattle.dn_fabric.proofs.Errands.{there}
use Rattle.dn_fabric.proofs.world.World.errand.Goals as goal

pub returns : goal.returns
returns g c =
    let rs = c.self.inside.routers in
    let n : c.from.result ≡ c.args.number = c.from.ensures in
    let count = c.self.invariant.count in
    let inside : c.from.result < length rs = (let h = ap (λ l. length l.header.routers) c.self.view_is in omega (arith, c.requires, count, h, n)) in
    let found = there rs c.from.result inside in
    let here : slice_get rs c.args.number ≡ Some found.0 = ap (λ i. slice_get rs i) (sym n) ∙ found.1 in
    c.errand.ensures found.0 found.1
    ∙ ap errand_of (sym (part_at c.args.self.now.world rs c.args.number found.0 (sym (ap (λ l. l.world.parts) c.self.view_is)) here))
