use Rattle.std.proofs.Common.{◌≡◌, true, sym, ◌∙◌, subst}
use Rattle.std.specs.Prelude.{slice_set}
use Rattle.std.proofs.Math.ListN.{length-set}
use Rattle.dn_router.specs.Routers.{order_of}
use Rattle.dn_fabric.specs.Fabrics.{Fabric, Live, router_of}
use Rattle.dn_fabric.specs.Holds.{IsFabric}
use Rattle.dn_fabric.proofs.Calls.{OfEach, leased_holds}
use Rattle.dn_fabric.proofs.Taken.{fab, from_ok, marked_ok}
use Rattle.dn_fabric.proofs.fabric.Fabric.lease.Goals as goal

pub returns-clause-order : goal.returns-clause-order
returns-clause-order g c =
    subst (λ (b : Fabric g.row.G.Denot). OfEach g.G.Guest.meaning b (λ net. c.in_ok-order.order ≡ order_of g.G.Guest.meaning (router_of net b.live.world c.args.router))) c.self.view_is
    (λ net of. from_ok (λ order. order ≡ order_of g.G.Guest.meaning (router_of net c.self.inside.world.world c.args.router)) c.in_ok-order.order c.order-order.result c.in_ok-order.ensures.same (c.order-order.ensures net of))

pub invariant_of-self-2 : goal.invariant_of-self-2
invariant_of-self-2 g c =
    let f = fab c.self.inside.world c.self.inside.journal.items c.self.inside.leased.items in
    let leased = slice_set c.self.inside.leased.items c.from.result true in
    let same : c.mark.new.self ≡ c.self.inside.world = c.in_ok-order.ensures.mark ∙ marked_ok c.self.inside.world c.in_ok-order.order c.order-order.result c.in_ok-order.ensures.same in
    subst (λ (l : Live g.row.G.Denot). IsFabric g.G.Guest.meaning (fab l c.self.inside.journal.items leased)) (sym same)
    (leased_holds g.G.Guest.meaning f leased c.self.invariant (length-set c.self.inside.leased.items c.from.result true))
