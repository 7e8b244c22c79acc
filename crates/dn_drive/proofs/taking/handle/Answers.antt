use Rattle.std.proofs.Common.{false, get_or, sym, ap, ◌∙◌, subst}
use Rattle.dn_router.specs.Orders.{Task}
use Rattle.dn_fabric.specs.Fabrics.{Fabric, IsNetworkOf}
use Rattle.dn_fabric.specs.Answers.{HasFinished}
use Rattle.dn_drive.proofs.Handling.{is_leased, is_handled}
use Rattle.dn_drive.proofs.taking.handle.Goals as goal

pub finish-requires-clause-leased : goal.finish-requires-clause-leased
finish-requires-clause-leased g c κs within =
    let f = c.args.fabric.now in
    ap (λ t. get_or c.lease.new.self.leased t.router false) c.in-Ok.ensures
    ∙ ap (λ (f : Fabric g.row.G.Denot). get_or f.leased c.in_ok-order.order.router false) c.in_ok-order.ensures.leased
    ∙ is_leased g.G.Guest.meaning f (c.networks.ensures g.G.Guest.meaning c.args.fabric.now.live.header c.args.fabric.now.live.openings c.requires.driven.some c.requires.driven.one_each) c.requires.driven c.args.router c.in_ok-order.order c.in_ok-order.ensures.order c.requires.inside

pub returns-in_ok-_applied-in-Ok-clause-ok : goal.returns-in_ok-_applied-in-Ok-clause-ok
returns-in_ok-_applied-in-Ok-clause-ok g c =
    λ net is.
    let f = c.args.fabric.now in
    let same = c.in_ok-order.ensures.leased in
    let fin = c.in_ok-_applied-in-Ok._applied in
    let is_new : IsNetworkOf net g.G.Guest.meaning c.lease.new.self.live.header c.lease.new.self.live.openings =
    subst (λ (x : Fabric g.row.G.Denot). IsNetworkOf net g.G.Guest.meaning x.live.header x.live.openings) (sym same) is in
    let done : HasFinished net c.lease.new.self c.in-Ok.outcome fin c.finish.new.self = c.in_ok-_applied-in-Ok.ensures.ok net is_new in
    let of_order : HasFinished net c.lease.new.self c.in_ok-order.order fin c.finish.new.self =
    subst (λ (t : Task g.row.G.Denot). HasFinished net c.lease.new.self t fin c.finish.new.self) c.in-Ok.ensures done in
    is_handled g.G.Guest.meaning f (c.networks.ensures g.G.Guest.meaning c.args.fabric.now.live.header c.args.fabric.now.live.openings c.requires.driven.some c.requires.driven.one_each) c.requires.driven c.args.router net is c.in_ok-order.order fin c.finish.new.self c.in_ok-order.ensures.order c.requires.ready
    (subst (λ (x : Fabric g.row.G.Denot). HasFinished net x c.in_ok-order.order fin c.finish.new.self) same of_order)
