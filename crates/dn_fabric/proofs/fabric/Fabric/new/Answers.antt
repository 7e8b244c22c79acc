use Rattle.std.proofs.Common.{◌≡◌, false, length, replicate, sym, ap, ◌∙◌, subst}
use Rattle.std.specs.Vec.{vec_len}
use Rattle.dn_model.specs.Cases.{Heading, IsHeading}
use Rattle.dn_fabric.specs.Fabrics.{Fabric}
use Rattle.dn_fabric.specs.Holds.{IsFabric}
use Rattle.dn_fabric.proofs.Taken.{fab}
use Rattle.dn_fabric.proofs.Opened.{opening_holds, leases_are}
use Rattle.dn_fabric.proofs.fabric.Fabric.new.Goals as goal

pub invariant_of-result : goal.invariant_of-result
invariant_of-result g c =
    let rules : IsHeading c.args.header = subst IsHeading c.header.view_is c.header.invariant in
    let count = ap length c.as_slice.ensures ∙ ap (λ (h : Heading). length h.routers) c.header.view_is in
    let leased : c.resize.new.self.items ≡ replicate (length c.args.header.routers) false =
    leases_are c.resize.new.self.items c.new-leased.result.items (length c.as_slice.result.now) (vec_len c.new-leased.result) (length c.args.header.routers) c.in_ok-resize.ensures.items c.new-leased.ensures.items c.new-leased.ensures.len count in
    subst (λ (now : Fabric g.row.G.Denot). IsFabric g.G.Guest.meaning now) (λ i. fab (sym c.in_ok-world.ensures i) (sym c.new-2.ensures.items i) (sym leased i))
    (opening_holds g.G.Guest.meaning c.args.header c.args.guests.items
    (λ net.
    record {
      balanced = c.equation.ensures.opening net;
      past = c.boundary.ensures.opening net;
      rows = c.before_the_first_step.ensures.committed net;
      uncut = c.before_the_first_step.ensures.uncut net;
    }) rules c.requires)
