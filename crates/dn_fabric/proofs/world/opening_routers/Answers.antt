use Rattle.std.proofs.Common.{◌+◌, ◌++◌, length, ap, ◌∙◌, arith}
use Rattle.std.specs.Vec.Iter.{into_iter_items}
use Rattle.dn_fabric.specs.Openings.{routers_from}
use Rattle.dn_fabric.proofs.Arrivals.{opening_more}
use Rattle.dn_fabric.proofs.world.opening_routers.Goals as goal

pub loop-guest-preserved : goal.loop-guest-preserved
loop-guest-preserved g c =
    let h = c.args.header.now in
    let rest = into_iter_items c.next.new.self in
    let steps = c.in-Some.ensures.steps.0 in
    let n = c.loop-guest.number in
    record {
      made =
          ap (λ l. l ++ routers_from h (n + 1) rest) c.in_ok-push.ensures.items
          ∙ opening_more h n c.in-Some.guest rest (into_iter_items c.loop-guest.guest-iterator) c.loop-guest.routers.items (routers_from h 0 c.args.guests.items) c.in_ok-opening_router.field-0 steps c.in_ok-opening_router.ensures c.loop-guest.invariant.made;
      left = let l = c.loop-guest.invariant.left in let m = ap length steps in omega (arith, l, m);
    }
