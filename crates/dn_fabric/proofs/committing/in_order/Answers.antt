use Rattle.dn_fabric.proofs.Commits.{sorted_is}
use Rattle.dn_fabric.proofs.committing.in_order.Goals as goal

pub returns : goal.returns
returns c = sorted_is (λ x y h. c.order_of_events.ensures.apart x y h) c.args.rows.items c.sort_unstable.new.self.items c.sort_unstable.ensures.permutation c.sort_unstable.ensures.sorted
