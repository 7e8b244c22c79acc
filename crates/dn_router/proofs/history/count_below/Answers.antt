use Rattle.std.proofs.Common.{rules}
use Rattle.std.proofs.lemmas.List.Sorted.{IsPartitionPoint-from_clause}
use Rattle.dn_lists.proofs.Sorting.{rises_from_sorted}
use Rattle.dn_model.specs.Order.{event_cmp, event_total, is_below}
use Rattle.dn_model.specs.Settled.{below}
use Rattle.dn_model.proofs.EventOrder.{below_before, keys_rise}
use Rattle.dn_queue.proofs.Places.{split_from, parted}
use Rattle.dn_router.proofs.Until.{split_filter}
use Rattle.dn_router.proofs.history.count_below.Goals as goal

pub returns-clause-front : goal.returns-clause-front
unfolding below is_below
returns-clause-front c =
    let key = c.args.key.now in
    let done = c.args.done.now in
    let place = c.partition_point.result in
    let split = parted (is_below key) (λ x y h k. below_before key x y (keys_rise x y h) k) done (rises_from_sorted event_cmp event_total done c.requires) in
    let point = IsPartitionPoint-from_clause (is_below key) _ _ c.partition_point.ensures.partitioned split (λ a r q k. search rules) in
    split_filter (is_below key) done place c.partition_point.ensures.bound (split_from (is_below key) done place c.partition_point.ensures.bound point)
