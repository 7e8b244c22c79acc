use Rattle.std.proofs.Common.{rules, not}
use Rattle.std.specs.Ordering.{is_gt}
use Rattle.std.proofs.lemmas.List.Sorted.{IsPartitionPoint-from_clause}
use Rattle.dn_model.specs.Order.{event_cmp}
use Rattle.dn_queue.proofs.Places.{split_from, not_more_parted}
use Rattle.dn_queue.proofs.place.place_after.Goals as goal

pub returns-clause-split : goal.returns-clause-split
returns-clause-split c =
    let e = c.args.event.now in
    let point = IsPartitionPoint-from_clause (λ x. not (is_gt (event_cmp x e))) _ _ c.partition_point.ensures.partitioned (not_more_parted e c.args.events.now c.requires) (λ a r q k. search rules) in
    split_from (λ x. not (is_gt (event_cmp x e))) c.args.events.now c.partition_point.result c.partition_point.ensures.bound point
