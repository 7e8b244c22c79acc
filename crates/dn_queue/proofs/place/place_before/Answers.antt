use Rattle.std.proofs.Common.{rules}
use Rattle.std.specs.Ordering.{is_lt}
use Rattle.std.proofs.lemmas.List.Sorted.{IsPartitionPoint-from_clause}
use Rattle.dn_model.specs.Order.{event_cmp}
use Rattle.dn_queue.proofs.Places.{split_from, less_parted}
use Rattle.dn_queue.proofs.place.place_before.Goals as goal

pub returns-clause-split : goal.returns-clause-split
returns-clause-split c =
    let e = c.args.event.now in
    let point = IsPartitionPoint-from_clause (λ x. is_lt (event_cmp x e)) _ _ c.partition_point.ensures.partitioned (less_parted e c.args.events.now c.requires) (λ a r q k. search rules) in
    split_from (λ x. is_lt (event_cmp x e)) c.args.events.now c.partition_point.result c.partition_point.ensures.bound point
