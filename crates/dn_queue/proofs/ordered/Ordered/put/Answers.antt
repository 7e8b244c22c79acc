use Rattle.std.proofs.Common.{◌≡◌, sym, ap, ◌∙◌, subst}
use Rattle.std.specs.List.Sorted.{IsSorted}
use Rattle.std.specs.Ordering.{is_lt}
use Rattle.dn_lists.specs.InOrder.{put_in_order}
use Rattle.dn_model.specs.Order.{event_cmp}
use Rattle.dn_queue.specs.Places.{IsSplit}
use Rattle.dn_queue.proofs.Places.{put_at}
use Rattle.dn_queue.proofs.Counts.{put_sorted}
use Rattle.dn_queue.proofs.ordered.Ordered.put.Goals as goal

put_is : (c : goal.In_ok-insert) → c.insert.new.self.items ≡ put_in_order event_cmp c.args.event c.self.inside.events.items
put_is c =
    let e = c.args.event in
    let xs = c.self.inside.events.items in
    let i = c.place_before-place.result in
    let split : IsSplit (λ x. is_lt (event_cmp x e)) xs i = rw c.as_slice.ensures.value at c.place_before-place.ensures.split in
    let within = rw c.as_slice.ensures.value at c.place_before-place.ensures.within in
    c.in_ok-insert.ensures.items ∙ put_at e xs i within split

pub invariant_of-self-2 : goal.invariant_of-self-2
invariant_of-self-2 c = subst (IsSorted event_cmp) (sym (put_is c)) (put_sorted c.args.event c.self.inside.events.items c.self.invariant)

pub returns-clause-ok : goal.returns-clause-ok
returns-clause-ok c = put_is c ∙ ap (put_in_order event_cmp c.args.event) c.self.view_is
