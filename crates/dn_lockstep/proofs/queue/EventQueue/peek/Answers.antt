use Rattle.std.proofs.Common.{◌≡◌, Some, List, length, sym, ap, ◌∙◌, subst, ◌-◌}
use Rattle.std.specs.Prelude.{slice_get}
use Rattle.dn_lockstep.specs.declared.queued.Queued.{Queued}
use Rattle.dn_lockstep.specs.Least.{IsLeast}
use Rattle.dn_lockstep.proofs.Taking.{least_last}
use Rattle.dn_lockstep.proofs.queue.EventQueue.peek.Goals as goal

pub returns-in-Some-clause-least : goal.returns-in-Some-clause-least
returns-in-Some-clause-least c =
    let least = c.in-Some.least.now in
    let last : slice_get c.self.inside.first.items (length c.self.inside.first.items - 1) ≡ Some least =
    ap (λ (items : List Queued). slice_get items (length items - 1)) (sym c.as_slice.ensures.value) ∙ sym c.in-Some.ensures.value in
    subst (IsLeast least.event) c.self.view_is (least_last c.self.inside.first.items least c.self.inside.later c.self.invariant last)
