use Rattle.std.proofs.Common.{◌≡◌, Some, List, length, sym, ap, ◌∙◌, subst, ◌-◌}
use Rattle.std.specs.Prelude.{slice_get}
use Rattle.dn_lockstep.specs.declared.queued.Queued.{Queued}
use Rattle.dn_lockstep.specs.Least.{IsLeast}
use Rattle.dn_lockstep.proofs.Taking.{least_last, least_before}
use Rattle.dn_lockstep.proofs.queue.EventQueue.has_before.Goals as goal

pub returns-in-Some : goal.returns-in-Some
returns-in-Some c =
    let least = c.in-Some.least.now in
    let last : slice_get c.self.inside.first.items (length c.self.inside.first.items - 1) ≡ Some least =
    ap (λ (items : List Queued). slice_get items (length items - 1)) (sym c.as_slice.ensures.value) ∙ sym c.in-Some.ensures.value in
    least_before least.event c.args.group c.args.self.now
    (subst (IsLeast least.event) c.self.view_is (least_last c.self.inside.first.items least c.self.inside.later c.self.invariant last))
