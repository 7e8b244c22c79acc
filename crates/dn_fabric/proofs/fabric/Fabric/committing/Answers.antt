use Rattle.std.proofs.Common.{Bool, sym, ap, ◌∙◌}
use Rattle.std.specs.Prelude.{if◌then◌else◌}
use Rattle.std.specs.Ordering.{is_gt}
use Rattle.dn_model.specs.Order.{key_cmp}
use Rattle.dn_fabric.specs.declared.work.Work.TheVariants.{Ended, Nothing}
use Rattle.dn_fabric.proofs.Working.{to_commit, to_end}
use Rattle.dn_fabric.proofs.fabric.Fabric.committing.Goals as goal

pub returns-then-gt : goal.returns-then-gt
returns-then-gt g c =
    to_commit c.args.self.now c.gt.result (c.gt.ensures ∙ (λ i. is_gt (key_cmp (c.horizon.ensures i) (c.boundary.ensures i)))) c.if-gt.true

pub returns-then-quiet : goal.returns-then-quiet
returns-then-quiet g c =
    ap (λ (q : Bool). if q then Ended else Nothing) (sym c.if-quiet.true)
    ∙ to_end c.args.self.now c.gt.result c.quiet.result (c.gt.ensures ∙ (λ i. is_gt (key_cmp (c.horizon.ensures i) (c.boundary.ensures i)))) c.if-gt.false c.quiet.ensures.quiet

pub returns-else-quiet : goal.returns-else-quiet
returns-else-quiet g c =
    ap (λ (q : Bool). if q then Ended else Nothing) (sym c.if-quiet.false)
    ∙ to_end c.args.self.now c.gt.result c.quiet.result (c.gt.ensures ∙ (λ i. is_gt (key_cmp (c.horizon.ensures i) (c.boundary.ensures i)))) c.if-gt.false c.quiet.ensures.quiet
