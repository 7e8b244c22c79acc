use Rattle.std.proofs.Common.{◌≡◌, sym, ◌∙◌}
use Rattle.std.specs.Ordering.{nat_cmp}
use Rattle.std.specs.declared.cmp.Ordering.TheVariants.{Equal}
use Rattle.dn_lockstep.proofs.Firsts.{groups_decide, sums_decide}
use Rattle.dn_lockstep.proofs.queued.event_order.Goals as goal

pub returns-in_default : goal.returns-in_default
returns-in_default c =
    c.cmp.ensures ∙ groups_decide c.args.one.now c.args.other.now (λ same. c.in_default.not-Equal (c.cmp.ensures ∙ same))

pub returns-in_default-cmp : goal.returns-in_default-cmp
returns-in_default-cmp c =
    let same : nat_cmp c.args.one.now.key.group c.args.other.now.key.group ≡ Equal = sym c.in-Equal.ensures in
    c.cmp-in-Equal.ensures ∙ sums_decide c.args.one.now c.args.other.now same (λ tied. c.in_default-cmp.not-Equal (c.cmp-in-Equal.ensures ∙ tied))

pub returns-in-Equal-cmp : goal.returns-in-Equal-cmp
returns-in-Equal-cmp c = cc
