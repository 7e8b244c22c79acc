use Rattle.std.proofs.Common.{◌∙◌}
use Rattle.dn_lockstep.proofs.Firsts.{keys_decide}
use Rattle.dn_lockstep.proofs.queued.order_at_a_moment.Goals as goal

pub returns-in_default : goal.returns-in_default
returns-in_default c =
    c.cmp.ensures ∙ keys_decide (λ x y. c.order_of_events.ensures.parts x y) c.args.one.now c.args.other.now (λ same. c.in_default.not-Equal (c.cmp.ensures ∙ same))
