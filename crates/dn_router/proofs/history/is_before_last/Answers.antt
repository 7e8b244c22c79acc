use Rattle.std.proofs.Common.{sym, ◌∙◌, ap}
use Rattle.std.specs.Ordering.{is_lt}
use Rattle.dn_router.proofs.Until.{last_is, no_last}
use Rattle.dn_router.proofs.history.is_before_last.Goals as goal

pub returns-in-Some : goal.returns-in-Some
returns-in-Some c =
    c.is_lt.ensures ∙ ap is_lt c.cmp.ensures
    ∙ sym (last_is c.args.done.now c.in-Some.last.now c.args.event.now (sym c.in-Some.ensures.value))

pub returns-in-None : goal.returns-in-None
returns-in-None c = sym (no_last c.args.done.now c.args.event.now c.in-None.ensures.item.3)
