use Rattle.dn_router.proofs.Until.{and_same, and_other}
use Rattle.dn_router.proofs.history.are_and.Goals as goal

pub returns-then-are_same : goal.returns-then-are_same
returns-then-are_same c =
    and_same c.args.events.now c.in-Some.others.now c.args.front.now c.in-Some.end.now c.args.last.now c.eq.result c.in-Some.ensures.cases.0
    (c.are_same.ensures.0 c.if-are_same.true) c.eq.ensures

pub returns-else-are_same : goal.returns-else-are_same
returns-else-are_same c =
    and_other c.args.events.now c.in-Some.others.now c.args.front.now c.in-Some.end.now c.args.last.now c.are_same.result c.in-Some.ensures.cases.0
    c.are_same.ensures.1 c.if-are_same.false
