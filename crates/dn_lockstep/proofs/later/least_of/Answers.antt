use Rattle.std.proofs.Common.{◌≡◌, ◌+◌, sym, ap, ◌∙◌, subst}
use Rattle.std.specs.Ordering.{is_lt}
use Rattle.dn_model.specs.Order.{event_cmp}
use Rattle.dn_lockstep.proofs.Firsts.{IsLeastSoFar, new_least, same_least, least_found}
use Rattle.dn_lockstep.proofs.later.least_of.Goals.{then-is_lt, else-is_lt}
use Rattle.dn_lockstep.proofs.later.least_of.Goals as goal

pub loop-one-preserved : goal.loop-one-preserved
loop-one-preserved c =
    let items = c.args.queued.now in
    let n = c.loop-one.one-index in
    let one = c.one-item.result in
    let least = c.loop-one.least.now in
    let test : c.is_lt.result ≡ is_lt (event_cmp one.event least.event) = c.is_lt.ensures ∙ ap is_lt c.event_order.ensures in
    elim c.if-is_lt.branch [
      | then-is_lt w ↦
          subst (IsLeastSoFar items (n + 1)) (sym (ap (λ q. q.now) w.least-is))
          (new_least items n one least c.loop-one-test.true c.one-item.is (sym test ∙ w.if-is_lt.true) c.loop-one.invariant)
      | else-is_lt w ↦
          subst (IsLeastSoFar items (n + 1)) (sym (ap (λ q. q.now) w.least-is))
          (same_least items n one least c.loop-one-test.true c.one-item.is (sym test ∙ w.if-is_lt.false) c.loop-one.invariant)
    ]

pub returns-clause-least : goal.returns-clause-least
returns-clause-least c = least_found c.args.queued.now c.loop-one.one-index c.loop-one.least.now c.loop-one-test.false c.loop-one.invariant
