use Rattle.std.proofs.Common.{◌≡◌, ◌+◌, ◌<◌, length, sym, ap, ◌∙◌, subst, arith, rules}
use Rattle.std.specs.Ordering.{is_lt}
use Rattle.dn_model.specs.Order.{event_cmp}
use Rattle.dn_plain.proofs.PlainSteps.{IsUpToFirst, new_place, same_place, all_places}
use Rattle.dn_plain.proofs.plain.place_of_least.Goals.{then-is_lt, else-is_lt}
use Rattle.dn_plain.proofs.plain.place_of_least.Goals as goal

pub loop-place-preserved : goal.loop-place-preserved
loop-place-preserved c =
    let events = c.args.events.now in
    let n = c.loop-place.place in
    let place = c.loop-place.least in
    let x = c.index-events-place.result in
    let y = c.index-events-least.result in
    let inside : n < length events = search rules in
    let test : c.is_lt.result ≡ is_lt (event_cmp x y) = c.is_lt.ensures ∙ ap is_lt c.cmp.ensures in
    elim c.if-is_lt.branch [
      | then-is_lt w ↦ record {
        within = omega (arith, inside, w.least-is);
        up_to =
            subst (IsUpToFirst events (n + 1)) (sym w.least-is)
            (new_place events n place x y inside c.index-events-place.is c.loop-place.invariant.within c.index-events-least.is (sym test ∙ w.if-is_lt.true) c.loop-place.invariant.up_to);
      }
      | else-is_lt w ↦ record {
        within = omega (arith, c.loop-place.invariant.within, w.least-is);
        up_to =
            subst (IsUpToFirst events (n + 1)) (sym w.least-is)
            (same_place events n place x y inside c.index-events-place.is c.loop-place.invariant.within c.index-events-least.is (sym test ∙ w.if-is_lt.false) c.loop-place.invariant.up_to);
      }
    ]

pub returns-clause-least : goal.returns-clause-least
returns-clause-least c = all_places c.args.events.now c.loop-place.place c.loop-place.least (search rules) c.loop-place.invariant.up_to
