use Rattle.std.proofs.Common.{◌+◌, ◌<◌, length, drop, ap, ◌∙◌, sym, arith}
use Rattle.std.specs.Prelude.{slice_get}
use Rattle.dn_drive.specs.Choices.{passing}
use Rattle.dn_drive.specs.Counting.{test_of}
use Rattle.dn_drive.proofs.Counting.{found_here, found_later, not_here, none_left}
use Rattle.dn_drive.proofs.choices.nth_router.Goals as goal
use Rattle.dn_drive.proofs.choices.nth_router.Goals.{then-is_wanted+else-left-eq0, else-is_wanted}

pub returns-then-left-eq0 : goal.returns-then-left-eq0
returns-then-left-eq0 g c =
    let w = c.args.fabric.now.live.world in
    let q = test_of c.args.wanted in
    let r = c.loop-router.router in
    let l : r < length w.parts = omega (arith, c.requires.parts, c.router_count-router-end.ensures.count, c.loop-router-test.true) in
    sym c.loop-router.invariant
    ∙ ap (slice_get (passing q r (drop r w.parts))) c.if-left-eq0.true
    ∙ found_here q w r l (sym c.is_wanted.ensures ∙ c.if-is_wanted.true)

pub loop-router-preserved : goal.loop-router-preserved
loop-router-preserved g c =
    let w = c.args.fabric.now.live.world in
    let q = test_of c.args.wanted in
    let r = c.loop-router.router in
    let l : r < length w.parts = omega (arith, c.requires.parts, c.router_count-router-end.ensures.count, c.loop-router-test.true) in
    elim c.if-is_wanted.branch [
      | then-is_wanted+else-left-eq0 v ↦ sym (found_later q w r c.loop-router.left c.if-is_wanted.left l (sym c.is_wanted.ensures ∙ v.if-is_wanted.true) (omega arith)) ∙ c.loop-router.invariant
      | else-is_wanted v ↦ ap (slice_get (passing q (r + 1) (drop (r + 1) w.parts))) v.left-is ∙ sym (not_here q w r c.loop-router.left l (sym c.is_wanted.ensures ∙ v.if-is_wanted.false)) ∙ c.loop-router.invariant
    ]

pub returns : goal.returns
returns g c =
    absurd (none_left (test_of c.args.wanted) c.loop-router.router c.loop-router.left c.args.place c.args.fabric.now.live.world.parts
    (omega (arith, c.requires.parts, c.router_count-router-end.ensures.count, c.loop-router-test.false)) c.requires.there c.loop-router.invariant)
