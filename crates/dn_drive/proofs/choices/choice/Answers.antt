use Rattle.std.proofs.Common.{◌-◌, Some, ap, ◌∙◌, sym, arith}
use Rattle.std.proofs.lemmas.Result.{IfOk-weaker}
use Rattle.dn_world.specs.declared.step.Step.{Step}
use Rattle.dn_drive.proofs.Counting.{at_feed, at_flight, at_behind, at_ready, at_commit}
use Rattle.dn_drive.proofs.choices.choice.Goals as goal

pub returns-then-place-counts : goal.returns-then-place-counts
returns-then-place-counts g c =
    let f = c.args.fabric.now.live in
    let there = at_feed f.header f.world c.args.rest.now c.args.counts.now c.requires.counts c.args.place c.if-place-counts.true in
    IfOk-weaker c.feed_step.result _ _ (λ (s : Step) e. there ∙ ap Some (sym e)) c.feed_step.ensures

pub returns-then-place-counts-2 : goal.returns-then-place-counts-2
returns-then-place-counts-2 g c =
    let f = c.args.fabric.now.live in
    at_flight f.header f.world c.args.rest.now c.args.counts.now c.requires.counts c.args.place (c.args.place - c.args.counts.now.feeding) (omega arith) (omega arith)

pub returns-then-place-counts-3 : goal.returns-then-place-counts-3
returns-then-place-counts-3 g c =
    let f = c.args.fabric.now.live in
    at_behind f.header f.world c.args.rest.now c.args.counts.now c.requires.counts c.args.place (c.args.place - c.args.counts.now.feeding - c.args.counts.now.flying) c.nth_router.result (omega arith) (omega arith) c.nth_router.ensures

pub returns-then-place-counts-4 : goal.returns-then-place-counts-4
returns-then-place-counts-4 g c =
    let f = c.args.fabric.now.live in
    at_ready f.header f.world c.args.rest.now c.args.counts.now c.requires.counts c.args.place (c.args.place - c.args.counts.now.feeding - c.args.counts.now.flying - c.args.counts.now.behind) c.nth_router-then-place-counts-4.result (omega arith) (omega arith) c.nth_router-then-place-counts-4.ensures

pub returns : goal.returns
returns g c =
    let f = c.args.fabric.now.live in
    at_commit f.header f.world c.args.rest.now c.args.counts.now c.requires.counts c.args.place (c.args.place - c.args.counts.now.feeding - c.args.counts.now.flying - c.args.counts.now.behind - c.args.counts.now.ready) (omega arith) c.requires.there
