use Rattle.std.proofs.Common.{[], ◌∷◌, ◌++◌, sym, ◌∙◌}
use Rattle.dn_model.specs.Network.{externals}
use Rattle.dn_lockstep.proofs.Queueing.{externals_next}
use Rattle.dn_plain.proofs.plain.all_externals.Goals as goal

pub loop-place-init : goal.loop-place-init
unfolding externals
loop-place-init c = c.new-made.ensures.items

pub loop-place-preserved : goal.loop-place-preserved
loop-place-preserved c =
    c.in_ok-push.ensures.items
    ∙ (λ i. c.loop-place.invariant i ++ c.in_ok-external.ensures i ∷ [])
    ∙ sym (externals_next c.args.feed.now c.loop-place.place c.index-feed-place.result c.loop-place-test.true c.index-feed-place.is)
