use Rattle.std.proofs.Common.{◌≡◌, List, [], ◌∷◌, take, subst, sym}
use Rattle.std.specs.List.Sorted.{IsPermutation}
use Rattle.std.proofs.lemmas.List.Sorted.{IsPermutation-refl}
use Rattle.std.proofs.lemmas.List.{take_all}
use Rattle.dn_model.specs.declared.event.Event.{Event}
use Rattle.dn_model.specs.declared.feed.External.{External}
use Rattle.dn_model.specs.Network.{externals}
use Rattle.dn_lockstep.proofs.Queueing.{one_external_more}
use Rattle.dn_lockstep.proofs.agenda.queued_externals.Goals as goal

pub loop-place-init : goal.loop-place-init
unfolding externals
loop-place-init c = subst (λ (es : List Event). IsPermutation [] es) (sym c.new-made.ensures) (IsPermutation-refl [])

pub loop-place-preserved : goal.loop-place-preserved
loop-place-preserved c =
    one_external_more c.args.feed.now c.loop-place.place c.index-feed-place.result c.loop-place.made c.push.new.self c.loop-place-test.true c.index-feed-place.is c.loop-place.invariant
    (subst (λ (e : Event). IsPermutation (e ∷ c.loop-place.made) c.push.new.self) c.in_ok-external.ensures c.in_ok-push.ensures.ok)

pub returns : goal.returns
returns c =
    let e : take c.loop-place.place c.args.feed.now ≡ c.args.feed.now = take_all c.loop-place.place c.args.feed.now c.loop-place-test.false in
    subst (λ (xs : List External). IsPermutation (externals 0 xs) c.loop-place.made) e c.loop-place.invariant
