use Rattle.std.proofs.Common.{◌≡◌, ◌<◌, take, false, List, [], ◌∷◌, ◌++◌, get_or, sym, ap, ◌∙◌, subst}
use Rattle.std.proofs.lemmas.List.{take_more, take_all}
use Rattle.ospf_spf.specs.declared.route.Route.{Route}
use Rattle.ospf_spf.specs.Offers.{IsBest, IsMerged, IsSame}
use Rattle.ospf_spf.proofs.Gathering.{best_more, best_none, merged_old, merged_new, same_old, both}
use Rattle.ospf_spf.proofs.gather.best.Goals as goal
use Rattle.ospf_spf.proofs.gather.best.Goals.{in-Some, in-None}

pub loop-offer-init : goal.loop-offer-init
loop-offer-init c = record { best = best_none c.new-best.result c.new-best.ensures.empty; ordered = c.new-best.ensures.ordered }

pub merge-merged-requires-clause-prefix : goal.merge-merged-requires-clause-prefix
merge-merged-requires-clause-prefix c =
    let d : Route = record { prefix = 0; len = 0; cost = 0; own = false; via = 0 } in
    let n = get_or c.args.offers.now c.loop-offer.offer-index d in
    (c.loop-offer.invariant.best.known n.prefix n.len c.in-Some.old.now (sym c.in-Some.ensures.value)).0

pub merge-merged-requires-clause-len : goal.merge-merged-requires-clause-len
merge-merged-requires-clause-len c =
    let d : Route = record { prefix = 0; len = 0; cost = 0; own = false; via = 0 } in
    let n = get_or c.args.offers.now c.loop-offer.offer-index d in
    (c.loop-offer.invariant.best.known n.prefix n.len c.in-Some.old.now (sym c.in-Some.ensures.value)).1

pub loop-offer-preserved : goal.loop-offer-preserved
loop-offer-preserved c =
    let d : Route = record { prefix = 0; len = 0; cost = 0; own = false; via = 0 } in
    let os = c.args.offers.now in
    let i = c.loop-offer.offer-index in
    let n = get_or os i d in
    let b = c.loop-offer.invariant.best in
    let more = take_more os i d c.loop-offer-test.true in
    let k = c.match-get.merged in
    let g : IsMerged (take i os ++ n ∷ []) k × IsSame k n =
    elim c.match-get.branch [
      | in-Some w ↦
          (let old = w.in-Some.old.now in
          let z = b.known n.prefix n.len old (sym w.in-Some.ensures.value) in
          let e : k ≡ w.merge-merged.result = w.merged-is in
          let c1 : n.cost < old.cost → k ≡ n = λ h. e ∙ w.merge-merged.ensures.cheaper h in
          let c2 : old.cost < n.cost → k ≡ old = λ h. e ∙ w.merge-merged.ensures.dearer h in
          let c3 : old.cost ≡ n.cost → k ≡ both old n = λ h. e ∙ w.merge-merged.ensures.both h in
          (merged_old (take i os) n old k z.2 (sym z.0, sym z.1) c1 c2 c3, same_old n old k (z.0, z.1) c1 c2 c3))
      | in-None w ↦
          (let e : k ≡ n = w.merged-is in
          (subst (λ (x : Route). IsMerged (take i os ++ n ∷ []) x) (sym e) (merged_new (take i os) n (b.none n.prefix n.len (sym w.in-None.ensures.value))), (ap (λ (x : Route). x.prefix) e, ap (λ (x : Route). x.len) e)))
    ] in
    record {
      best = subst (λ (xs : List Route). IsBest xs c.insert.new.self) (sym more) (best_more (take i os) n k c.loop-offer.best c.insert.new.self b g.0 g.1 c.in_ok-insert.ensures.updates);
      ordered = c.in_ok-insert.ensures.ordered;
    }

pub returns-clause-best : goal.returns-clause-best
returns-clause-best c = subst (λ (xs : List Route). IsBest xs c.loop-offer.best) (take_all c.loop-offer.offer-index c.args.offers.now c.loop-offer-test.false) c.loop-offer.invariant.best
