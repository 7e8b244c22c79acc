use Rattle.std.proofs.Common.{◌≡◌, take, List, [], ◌∷◌, ◌++◌, get_or, sym, ap, ◌∙◌, subst}
use Rattle.std.specs.Global.{Vec}
use Rattle.std.proofs.lemmas.List.{take_more, take_all}
use Rattle.ospf_wire.specs.declared.router_lsa.RouterLink.{RouterLink}
use Rattle.ospf_spf.specs.declared.route.Route.{Route}
use Rattle.ospf_spf.specs.Offers.{AreOffers}
use Rattle.ospf_spf.proofs.Offering.{offers_push, offers_skip}
use Rattle.ospf_spf.proofs.offers.offer_all.Goals as goal
use Rattle.ospf_spf.proofs.offers.offer_all.Goals.{in-Some+in_ok-push, in_default}

pub loop-link-preserved : goal.loop-link-preserved
loop-link-preserved c =
    let d : RouterLink = record { id = 0; «data» = 0; kind = 0; metric = 0 } in
    let ls = c.args.links.now in
    let i = c.loop-link.link-index in
    let l = get_or ls i d in
    let old = c.args.offers.now.items in
    let os = c.loop-link.offers.items in
    subst (λ (ms : List RouterLink). AreOffers c.args.cost c.args.own c.args.via ms old c.match-offer_of.offers.items) (sym (take_more ls i d c.loop-link-test.true))
    (elim c.match-offer_of.branch [
      | in-Some+in_ok-push w ↦
          (let e : c.match-offer_of.offers.items ≡ os ++ w.in-Some.offer ∷ [] = ap (λ (v : Vec Route). v.items) w.offers-is ∙ w.in_ok-push.ensures.items in
          subst (λ (rs : List Route). AreOffers c.args.cost c.args.own c.args.via (take i ls ++ l ∷ []) old rs) (sym e)
          (offers_push c.args.cost c.args.own c.args.via old (take i ls) l os w.in-Some.offer c.loop-link.invariant w.in-Some.ensures))
      | in_default w ↦
          (let e : c.match-offer_of.offers.items ≡ os = ap (λ (v : Vec Route). v.items) w.offers-is in
          subst (λ (rs : List Route). AreOffers c.args.cost c.args.own c.args.via (take i ls ++ l ∷ []) old rs) (sym e)
          (offers_skip c.args.cost c.args.own c.args.via old (take i ls) l os c.loop-link.invariant w.in_default.ensures))
    ])

pub returns : goal.returns
returns c =
    subst (λ (ms : List RouterLink). AreOffers c.args.cost c.args.own c.args.via ms c.args.offers.now.items c.loop-link.offers.items) (take_all c.loop-link.link-index c.args.links.now c.loop-link-test.false) c.loop-link.invariant
