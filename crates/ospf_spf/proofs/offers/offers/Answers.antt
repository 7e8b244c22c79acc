use Rattle.std.proofs.Common.{◌≡◌, ℕ, ◌+◌, eqb, List, get_or, length, refl, sym, ap, ◌∙◌, subst, arith}
use Rattle.std.specs.Global.{Vec}
use Rattle.ospf_spf.specs.declared.graph.Vertex.{Vertex}
use Rattle.ospf_spf.specs.declared.route.Route.{Route}
use Rattle.ospf_spf.specs.Search.{label}
use Rattle.ospf_spf.specs.Offers.{AreOffers, AreOffered, links_at}
use Rattle.ospf_spf.proofs.Offering.{offered_more, offered_skip, links_is}
use Rattle.ospf_spf.proofs.offers.offers.Goals as goal
use Rattle.ospf_spf.proofs.offers.offers.Goals.{in-Some+in_ok-offer_all, in_default}

pub loop-i-preserved : goal.loop-i-preserved
loop-i-preserved c =
    let g = c.args.graph.now in
    let L = label c.args.best.now in
    let i = c.loop-i.i in
    let os = c.loop-i.offers.items in
    let v = c.index-graph-i.result in
    elim c.match-best-i.branch [
      | in-Some+in_ok-offer_all w ↦
          (let e : c.match-best-i.offers.items ≡ w.offer_all.new.offers.items = ap (λ (x : Vec Route). x.items) w.offers-is in
          let le : w.as_slice.result.now ≡ links_at g i = w.as_slice.ensures ∙ ap (λ (x : Vertex). x.links) c.index-graph-i.is ∙ sym (links_is g i v c.loop-i-test.true) in
          let m : AreOffers w.in-Some.cost (eqb i c.args.root) (get_or c.args.masks.now i 0) w.as_slice.result.now os w.offer_all.new.offers.items = w.in_ok-offer_all.ensures in
          subst (λ (rs : List Route). AreOffered g c.args.root L c.args.masks.now (i + 1) rs) (sym e)
          (offered_more g c.args.root L c.args.masks.now i w.in-Some.cost (eqb i c.args.root) (get_or c.args.masks.now i 0) w.as_slice.result.now os w.offer_all.new.offers.items c.loop-i.invariant w.in-Some.is refl refl le m))
      | in_default w ↦
          (let e : c.match-best-i.offers.items ≡ os = ap (λ (x : Vec Route). x.items) w.offers-is in
          subst (λ (rs : List Route). AreOffered g c.args.root L c.args.masks.now (i + 1) rs) (sym e)
          (offered_skip g c.args.root L c.args.masks.now i os c.loop-i.invariant w.in_default.is))
    ]

pub returns : goal.returns
returns c =
    let e : c.loop-i.i ≡ length c.args.graph.now = (let t = c.loop-i-test.false in let b = c.loop-i.auto.i-end in omega arith) in
    subst (λ (k : ℕ). AreOffered c.args.graph.now c.args.root (label c.args.best.now) c.args.masks.now k c.loop-i.offers.items) e c.loop-i.invariant
