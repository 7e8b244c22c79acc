use Rattle.std.proofs.Common.{ℕ, Option, List, length, get_or, sym, ap, ◌∙◌, subst, arith}
use Rattle.std.specs.Global.{Vec}
use Rattle.ospf_spf.specs.declared.graph.Hop.{Hop}
use Rattle.ospf_spf.specs.declared.route.Route.{Route}
use Rattle.ospf_spf.specs.Search.{label, AreHops, IsLeast}
use Rattle.std.proofs.lemmas.Result.{IfOk-weaker}
use Rattle.ospf_spf.specs.Routes.{AreRoutes}
use Rattle.ospf_spf.specs.Hops.{ids_of}
use Rattle.ospf_spf.specs.Ports.{AreVia}
use Rattle.ospf_spf.specs.Offers.{AreOffered, AreGathered}
use Rattle.ospf_spf.proofs.Translating.{hops_length, are_hops}
use Rattle.ospf_spf.proofs.Answering.{answer}
use Rattle.ospf_spf.proofs.table.routes_from.Goals as goal

pub least_costs-requires-clause-size : goal.least_costs-requires-clause-size
least_costs-requires-clause-size c =
    let n = hops_length c.args.graph.now c.in_ok-hops.hops.items c.in_ok-hops.ensures in
    let e = ap length c.deref.ensures.value in
    let s = c.requires.size in
    omega arith

pub least_costs-requires-clause-root : goal.least_costs-requires-clause-root
least_costs-requires-clause-root c =
    let n = hops_length c.args.graph.now c.in_ok-hops.hops.items c.in_ok-hops.ensures in
    let e = ap length c.deref.ensures.value in
    let s = c.requires.root in
    omega arith

pub least_costs-requires-clause-hops : goal.least_costs-requires-clause-hops
least_costs-requires-clause-hops c =
    subst (λ (hs : List (Vec Hop)). AreHops hs (length hs)) (sym c.deref.ensures.value) (are_hops c.args.graph.now c.in_ok-hops.hops.items c.in_ok-hops.ensures)

pub first_ports-requires-clause-size : goal.first_ports-requires-clause-size
first_ports-requires-clause-size c =
    let n = hops_length c.args.graph.now c.in_ok-hops.hops.items c.in_ok-hops.ensures in
    let e = ap length c.deref-2.ensures.value in
    let s = c.requires.size in
    omega arith

pub first_ports-requires-clause-hops : goal.first_ports-requires-clause-hops
first_ports-requires-clause-hops c =
    subst (λ (hs : List (Vec Hop)). AreHops hs (length hs)) (sym c.deref-2.ensures.value) (are_hops c.args.graph.now c.in_ok-hops.hops.items c.in_ok-hops.ensures)

pub offers-requires-clause-best : goal.offers-requires-clause-best
offers-requires-clause-best c =
    ap length c.deref-3.ensures.value ∙ c.in_ok-found.ensures.len ∙ ap length c.deref.ensures.value ∙ hops_length c.args.graph.now c.in_ok-hops.hops.items c.in_ok-hops.ensures

pub offers-requires-clause-masks : goal.offers-requires-clause-masks
offers-requires-clause-masks c =
    ap length c.deref-4.ensures.value ∙ c.in_ok-masks.ensures.len ∙ ap length c.deref-2.ensures.value ∙ hops_length c.args.graph.now c.in_ok-hops.hops.items c.in_ok-hops.ensures

pub offers-requires-clause-small : goal.offers-requires-clause-small
offers-requires-clause-small c v k h =
    let n = hops_length c.args.graph.now c.in_ok-hops.hops.items c.in_ok-hops.ensures in
    let e = ap length c.deref.ensures.value in
    let s = c.requires.size in
    let x = c.in_ok-found.ensures.least.small v k (sym (ap (λ (xs : List (Option ℕ)). label xs v) c.deref-3.ensures.value) ∙ h) in
    omega arith

pub returns : goal.returns
returns c =
    let g = c.args.graph.now in
    let H = c.in_ok-hops.hops.items in
    let a = c.in_ok-hops.ensures in
    let root = c.args.root in
    let best = c.in_ok-found.found.best.items in
    let order = c.in_ok-found.found.order.items in
    let masks = c.in_ok-masks.masks.items in
    let os = c.in_ok-offered.offered.items in
    let least : IsLeast H root (label best) order (length H) = subst (λ (hs : List (Vec Hop)). IsLeast hs root (label best) order (length hs)) c.deref.ensures.value c.in_ok-found.ensures.least in
    let via : AreVia H root (label best) masks = subst (λ (hs : List (Vec Hop)). AreVia hs root (label best) masks) c.deref-2.ensures.value c.in_ok-masks.ensures.via in
    let o1 : AreOffered g root (label best) c.deref-4.result.now (length g) os = subst (λ (xs : List (Option ℕ)). AreOffered g root (label xs) c.deref-4.result.now (length g) os) c.deref-3.ensures.value c.in_ok-offered.ensures in
    let o2 : AreOffered g root (label best) masks (length g) os = subst (λ (xs : List ℕ). AreOffered g root (label best) xs (length g) os) c.deref-4.ensures.value o1 in
    IfOk-weaker c.gather.result _ (λ (v : Vec Route). AreRoutes g (get_or (ids_of g) root 0) v.items)
    (λ v r. let gathered : AreGathered os v.items = subst (λ (xs : List Route). AreGathered xs v.items) c.deref-5.ensures.value r in
    answer g H root c.requires.order a c.requires.root (label best) order masks os v.items least via o2 gathered)
    c.gather.ensures
