use Rattle.std.proofs.Common.{ℕ, ◌<◌, ◌≢◌, List, length, get_or, sym, ap, ◌∙◌, subst, arith}
use Rattle.ospf_spf.specs.declared.route.Route.{Route}
use Rattle.ospf_spf.specs.Routes.{AreRoutes}
use Rattle.ospf_spf.specs.Hops.{ids_of, AreRising}
use Rattle.ospf_spf.proofs.Hopping.{ids_length}
use Rattle.ospf_spf.proofs.Answering.{rising_of, no_routes}
use Rattle.ospf_spf.proofs.table.routes_over.Goals as goal

pub position-requires : goal.position-requires
position-requires c = subst (λ (xs : List ℕ). AreRising xs) (sym c.in_ok-ids.ensures ∙ sym c.deref.ensures.value) (rising_of c.args.graph.now c.requires.order)

pub routes_from-requires-clause-root : goal.routes_from-requires-clause-root
routes_from-requires-clause-root c =
    let p = c.in-Some.ensures.0 in
    let e = ap length (c.deref.ensures.value ∙ c.in_ok-ids.ensures) in
    let n = ids_length c.args.graph.now in
    omega arith

pub returns-in_default : goal.returns-in_default
returns-in_default c =
    let e = c.deref.ensures.value ∙ c.in_ok-ids.ensures in
    let n : (i : ℕ) → i < length (ids_of c.args.graph.now) → get_or (ids_of c.args.graph.now) i 0 ≢ c.args.root =
    subst (λ (xs : List ℕ). (i : ℕ) → i < length xs → get_or xs i 0 ≢ c.args.root) e c.in_default.ensures in
    subst (λ (rs : List Route). AreRoutes c.args.graph.now c.args.root rs) (sym c.new.ensures.items) (no_routes c.args.graph.now c.args.root n)
