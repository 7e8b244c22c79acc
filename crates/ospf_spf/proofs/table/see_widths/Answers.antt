use Rattle.std.proofs.Common.{◌^◌, ◌≤◌, false, List, length, subst, arith}
use Rattle.std.specs.List.{All}
use Rattle.std.proofs.lemmas.List.{take_all}
use Rattle.std.proofs.lemmas.List.Elements.{All-more}
use Rattle.ospf_spf.specs.declared.route.Route.{Route}
use Rattle.ospf_spf.specs.Table.{IsWide}
use Rattle.ospf_spf.proofs.table.see_widths.Goals as goal

pub loop-route-preserved : goal.loop-route-preserved
loop-route-preserved c =
    let d : Route = record { prefix = 0; len = 0; cost = 0; own = false; via = 0 } in
    All-more (IsWide (2 ^ 32) (2 ^ 32)) c.args.routes.now c.loop-route.route-index d c.loop-route-test.true c.loop-route.invariant c.see_width.ensures

pub returns : goal.returns
returns c =
    let rs = c.args.routes.now in
    let i = c.loop-route.route-index in
    let test = c.loop-route-test.false in
    let past : length rs ≤ i = omega arith in
    subst (λ (xs : List Route). All (IsWide (2 ^ 32) (2 ^ 32)) xs) (take_all i rs past) c.loop-route.invariant
