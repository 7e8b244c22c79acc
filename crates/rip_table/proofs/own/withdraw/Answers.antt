use Rattle.std.proofs.Common.{Option, length, sym, ap, ◌∙◌}
use Rattle.std.specs.Prelude.{option_map}
use Rattle.std.specs.Map.{set_value}
use Rattle.std.specs.BTreeMap.{is_at}
use Rattle.std.proofs.lemmas.Map.{length-set_value}
use Rattle.dn_net.specs.Networks.{network_cmp}
use Rattle.rip_table.specs.declared.held.Held.{Held}
use Rattle.rip_table.specs.Own.{withdrawn}
use Rattle.rip_table.specs.Routes.{Routes, held_at, put}
use Rattle.rip_table.proofs.OwnLaws.{own_after}
use Rattle.rip_table.proofs.RouteLaws.{written}
use Rattle.rip_table.proofs.own.withdraw.Goals as goal

pub returns-in-Some-clause-routes : goal.returns-in-Some-clause-routes
returns-in-Some-clause-routes c =
    let routes = c.args.routes.now.entries in
    let n = c.args.network in
    let now = c.args.now in
    let h = c.in-Some.held.now in
    (c.get_mut.follows.holds c.withdrawn.result).0
    ∙ ap (set_value (is_at (network_cmp n)) routes) c.withdrawn.ensures
    ∙ written n (withdrawn now h) h routes c.get_mut.ensures.ordered (sym c.in-Some.ensures.value)
    ∙ ap (λ (o : Option Held). put routes n (option_map (withdrawn now) o)) c.in-Some.ensures.value

pub returns-in-Some-clause-len : goal.returns-in-Some-clause-len
returns-in-Some-clause-len c =
    let routes = c.args.routes.now.entries in
    ap (λ (es : Routes). length es) (c.get_mut.follows.holds c.withdrawn.result).0 ∙ length-set_value (is_at (network_cmp c.args.network)) routes c.withdrawn.result

pub returns-in-Some-clause-own : goal.returns-in-Some-clause-own
returns-in-Some-clause-own c =
    let routes = c.args.routes.now.entries in
    own_after c.args.network (option_map (withdrawn c.args.now) (held_at routes c.args.network)) routes _ c.get_mut.ensures.ordered (returns-in-Some-clause-routes c)
