use Rattle.std.proofs.Common.{◌≡◌, length}
use Rattle.std.specs.List.{find}
use Rattle.dn_probe.specs.Routes.{leads_to}
use Rattle.dn_probe.proofs.routes.route_to.Given as goal

abbrev pub invariant-routes : goal.invariant-routes
invariant-routes l = find (leads_to l.prefix) l.left ≡ find (leads_to l.prefix) l.routes

abbrev pub decreases-routes : goal.decreases-routes
decreases-routes l = length l.left
