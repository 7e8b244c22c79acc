use Rattle.std.proofs.Common.{◌≡◌, ◌++◌, length, map}
use Rattle.dn_model.specs.Links.{ends}
use Rattle.dn_probe.proofs.stations.far_routers.Given as goal

abbrev pub invariant-ends : goal.invariant-ends
invariant-ends l = l.made.items ++ map (λ e. e.router) l.left ≡ map (λ e. e.router) (ends l.header.links l.router)

abbrev pub decreases-ends : goal.decreases-ends
decreases-ends l = length l.left
