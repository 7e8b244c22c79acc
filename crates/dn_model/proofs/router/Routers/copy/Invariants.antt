use Rattle.std.proofs.Common.{◌≡◌, take}
use Rattle.dn_model.proofs.router.Routers.copy.Given as goal

abbrev pub invariant-loop-router : goal.invariant-loop-router
invariant-loop-router l = l.items.items ≡ take l.router-index l.self
