use Rattle.std.proofs.Common.{◌≡◌, take}
use Rattle.dn_fabric.specs.Rosters.{errands_of}
use Rattle.dn_fabric.proofs.roster.errands_of.Given as goal

abbrev pub invariant-loop-router : goal.invariant-loop-router
invariant-loop-router g l = l.errands.items ≡ errands_of (take l.router-index l.routers)
