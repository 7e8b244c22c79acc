use Rattle.std.proofs.Common.{◌≡◌, ◌++◌}
use Rattle.std.specs.List.{flat_map}
use Rattle.dn_model.specs.SoFar.{by_router}
use Rattle.dn_lockstep.specs.Running.{messages}
use Rattle.dn_lockstep.proofs.later.Later.push_messages.Given as goal

abbrev pub invariant-loop-bucket : goal.invariant-loop-bucket
invariant-loop-bucket l = l.found.items ++ flat_map (λ v. messages (by_router v l.router)) l.bucket-iterator ≡ l.fn.found.items ++ messages (by_router l.self l.router)
