use Rattle.std.proofs.Common.{arith, rules}
use Rattle.std.proofs.lemmas.Grind.{common_steps}
use Rattle.rip_guest.proofs.rip.Rip.tick.Goals as goal
use Rattle.rip_guest.proofs.rip.Rip.tick.Goals.{then-group-eq0+in_ok-put_requests, else-group-eq0}

pub returns-in_ok-update-clause-outputs : goal.returns-in_ok-update-clause-outputs
returns-in_ok-update-clause-outputs c =
    elim c.if-group-eq0.branch [ then-group-eq0+in_ok-put_requests w ↦ grind (arith, common_steps) | else-group-eq0 w ↦ grind (arith, common_steps) ]

pub returns-else-group-from-clause-state : goal.returns-else-group-from-clause-state
returns-else-group-from-clause-state c = grind arith

pub returns-else-group-from-clause-outputs : goal.returns-else-group-from-clause-outputs
returns-else-group-from-clause-outputs c = search rules
