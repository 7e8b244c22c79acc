use Rattle.std.proofs.Common.{arith}
use Rattle.std.proofs.lemmas.Grind.{common_steps}
use Rattle.rip_guest.proofs.PortLaws.{requests_more}
use Rattle.rip_guest.proofs.updates.put_requests.Goals as goal
use Rattle.rip_guest.proofs.updates.put_requests.Goals.{then-is_up+in_ok-put_request, else-is_up}

pub loop-port-preserved : goal.loop-port-preserved
loop-port-preserved c =
    let more = requests_more c.args.ports c.loop-port.port in
    elim c.if-is_up.branch [ then-is_up+in_ok-put_request w ↦ grind (arith, common_steps) | else-is_up w ↦ grind (arith, common_steps) ]
