use Rattle.std.proofs.Common.{arith}
use Rattle.std.proofs.lemmas.Grind.{common_steps}
use Rattle.rip_guest.proofs.PortLaws.{updates_more}
use Rattle.rip_guest.proofs.updates.put_updates.Goals as goal
use Rattle.rip_guest.proofs.updates.put_updates.Goals.{then-is_up+in_ok-put_update, else-is_up}

pub loop-port-preserved : goal.loop-port-preserved
loop-port-preserved c =
    let more = updates_more c.args.only_changed c.args.table.now c.args.ports c.loop-port.port in
    elim c.if-is_up.branch [ then-is_up+in_ok-put_update w ↦ grind (arith, common_steps) | else-is_up w ↦ grind (arith, common_steps) ]
