use Rattle.std.proofs.Common.{◌≡◌, ◌+◌, arith}
use Rattle.std.proofs.lemmas.Grind.{common_steps}
use Rattle.std.proofs.lemmas.List.FromFn.{filter_of_map_range_with_len_more}
use Rattle.dn_guest.specs.Ports.{is_up}
use Rattle.dn_guest.specs.declared.outbox.Output.{Output}
use Rattle.ospf_router.proofs.build_updates.put_copies.Goals as goal
use Rattle.ospf_router.proofs.build_updates.put_copies.Goals.{then-is_up+in_ok-copy+in_ok-put, else-is_up}

pub loop-port-preserved : goal.loop-port-preserved
loop-port-preserved c =
    let i = c.loop-port.port in
    let zero : 0 + i ≡ i = omega arith in
    let more = filter_of_map_range_with_len_more {X = Output} (λ output. is_up c.args.mask output.port) (λ port. record { port = port; body = c.args.bytes.now }) 0 i i zero in
    elim c.if-is_up.branch [ then-is_up+in_ok-copy+in_ok-put w ↦ grind (arith, common_steps) | else-is_up w ↦ grind (arith, common_steps) ]
