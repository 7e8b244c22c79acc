use Rattle.std.proofs.Common.{◌≡◌, ◌+◌, arith}
use Rattle.std.proofs.lemmas.Grind.{common_steps}
use Rattle.std.proofs.lemmas.List.FromFn.{filter_of_map_range_with_len_more}
use Rattle.dn_guest.specs.Flood.{goes_to}
use Rattle.dn_guest.specs.declared.outbox.Output.{Output}
use Rattle.dn_guest.proofs.flood.put_copies.Goals as goal
use Rattle.dn_guest.proofs.flood.put_copies.Goals.{then-goes_to+in_ok-copy+in_ok-put, else-goes_to}

pub loop-port-preserved : goal.loop-port-preserved
loop-port-preserved c =
    let i = c.loop-port.port in
    let zero : 0 + i ≡ i = omega arith in
    let more = filter_of_map_range_with_len_more {X = Output} (λ output. goes_to c.args.ports c.args.from output.port) (λ port. record { port = port; body = c.args.body.now }) 0 i i zero in
    elim c.if-goes_to.branch [ then-goes_to+in_ok-copy+in_ok-put w ↦ grind (arith, common_steps) | else-goes_to w ↦ grind (arith, common_steps) ]
