use Rattle.std.proofs.Common.{◌++◌, ◌∷◌, [], List, ℕ, sym, ap, ◌∙◌, append_assoc, map, arith}
use Rattle.std.specs.List.{range_with_len}
use Rattle.std.proofs.lemmas.List.FromFn.{map-range_with_len_more}
use Rattle.dn_guest.specs.declared.outbox.Output.{Output}
use Rattle.rip_wire.specs.Constants.{response_command}
use Rattle.rip_guest.specs.Updates.{message_on, message_part}
use Rattle.rip_guest.proofs.updates.put_responses.Goals as goal

pub loop-k-preserved : goal.loop-k-preserved
loop-k-preserved c =
    let i = c.loop-k.k in
    let out = c.args.out.now in
    let one = λ (k : ℕ). message_on c.args.port response_command (message_part c.args.entries.now k) in
    let before = map one (range_with_len 0 i) in
    let more = map-range_with_len_more {X = Output} one 0 i i (omega arith) in
    c.in_ok-put_part.ensures ∙ ap (λ (outs : List Output). outs ++ one i ∷ []) c.loop-k.invariant ∙ append_assoc out before (one i ∷ []) ∙ ap (λ (outs : List Output). out ++ outs) (sym more)
