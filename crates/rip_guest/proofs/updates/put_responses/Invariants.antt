use Rattle.std.proofs.Common.{◌≡◌, ◌++◌, map}
use Rattle.std.specs.List.{range_with_len}
use Rattle.rip_wire.specs.Constants.{response_command}
use Rattle.rip_guest.specs.Updates.{message_on, message_part}
use Rattle.rip_guest.proofs.updates.put_responses.Given as goal

abbrev pub invariant-loop-k : goal.invariant-loop-k
invariant-loop-k l = l.out ≡ l.fn.out ++ map (λ k. message_on l.port response_command (message_part l.entries k)) (range_with_len 0 l.k)
