use Rattle.std.proofs.Common.{◌≡◌, ◌++◌, map, filter}
use Rattle.std.specs.List.{range_with_len}
use Rattle.dn_guest.specs.Ports.{is_up}
use Rattle.ospf_router.proofs.build_updates.put_copies.Given as goal

abbrev pub invariant-loop-port : goal.invariant-loop-port
invariant-loop-port l =
    l.out ≡ l.fn.out ++ filter (λ output. is_up l.mask output.port) (map (λ port. record { port = port; body = l.bytes }) (range_with_len 0 l.port))
