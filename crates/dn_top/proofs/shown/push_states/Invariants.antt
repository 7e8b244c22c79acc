use Rattle.std.proofs.Common.{◌≡◌, ◌++◌}
use Rattle.guest_any.specs.Any.{any}
use Rattle.dn_model.specs.Network.{state}
use Rattle.dn_world.specs.World.{part}
use Rattle.dn_trace.specs.Trace.{state_lines}
use Rattle.dn_top.specs.Promises.{network_of}
use Rattle.dn_top.proofs.shown.push_states.Given as goal

abbrev pub invariant-loop-router : goal.invariant-loop-router
invariant-loop-router l = l.out ≡ l.fn.out ++ state_lines any l.routers (λ r. state (network_of l.case.header) r (part l.fabric.live.world r).done) l.router
