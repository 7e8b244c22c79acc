use Rattle.std.proofs.Common.{◌≡◌, ◌++◌}
use Rattle.dn_trace.specs.Streaming.{node_lines}
use Rattle.dn_trace.proofs.ends.push_states.Given as goal

abbrev pub invariant-loop-router : goal.invariant-loop-router
invariant-loop-router g l = l.out ≡ l.fn.out ++ node_lines g.G.Guest.meaning l.routers l.engine.nodes l.router
