use Rattle.dn_trace.specs.Streaming.{node_lines}
use Rattle.std.proofs.Common.{rules, arith}
use Rattle.dn_trace.proofs.ends.push_states.Goals as goal

pub loop-router-init : goal.loop-router-init
unfolding node_lines
loop-router-init g c = search rules

pub returns : goal.returns
unfolding node_lines
returns g c = grind arith
