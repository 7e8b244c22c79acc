use Rattle.std.proofs.Common.{◌≡◌, ◌++◌}
use Rattle.dn_lockstep.specs.Agendas.{group_ticks}
use Rattle.dn_plain.proofs.plain.push_ticks.Given as goal

abbrev pub invariant-loop-router : goal.invariant-loop-router
invariant-loop-router l = l.events.items ≡ l.initial.events.items ++ group_ticks l.group l.router
