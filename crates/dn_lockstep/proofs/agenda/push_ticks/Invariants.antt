use Rattle.std.proofs.Common.{◌++◌}
use Rattle.std.specs.List.Sorted.{IsPermutation}
use Rattle.dn_lockstep.specs.Agendas.{group_ticks}
use Rattle.dn_lockstep.proofs.agenda.push_ticks.Given as goal

abbrev pub invariant-loop-router : goal.invariant-loop-router
invariant-loop-router l = IsPermutation (l.initial.queue ++ group_ticks l.group l.router) l.queue
