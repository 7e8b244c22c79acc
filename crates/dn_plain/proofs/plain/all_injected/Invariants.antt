use Rattle.std.proofs.Common.{◌≡◌, ◌++◌, ◌-◌}
use Rattle.dn_model.specs.Network.{externals}
use Rattle.dn_lockstep.specs.Agendas.{later_ticks}
use Rattle.dn_plain.proofs.plain.all_injected.Given as goal

abbrev pub invariant-loop-group : goal.invariant-loop-group
invariant-loop-group l = l.made.items ++ later_ticks l.group (l.header.groups - l.group) l.routers ≡ externals 0 l.feed ++ later_ticks 0 l.header.groups l.routers
