use Rattle.std.proofs.Common.{◌≡◌, ◌++◌}
use Rattle.ospf_lsdb.specs.Database.{reaching_max_age}
use Rattle.ospf_lsdb.proofs.aging.reaching_max_age.Given as goal

abbrev pub invariant-loop-key : goal.invariant-loop-key
invariant-loop-key l = l.keys.items ++ reaching_max_age l.now l.key-iterator ≡ reaching_max_age l.now l.kept.entries
