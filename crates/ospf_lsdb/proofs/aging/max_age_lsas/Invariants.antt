use Rattle.std.proofs.Common.{◌≡◌, ◌++◌}
use Rattle.ospf_lsdb.specs.Database.{max_age_lsas}
use Rattle.ospf_lsdb.proofs.aging.max_age_lsas.Given as goal

abbrev pub invariant-loop-key : goal.invariant-loop-key
invariant-loop-key l = l.keys.items ++ max_age_lsas l.now l.key-iterator ≡ max_age_lsas l.now l.kept.entries
