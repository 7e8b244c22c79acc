use Rattle.std.proofs.Common.{refl}
use Rattle.ospf_lsdb.specs.Kept.{with_max_age}
use Rattle.ospf_lsdb.proofs.DatabaseLaws.{named-changed}
use Rattle.ospf_lsdb.proofs.lsdb.Lsdb.flush.Goals as goal

pub invariant_of-self : goal.invariant_of-self
invariant_of-self c = rw c.set_max_age_at.ensures (named-changed c.args.key.now (with_max_age c.args.now) _ (λ k. refl) c.self.invariant)
