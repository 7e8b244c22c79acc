use Rattle.std.proofs.Common.{refl}
use Rattle.ospf_lsdb.specs.Kept.{sent_at}
use Rattle.ospf_lsdb.proofs.DatabaseLaws.{named-changed}
use Rattle.ospf_lsdb.proofs.lsdb.Lsdb.note_sent.Goals as goal

pub invariant_of-self : goal.invariant_of-self
invariant_of-self c = rw c.set_sent.ensures (named-changed c.args.key.now (sent_at c.args.now) _ (λ k. refl) c.self.invariant)
