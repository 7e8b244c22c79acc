use Rattle.std.proofs.Common.{ℕ, subst, sym}
use Rattle.ospf_wire.specs.Fletcher.{AreCheckBytes, IsChecked, with_sum}
use Rattle.ospf_wire.proofs.FletcherLaws.{right}
use Rattle.ospf_wire.proofs.fletcher.fletcher_set.Goals as goal

pub returns-clause-bytes : goal.returns-clause-bytes
returns-clause-bytes c = subst AreCheckBytes (sym c.ls_checksum-lsa.ensures) (right c.args.lsa.now).0

pub returns-clause-checked : goal.returns-clause-checked
returns-clause-checked c = subst (λ (n : ℕ). IsChecked (with_sum c.args.lsa.now n)) (sym c.ls_checksum-lsa.ensures) (right c.args.lsa.now).1
