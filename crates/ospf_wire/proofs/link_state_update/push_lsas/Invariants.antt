use Rattle.std.proofs.Common.{◌≡◌, ◌++◌, take}
use Rattle.std.specs.Prelude.{All}
use Rattle.ospf_wire.specs.Lsas.{lsas_bytes, FitsHeader}
use Rattle.ospf_wire.proofs.link_state_update.push_lsas.Given as goal

abbrev pub invariant-loop-lsa : goal.invariant-loop-lsa
invariant-loop-lsa l = (l.out.items ≡ l.fn.out.items ++ lsas_bytes (take l.lsa-index l.lsas)) × All (λ x. FitsHeader x.head) (take l.lsa-index l.lsas)
