use Rattle.dn_router.proofs.Zero.{zero_first}
use Rattle.dn_router.proofs.laws.nothing_before_zeros.Goals as goal

pub returns : goal.returns
returns c = λ k. zero_first k
