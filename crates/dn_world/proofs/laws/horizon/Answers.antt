use Rattle.dn_world.proofs.Past.{horizon_past, horizon_least}
use Rattle.dn_world.proofs.Uses.{key_same}
use Rattle.dn_world.proofs.laws.horizon.Goals as goal

pub returns-clause-lower : goal.returns-clause-lower
returns-clause-lower g c = λ net w. horizon_past net w

pub returns-clause-greatest : goal.returns-clause-greatest
returns-clause-greatest g c = λ net w b a. horizon_least net b w a

pub returns-clause-only : goal.returns-clause-only
returns-clause-only g c = λ a b h k. key_same a b h k
