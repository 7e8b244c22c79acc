use Rattle.dn_model.proofs.Same.{settled_same, settled_below_same}
use Rattle.dn_model.proofs.laws.same_families.Goals as goal

pub returns-clause-settled : goal.returns-clause-settled
returns-clause-settled g c = λ net feed f h same a. settled_same net feed f h same a

pub returns-clause-settled_below : goal.returns-clause-settled_below
returns-clause-settled_below g c = λ net feed bound f h same a. settled_below_same net feed f h same bound a
