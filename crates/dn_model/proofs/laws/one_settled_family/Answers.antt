use Rattle.dn_model.proofs.Waves.{lockstep_settled, no_other_settled, lockstep_settled_below, no_other_settled_below}
use Rattle.dn_model.proofs.laws.one_settled_family.Goals as goal

pub returns-clause-lockstep_is : goal.returns-clause-lockstep_is
returns-clause-lockstep_is g c = λ net feed timed fed. lockstep_settled net feed timed fed

pub returns-clause-no_other_is : goal.returns-clause-no_other_is
returns-clause-no_other_is g c = λ net feed timed fed f s. no_other_settled net feed timed fed f s

pub returns-clause-lockstep_is_below : goal.returns-clause-lockstep_is_below
returns-clause-lockstep_is_below g c = λ net feed timed fed bound. lockstep_settled_below net feed timed fed bound

pub returns-clause-no_other_is_below : goal.returns-clause-no_other_is_below
returns-clause-no_other_is_below g c = λ net feed timed fed bound f s. no_other_settled_below net feed timed fed bound f s
